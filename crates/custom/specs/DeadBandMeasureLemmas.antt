-- That the dead band's sum never wraps over the costs that rows reach, which its laws rest on.
use Rattle.std.specs.Prelude.{ℕ, ◌+◌, ◌-◌, ◌*◌, ◌%◌, ◌^◌, ◌<◌, ◌≤◌, ℤ, unsigned_abs, refl}
use Rattle.std.proofs.Common.{mod-eq_of_lt, arith}
use Rattle.std.proofs.Math.Nat.{mod-le}
use Rattle.legs.specs.Measure.{Reached, Small}
use Rattle.legs.proofs.Bounds.{bounded}
use Rattle.custom.specs.DeadBand.{dead_band}

module _ (width : ℕ) where
  adds : (c : ℕ) (d : ℤ) → Small d → (c + (unsigned_abs d - width)) % 2 ^ 32 ≤ c + 161218560
  adds c d small = omega (arith, mod-le (c + (unsigned_abs d - width)) (2 ^ 32), small)

  low : (k c : ℕ) → Reached (dead_band width) k c → c ≤ k * 161218560
  low = bounded (dead_band width) (λ c. c) 161218560 refl adds

  -- the sum does not begin again
  pub grows : (c : ℕ) (d : ℤ) → Reached (dead_band width) 14 c → Small d → c ≤ (c + (unsigned_abs d - width)) % 2 ^ 32
  grows c d r small =
      let fits : c + (unsigned_abs d - width) < 2 ^ 32 = omega (arith, low 14 c r, small) in
      rw (mod-eq_of_lt fits) (omega arith)
