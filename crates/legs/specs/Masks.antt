-- The bits of a mask.
use Rattle.std.specs.Prelude.{◌≡◌, ℕ, ◌/◌, ◌^◌, ◌<◌, ◌≤◌, false}
use Rattle.std.proofs.Common.{arith, pow_mono}
use Rattle.std.proofs.Math.Nat.{div-eq_of_lt}
use Rattle.legs.specs.Kinds.{bit}

-- a mask below 2 ^ n has no bit at n or above
pub no_high_bit : (mask n k : ℕ) → mask < 2 ^ n → n ≤ k → bit mask k ≡ false
no_high_bit mask n k small above =
    let low : mask < 2 ^ k = omega (arith, pow_mono above) in
    let none : mask / 2 ^ k ≡ 0 = div-eq_of_lt low in
    rw none
