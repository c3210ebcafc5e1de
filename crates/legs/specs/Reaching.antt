-- The costs that rows reach.
use Rattle.std.specs.Prelude.{ℕ, ◌+◌, ◌≤◌, ◌∷◌, ℤ}
use Rattle.std.proofs.Common.{ap, arith}
use Rattle.legs.specs.Measure.{MeasureModel, Reached, Small}

module _ {C : Type 0} (m : MeasureModel C) where
  -- what some rows reach, more rows may reach
  pub reached_within : (j k : ℕ) (c : C) → j ≤ k → Reached m j c → Reached m k c
  reached_within j k c h r = record { differences = r.differences; few = omega (arith, r.few); small = r.small; is = r.is }

  -- one row more
  pub reached_after : (k : ℕ) (c : C) (d : ℤ) → Reached m k c → Small d → Reached m (k + 1) (m.after c d)
  reached_after k c d r h = record { differences = d ∷ r.differences; few = omega (arith, r.few); small = (h, r.small); is = ap (λ x. m.after x d) r.is }
