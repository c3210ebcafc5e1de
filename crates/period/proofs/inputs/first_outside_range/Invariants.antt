use Rattle.std.proofs.Common.{◌≡◌, ℕ, ◌<◌, true, length}
use Rattle.period.specs.Inputs.{allowed_at}
use Rattle.period.proofs.inputs.first_outside_range.Given as goal

abbrev pub invariant-loop-place : goal.invariant-loop-place
invariant-loop-place l = (k : ℕ) → k < length l.yielded → allowed_at l.currents l.references k ≡ true
