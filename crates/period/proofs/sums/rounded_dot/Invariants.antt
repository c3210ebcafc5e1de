use Rattle.std.proofs.Common.{◌≡◌, ◌*◌, ◌^◌, length, get_or, pos, ◌*ℤ◌}
use Rattle.period.specs.Sums.{Within, sum_to}
use Rattle.period.proofs.sums.rounded_dot.Given as goal

abbrev pub invariant-loop-entry : goal.invariant-loop-entry
invariant-loop-entry l =
    (l.sum ≡ sum_to (length l.yielded) (λ k. get_or l.row k (pos 0) *ℤ get_or l.xs k (pos 0))) × Within (length l.yielded * 2 ^ 51) l.sum
