use Rattle.std.proofs.Common.{ℕ, ◌<◌, get_or, pos}
use Rattle.period.proofs.rows.first_rows.Given as goal

abbrev pub invariant-loop-k : goal.invariant-loop-k
invariant-loop-k g l = (k : ℕ) → k < l.k → goal.F-post g l.number k (get_or l.place-items k (pos 0))
