use Rattle.std.proofs.Common.{◌≡◌}
use Rattle.decoder.specs.Sequences.{left_over}
use Rattle.decoder.specs.Tasks.{posed_by}
use Rattle.decoder.proofs.problem.Problem.remainder.Given as goal

abbrev pub invariant-loop-k : goal.invariant-loop-k
invariant-loop-k g l = l.left ≡ left_over (posed_by g.L.Phases g.M.Measure l.self) l.at l.j l.k
