use Rattle.std.proofs.Common.{◌≡◌}
use Rattle.decoder.specs.Sequences.{cost_to}
use Rattle.decoder.specs.Tasks.{posed_by}
use Rattle.decoder.proofs.problem.Problem.priced.Given as goal

abbrev pub invariant-loop-j : goal.invariant-loop-j
invariant-loop-j g l = l.cost ≡ cost_to (posed_by g.L.Phases g.M.Measure l.self) l.sequence l.j
