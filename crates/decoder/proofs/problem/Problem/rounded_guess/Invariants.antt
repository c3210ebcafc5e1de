use Rattle.std.proofs.Common.{◌≡◌, length, take}
use Rattle.decoder.specs.Computed.{rounded_to}
use Rattle.decoder.specs.Tasks.{posed_by, ZeroPast}
use Rattle.decoder.proofs.problem.Problem.rounded_guess.Given as goal

abbrev pub invariant-loop-j : goal.invariant-loop-j
invariant-loop-j g l = (take l.j l.guess ≡ rounded_to (posed_by g.L.Phases g.M.Measure l.self) l.j) × (length l.guess ≡ 15) × ZeroPast (posed_by g.L.Phases g.M.Measure l.self).entries l.guess
