use Rattle.std.proofs.Common.{suc, ◌+◌, ◌-◌, ◌*◌, get_or}
use Rattle.legs.specs.Model.{most_positions}
use Rattle.decoder.specs.Tasks.{posed_by}
use Rattle.decoder.proofs.Searching.{Stands}
use Rattle.decoder.proofs.problem.Problem.search_from.Given as goal

abbrev pub invariant-back : goal.invariant-back
invariant-back g l = Stands (posed_by g.L.Phases g.M.Measure l.self) l.limit l.fn.start.sequence l.j l.at l.costs l.left l.count l.best l.best_cost

abbrev pub decreases-back : goal.decreases-back
decreases-back g l = suc most_positions * l.j + (most_positions - get_or l.at l.j 0)

abbrev pub invariant-search : goal.invariant-search
invariant-search g l = Stands (posed_by g.L.Phases g.M.Measure l.self) l.limit l.fn.start.sequence l.j l.at l.costs l.left l.count l.best l.best_cost

abbrev pub decreases-search : goal.decreases-search
decreases-search g l = l.limit - l.count
