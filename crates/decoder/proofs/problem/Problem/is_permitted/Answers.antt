use Rattle.std.proofs.Common.{◌≡◌, true, false, arith, rules}
use borrow.Author.Tests.{tests}
use Rattle.std.proofs.lemmas.Iterator.{YieldsList-from_range, cases_from_all}
use Rattle.decoder.specs.Computed.{may_be}
use Rattle.decoder.specs.Tasks.{posed_by}
use Rattle.decoder.proofs.Ranges.{permitted_by}
use Rattle.decoder.proofs.problem.Problem.is_permitted.Goals as goal

pub returns : goal.returns
returns g c =
    let P = posed_by g.L.Phases g.M.Measure c.args.self.now in
    let q = c.args.q.now in
    permitted_by P q P.entries c.all.result (cases_from_all _ _ _ (λ j. may_be P q j ≡ true) (λ j. may_be P q j ≡ false) c.all.ensures.ran (YieldsList-from_range 0 P.entries P.entries (cc) (omega arith)) (λ x q k. search (rules, tests)) (λ x q k. search (rules, tests)))
