use Rattle.std.proofs.Common.{None, sym, ap, ◌∙◌, arith, rules}
use borrow.Author.Tests.{tests}
use Rattle.std.proofs.lemmas.Iterator.{YieldsList-from_range}
use Rattle.std.proofs.lemmas.Iterator.Consumers.{YieldsList-from_filter, fold_from_yields_List}
use Rattle.decoder.specs.Sequences.{leg_of}
use Rattle.decoder.specs.Computed.{nearer, or_zero}
use Rattle.decoder.specs.Tasks.{posed_by}
use Rattle.decoder.proofs.Ranges.{nearest_list}
use Rattle.decoder.proofs.problem.Problem.nearest.Goals as goal

pub returns : goal.returns
returns g c =
    let P = posed_by g.L.Phases g.M.Measure c.args.self.now in
    let n = (leg_of P c.args.j).count in
    c.unwrap_or.ensures
    ∙ ap or_zero (fold_from_yields_List _ (nearer P c.args.j) None c.fold.result c.fold.ensures.ran (YieldsList-from_filter _ ((leg_of P c.args.j).permits c.args.from) (YieldsList-from_range 0 n n (cc) (omega arith)) c.filter.ensures.closure (λ x r q k. search (rules, tests))) (λ a y b q k. search rules) ∙ sym (nearest_list P c.args.j c.args.from n))
