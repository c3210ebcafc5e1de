use Rattle.std.proofs.Common.{◌≡◌, Some, ℤ, fold, sym, ap, ◌∙◌, w32, to_z, of_z, rules}
use Rattle.std.proofs.lemmas.Int.{to_z-of_z}
use Rattle.std.proofs.lemmas.Iterator.{YieldsList-from_slice}
use Rattle.std.proofs.lemmas.Iterator.Consumers.{YieldsList-from_copied, fold_from_yields_List}
use Rattle.inspect.specs.Extremes.{including}
use Rattle.inspect.specs.declared.survey.Extremes.{Extremes}
use Rattle.inspect.proofs.Folding.{from_first}
use Rattle.inspect.proofs.survey.Extremes.of.Goals as goal

pub returns : goal.returns
returns c =
    let x = c.in_ok-first.field-0.now in
    let is : to_z w32 (of_z w32 x) ≡ x = to_z-of_z w32 x (search rules) in
    let all = fold_from_yields_List _ including _ c.fold.result c.fold.ensures.ran (YieldsList-from_copied (YieldsList-from_slice c.args.entries.now cc)) (λ a y b q k. search rules) in
    ap (λ (e : Extremes). Some e)
    (all ∙ ap (λ (z : ℤ). fold including (record { least = z; greatest = z }) c.args.entries.now) is)
    ∙ from_first c.args.entries.now x (sym c.in_ok-first.ensures.value)
