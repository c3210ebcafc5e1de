use Rattle.std.proofs.Common.{sym, ◌∙◌, arith}
use Rattle.period.proofs.Outside.{currents_small, references_small}
use Rattle.period.proofs.inputs.check.Goals as goal

pub invariant_of-result : goal.invariant_of-result
invariant_of-result c =
    let i = c.args.currents.now in
    let y = c.args.references.now in
    let none = sym c.first_outside_range.ensures ∙ c.in-None.is in
    record { staged = omega arith; currents_small = currents_small i y none; references_small = references_small i y none }
