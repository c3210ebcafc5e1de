use Rattle.std.proofs.Common.{get_or, pos, ◌-ℤ◌, ap, ◌∙◌, arith}
use Rattle.file.specs.Tables.{data_of}
use Rattle.file.proofs.Written.{sound_data}
use Rattle.period.specs.Equations.{error}
use Rattle.period.proofs.Bounds.{difference_fits, difference_is}
use Rattle.period.proofs.Steps.{free}
use Rattle.period.proofs.equations.error.Goals as goal

pub overflow_sub-result : goal.overflow_sub-result
overflow_sub-result c =
    let i = c.args.inputs.now in
    let t = i.tables.now in
    let y = get_or i.references.now c.args.r (pos 0) in
    let f = free (data_of t) (sound_data t) i.currents.now c.row.result.now c.args.r c.rounded_dot.result c.row.ensures.value c.requires i.currents_small c.rounded_dot.ensures in
    difference_fits c.rounded_dot.result y f.1 (omega (arith, i.references_small c.args.r))

pub returns : goal.returns
unfolding error
returns c =
    let i = c.args.inputs.now in
    let t = i.tables.now in
    let y = get_or i.references.now c.args.r (pos 0) in
    let f = free (data_of t) (sound_data t) i.currents.now c.row.result.now c.args.r c.rounded_dot.result c.row.ensures.value c.requires i.currents_small c.rounded_dot.ensures in
    difference_is c.rounded_dot.result y f.1 (omega (arith, i.references_small c.args.r)) ∙ ap (λ z. z -ℤ y) f.0
