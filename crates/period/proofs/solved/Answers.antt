use Rattle.file.specs.Tables.{data_of}
use Rattle.file.proofs.Written.{sound_data}
use Rattle.period.specs.Equations.{given}
use Rattle.period.specs.Solved.{Fair}
use Rattle.period.proofs.Whole.{all_solved}
use Rattle.period.proofs.solved.Goals as goal

pub returns : goal.returns
returns c =
    let i = c.args.inputs.now in
    let u = c.args.levels.now in
    let t = i.tables.now in
    let g = given i.currents.now i.references.now u.values in
    let fair : Fair (data_of t).horizon g = record { staged = i.staged; currents_small = i.currents_small; references_small = i.references_small; levels_small = u.within } in
    all_solved (data_of t) (sound_data t) g fair c.errors-errors.result.values c.errors-errors.ensures c.thetas-thetas.result.values c.thetas-thetas.ensures _ c.row_products.ensures c.row_products-2.ensures
