use Rattle.file.proofs.Sizes.{above_generator, above_others}
use Rattle.file.proofs.rows.Row.above.Goals as goal

pub returns-in-Generator : goal.returns-in-Generator
returns-in-Generator c = let r = c.args.self in above_generator r.table c.in-Generator.is r.horizon.stages r.row

pub returns-in_default : goal.returns-in_default
returns-in_default c = let r = c.args.self in rw c.columns.ensures (above_others r.table c.in_default.not-Generator r.horizon.stages r.row)
