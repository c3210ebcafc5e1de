use Rattle.std.proofs.Common.{ap, rules}
use Rattle.file.proofs.Cells.{cells_length}
use Rattle.file.proofs.Places.{in_column}
use Rattle.file.proofs.layout.Cell.at.Goals as goal

pub returns-then-entry-count-clause-counted : goal.returns-then-entry-count-clause-counted
returns-then-entry-count-clause-counted c = cells_length c.args.horizon.stages

pub returns-clause-listed : goal.returns-clause-listed
returns-clause-listed c = λ d.
    in_column c.loop-row.row _ _ _ _ d (ap (λ h. h.stages) c.loop-row.invariant.0) (search rules) (search rules) c.cell.ensures

pub returns-clause-counted : goal.returns-clause-counted
returns-clause-counted c = cells_length c.args.horizon.stages
