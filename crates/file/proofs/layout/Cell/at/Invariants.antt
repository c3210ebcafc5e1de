use Rattle.std.proofs.Common.{◌≡◌, ◌-◌, ◌≤◌}
use Rattle.file.specs.Layout.{count}
use Rattle.file.specs.Places.{start_of}
use Rattle.file.proofs.layout.Cell.at.Given as goal

abbrev pub invariant-loop-row : goal.invariant-loop-row
invariant-loop-row l = (l.row.horizon ≡ l.fn.horizon) × (start_of l.row ≤ l.entry)

abbrev pub decreases-loop-row : goal.decreases-loop-row
decreases-loop-row l = count l.fn.horizon.stages - start_of l.row
