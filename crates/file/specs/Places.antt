-- Which entries of a file the rows and places stand for that the code carries.
use Rattle.std.specs.Prelude.{ℕ, ◌+◌}
use Rattle.file.specs.Layout.{above, ahead, columns}
use Rattle.file.specs.declared.rows.Place.{Place}
use Rattle.file.specs.declared.rows.Row.{Row}

-- the first entry of a row, and the one behind its last
abbrev pub start_of : Row → ℕ
start_of r = ahead r.table r.horizon.stages + above r.table r.horizon.stages r.row

abbrev pub end_of : Row → ℕ
end_of r = start_of r + columns r.table r.horizon.stages r.row

abbrev pub entry_of : Place → ℕ
entry_of p = start_of p.row + p.column
