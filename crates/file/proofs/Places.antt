-- From one row to the next, and what the file has in a row.
use Rattle.std.proofs.Common.{◌≡◌, ℕ, suc, ◌+◌, ◌<◌, ◌≤◌, Option, Some, None, MatchOption, get_or, sym, subst, add-one, arith}
use Rattle.file.specs.Layout.{above, ahead, cell, cells, columns, count, rows, size}
use Rattle.file.specs.Places.{end_of, start_of}
use Rattle.file.specs.declared.layout.Cell.{Cell}
use Rattle.file.specs.declared.layout.Table.{Table}
use Rattle.file.specs.declared.rows.Row.{Row}
use Rattle.file.proofs.Cells.{stands}

-- what `Row::of` answers for a row that the table has
module _ (self : Row) (t : Table) (m : ℕ) (there : m < rows t self.horizon.stages) (starts : ahead t self.horizon.stages + above t self.horizon.stages m ≡ end_of self) where
  pub found : (o : Option Row) → MatchOption o (rows t self.horizon.stages ≤ m) (λ r. (r.table ≡ t) × (r.horizon ≡ self.horizon) × (r.row ≡ m)) → MatchOption o (end_of self ≡ count self.horizon.stages) (λ r. (r.horizon ≡ self.horizon) × (start_of r ≡ end_of self))
  found None e = absurd (omega arith)
  found (Some r) e = (e.1, (let a = e.0 in let b = e.1 in let d = e.2 in cc))

-- the next row of the table
pub row_below : (self : Row) → ahead self.table self.horizon.stages + above self.table self.horizon.stages (self.row + 1) ≡ end_of self
row_below self = rw (add-one self.row) (omega arith)

-- a last row ends where its table does
pub last_row : (self : Row) → rows self.table self.horizon.stages ≤ self.row + 1 → end_of self ≡ ahead self.table self.horizon.stages + size self.table self.horizon.stages
last_row self l =
    let e : rows self.table self.horizon.stages ≡ suc self.row = omega (arith, self.there) in
    subst (λ (m : ℕ). end_of self ≡ ahead self.table self.horizon.stages + above self.table self.horizon.stages m) (sym e) (omega arith)

-- what the file has at a row's column
pub in_column : (row : Row) (n c k : ℕ) (x d : Cell) → row.horizon.stages ≡ n → c < columns row.table row.horizon.stages row.row → k ≡ start_of row + c → x ≡ cell row.table row.row c → get_or (cells n) k d ≡ x
in_column row n c k x d e h f g = let s = stands row.horizon.stages row.table row.row c d row.there h in cc
