-- The layout of a table file for a horizon of n stages: which tables, of which shape, in which order, within which limits.
-- Rows, columns and entries are numbered from 0.
use Rattle.std.specs.Prelude.{◌≡◌, ℕ, zero, suc, ◌+◌, ◌*◌, ◌<◌, Bool, true, false, ◌&&◌, List, [], ◌∷◌, ◌++◌, map, ℤ, pos, neg_ℤ, ◌≤ℤ◌, ◌==◌, int_le, codes}
use Rattle.std.specs.List.{range_with_len, flat_map}
use Rattle.file.specs.declared.layout.Cell.{Cell}
use Rattle.file.specs.declared.layout.Table.{Table}
use Rattle.file.specs.declared.layout.Table.TheVariants.{Weight, Gamma, Upsilon, Unconstrained, Target, Generator}

-- the letter of a table in the documents; Γ and Υ take two bytes
abbrev pub letter : Table → List ℕ
letter Weight = codes "w"
letter Gamma = 206 ∷ (147 ∷ [])
letter Upsilon = 206 ∷ (165 ∷ [])
letter Unconstrained = codes "P"
letter Target = codes "T"
letter Generator = codes "V"

-- how many rows a table has
abbrev pub rows : Table → ℕ → ℕ
rows Weight n = 1
rows Gamma n = 2 * n
rows Upsilon n = 2 * n
rows Unconstrained n = 3 * n
rows Target n = 3 * n
rows Generator n = 3 * n

-- how many columns row r of a table has; the generator's rows end at its diagonal
abbrev pub columns : Table → ℕ → ℕ → ℕ
columns Weight n r = 1
columns Gamma n r = 2
columns Upsilon n r = 3 * n
columns Unconstrained n r = 3 * n
columns Target n r = 3 * n
columns Generator n r = r + 1

-- the limits of a table's entries
abbrev pub least : Table → ℤ
least Weight = pos 0
least Gamma = neg_ℤ (pos 8192)
least Upsilon = neg_ℤ (pos 4096)
least Unconstrained = neg_ℤ (pos 1048576)
least Target = neg_ℤ (pos 65536)
least Generator = neg_ℤ (pos 1048576)

abbrev pub greatest : Table → ℤ
greatest Weight = pos 65536
greatest Gamma = pos 8192
greatest Upsilon = pos 4096
greatest Unconstrained = pos 1048576
greatest Target = pos 65536
greatest Generator = pos 1048576

abbrev pub Limited : Table → ℤ → Type 0
Limited t z = (least t ≤ℤ z) × (z ≤ℤ greatest t)

abbrev pub limited : Table → ℤ → Bool
limited t z = int_le (least t) z && int_le z (greatest t)

-- how many entries a table has in the rows above row r
abbrev pub above : Table → ℕ → ℕ → ℕ
above t n zero = 0
above t n (suc r) = above t n r + columns t n r

abbrev pub size : Table → ℕ → ℕ
size t n = above t n (rows t n)

-- how many entries a file has in front of a table
abbrev pub ahead : Table → ℕ → ℕ
ahead Weight n = 0
ahead Gamma n = size Weight n
ahead Upsilon n = size Weight n + size Gamma n
ahead Unconstrained n = size Weight n + size Gamma n + size Upsilon n
ahead Target n = size Weight n + size Gamma n + size Upsilon n + size Unconstrained n
ahead Generator n = size Weight n + size Gamma n + size Upsilon n + size Unconstrained n + size Target n

-- the table behind a table
abbrev pub following : Table → Table
following Weight = Gamma
following Gamma = Upsilon
following Upsilon = Unconstrained
following Unconstrained = Target
following Target = Generator
following Generator = Generator

-- how many entries a file has
abbrev pub count : ℕ → ℕ
count n = ahead Generator n + size Generator n

-- which entry of the file stands at a row and column of a table
abbrev pub index : Table → ℕ → ℕ → ℕ → ℕ
index t n r c = ahead t n + above t n r + c

abbrev pub cell : Table → ℕ → ℕ → Cell
cell t r c = record { table = t; row = r; column = c }

-- its table has such a cell
abbrev pub InTable : ℕ → Cell → Type 0
InTable n x = (x.row < rows x.table n) × (x.column < columns x.table n x.row)

abbrev pub place : ℕ → Cell → ℕ
place n x = index x.table n x.row x.column

-- entry k of the file stands in the cell x
abbrev pub CellOf : ℕ → ℕ → Cell → Type 0
CellOf n k x = InTable n x × (place n x ≡ k)

-- the cells of a table's first r rows, row by row
abbrev pub row_cells : Table → ℕ → ℕ → List Cell
row_cells t n zero = []
row_cells t n (suc r) = row_cells t n r ++ map (cell t r) (range_with_len 0 (columns t n r))

-- the cells in the order of the file
unfoldable pub cells : ℕ → List Cell
cells n = flat_map (λ t. row_cells t n (rows t n)) (Weight ∷ (Gamma ∷ (Upsilon ∷ (Unconstrained ∷ (Target ∷ (Generator ∷ []))))))

-- a cell on the generator's diagonal
abbrev pub is_generator : Table → Bool
is_generator Weight = false
is_generator Gamma = false
is_generator Upsilon = false
is_generator Unconstrained = false
is_generator Target = false
is_generator Generator = true

abbrev pub on_diagonal : Cell → Bool
on_diagonal x = is_generator x.table && x.row == x.column
