-- From one cell of a file to the next.
use Rattle.std.proofs.Common.{◌≡◌, ℕ, zero, suc, ◌+◌, ◌<◌, ◌≤◌, get_or, sym, refl, ap, ◌∙◌, subst, inl, inr, add-one, arith}
use Rattle.std.proofs.lemmas.Bool.{cases_lt}
use Rattle.file.proofs.Cells.{stands}
use Rattle.file.specs.Layout.{cells, rows, columns, above, size, ahead, following, count, index, cell, InTable, place, CellOf}
use Rattle.file.specs.declared.layout.Cell.{Cell}
use Rattle.file.specs.declared.layout.Table.{Table}
use Rattle.file.specs.declared.layout.Table.TheVariants.{Weight, Gamma, Upsilon, Unconstrained, Target, Generator}

pub some_column : (t : Table) (n r : ℕ) → 1 ≤ n → 0 < columns t n r
some_column Weight n r h = omega arith
some_column Gamma n r h = omega arith
some_column Upsilon n r h = omega arith
some_column Unconstrained n r h = omega arith
some_column Target n r h = omega arith
some_column Generator n r h = omega arith

pub some_row : (t : Table) (n : ℕ) → 1 ≤ n → 0 < rows t n
some_row Weight n h = omega arith
some_row Gamma n h = omega arith
some_row Upsilon n h = omega arith
some_row Unconstrained n h = omega arith
some_row Target n h = omega arith
some_row Generator n h = omega arith

-- the next row
pub next_row : (t : Table) (n r c : ℕ) → 1 ≤ n → r + 1 < rows t n → c < columns t n r → columns t n r ≤ c + 1 → CellOf n (index t n r c + 1) (cell t (r + 1) 0)
next_row t n r c o h k l = ((h, some_column t n (r + 1) o), rw (add-one r) (omega arith))

-- behind the last cell of a table stands the first of the next
pub behind_others : (t f : Table) (n : ℕ) → (t ≡ Generator → ⊥) → f ≡ following t → (ahead f n ≡ ahead t n + size t n) × (ahead f n ≤ count n)
behind_others t f n h e = subst (λ (x : Table). (ahead x n ≡ ahead t n + size t n) × (ahead x n ≤ count n)) (sym e) (by_table t h)
  where
    by_table : (s : Table) → (s ≡ Generator → ⊥) → (ahead (following s) n ≡ ahead s n + size s n) × (ahead (following s) n ≤ count n)
    by_table Weight g = (omega arith, omega arith)
    by_table Gamma g = (refl, omega arith)
    by_table Upsilon g = (refl, omega arith)
    by_table Unconstrained g = (refl, omega arith)
    by_table Target g = (refl, omega arith)
    by_table Generator g = absurd (g refl)

follows : (t : Table) (n : ℕ) → ahead t n + size t n < count n → ahead (following t) n ≡ ahead t n + size t n
follows Weight n h = omega arith
follows Gamma n h = refl
follows Upsilon n h = refl
follows Unconstrained n h = refl
follows Target n h = refl
follows Generator n h = absurd (omega arith)

pub ends : (t : Table) (n r c : ℕ) → r < rows t n → rows t n ≤ r + 1 → c < columns t n r → columns t n r ≤ c + 1 → index t n r c + 1 ≡ ahead t n + size t n
ends t n r c h j k l =
    let e : rows t n ≡ suc r = omega arith in
    let f : index t n r c + 1 ≡ ahead t n + (above t n r + columns t n r) = omega arith in
    f ∙ subst (λ (m : ℕ). ahead t n + (above t n r + columns t n r) ≡ ahead t n + above t n m) (sym e) refl

pub next_table : (t : Table) (n r c : ℕ) (f : Table) → f ≡ following t → 1 ≤ n → r < rows t n → rows t n ≤ r + 1 → c < columns t n r → columns t n r ≤ c + 1 → index t n r c + 1 < count n → CellOf n (index t n r c + 1) (cell f 0 0)
next_table t n r c f g o h j k l m =
    let e = ends t n r c h j k l in
    let b : ahead t n + size t n < count n = omega arith in
    subst (λ (x : Table). CellOf n (index t n r c + 1) (cell x 0 0)) (sym g)
    ((some_row (following t) n o, some_column (following t) n 0 o), omega (arith, follows t n b))

-- the entry behind one
next_column : (t : Table) (n r c : ℕ) → r < rows t n → c + 1 < columns t n r → CellOf n (index t n r c + 1) (cell t r (c + 1))
next_column t n r c h k = ((h, k), omega arith)

-- a cell for the entry behind that of x
following_cell : (n : ℕ) (x : Cell) → 1 ≤ n → InTable n x → place n x + 1 < count n → (y : Cell) × CellOf n (place n x + 1) y
following_cell n x o h m =
    elim (cases_lt (x.column + 1) (columns x.table n x.row)) [
      | inl k ↦ (cell x.table x.row (x.column + 1), next_column x.table n x.row x.column h.0 k)
      | inr k ↦ elim (cases_lt (x.row + 1) (rows x.table n)) [
        | inl j ↦ (cell x.table (x.row + 1) 0, next_row x.table n x.row x.column o j h.1 k)
        | inr j ↦ (cell (following x.table) 0 0, next_table x.table n x.row x.column (following x.table) refl o h.0 j h.1 k m)
      ]
    ]

-- the cell that stands at an index is the one that the file has there
listed : (n k : ℕ) (y d : Cell) → CellOf n k y → CellOf n k (get_or (cells n) k d)
listed n k y d c =
    let e : get_or (cells n) k d ≡ y = ap (λ (i : ℕ). get_or (cells n) i d) (sym c.1) ∙ stands n y.table y.row y.column d c.0.0 c.0.1 in
    subst (CellOf n k) (sym e) c

pub each_cell : (n k : ℕ) (d : Cell) → 1 ≤ n → k < count n → CellOf n k (get_or (cells n) k d)
each_cell n zero d o h = listed n 0 (cell Weight 0 0) d ((omega arith, omega arith), refl)
each_cell n (suc k) d o h = step (each_cell n k d o (omega arith))
  where
    step : CellOf n k (get_or (cells n) k d) → CellOf n (suc k) (get_or (cells n) (suc k) d)
    step c =
        let f = following_cell n (get_or (cells n) k d) o c.0 (omega (arith, c.1)) in
        let e : place n (get_or (cells n) k d) + 1 ≡ suc k = omega (arith, c.1) in
        listed n (suc k) f.0 d (subst (λ (i : ℕ). CellOf n i f.0) e f.1)
