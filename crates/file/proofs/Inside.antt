-- Entries and rows inside a file.
use Rattle.std.proofs.Common.{◌≡◌, ℕ, ◌+◌, ◌-◌, ◌<◌, ◌≤◌, List, map, length, get_or, take, drop, ℤ, pos, sym, ap, ◌∙◌, subst, arith}
use Rattle.std.specs.List.{range_with_len}
use Rattle.std.proofs.lemmas.List.FromFn.{get_or-map-range_with_len, length-map-range_with_len}
use Rattle.std.proofs.lemmas.List.{drop-take, ext_get_or, get_or-drop, get_or-take, length-drop, length-take-le, take-take}
use Rattle.file.specs.File.{entry}
use Rattle.file.specs.Layout.{Limited, rows, columns, above, ahead, count, cell, InTable, place}
use Rattle.file.specs.Places.{end_of, entry_of}
use Rattle.file.specs.Tables.{data_of}
use Rattle.file.specs.declared.horizon.Horizon.{Horizon}
use Rattle.file.specs.declared.layout.Cell.{Cell}
use Rattle.file.specs.declared.layout.Table.{Table}
use Rattle.file.specs.declared.rows.Place.{Place}
use Rattle.file.specs.declared.rows.Row.{Row}
use Rattle.file.specs.declared.tables.Tables.{Tables}
use Rattle.file.proofs.Accepted.{place_inside, table_inside}
use Rattle.file.proofs.Cells.{row_above}
use Rattle.file.proofs.Sizes.{count_bound}

pub row_inside : (r : Row) → (end_of r ≤ count r.horizon.stages) × (count r.horizon.stages ≤ 741)
row_inside r =
    let n = r.horizon.stages in
    (omega (arith, row_above r.table n r.row (rows r.table n) r.there, table_inside r.table n), count_bound n r.horizon.some r.horizon.few)

-- an entry of the tables, read from the array
pub entry_read : (t : Tables) (x : Cell) (i : ℕ) → InTable t.horizon.stages x → i ≡ place t.horizon.stages x → get_or t.entries i (pos 0) ≡ entry (data_of t) x.table x.row x.column
entry_read t x i h e =
    ap (λ (k : ℕ). get_or t.entries k (pos 0)) e
    ∙ sym (get_or-take (count t.horizon.stages) t.entries (place t.horizon.stages x) (pos 0) (place_inside t.horizon.stages x h))

pub entry_bound : (t : Tables) (x : Cell) (i : ℕ) → InTable t.horizon.stages x → i ≡ place t.horizon.stages x → Limited x.table (get_or t.entries i (pos 0))
entry_bound t x i h e = subst (λ (k : ℕ). Limited x.table (get_or t.entries k (pos 0))) (sym e) (t.limited x h)

pub place_bound : (t : Tables) (p : Place) (i : ℕ) (s : Table) → p.row.table ≡ s → p.row.horizon ≡ t.horizon → i ≡ entry_of p → Limited s (get_or t.entries i (pos 0))
place_bound t p i s e f g =
    subst (λ (u : Table). Limited u (get_or t.entries i (pos 0))) e
    (let x = cell p.row.table p.row.row p.column in
    entry_bound t x i
    (subst (λ (h : Horizon). InTable h.stages x) f (p.row.there, p.within))
    (subst (λ (h : Horizon). i ≡ place h.stages x) f g))

-- a row of the tables, read from the array
module _ (t : Tables) (s : Table) (r start m : ℕ) (h : r < rows s t.horizon.stages) (e : start ≡ ahead s t.horizon.stages + above s t.horizon.stages r) (f : m ≡ columns s t.horizon.stages r) where
  fit : start + m ≤ length t.entries
  fit = let n = t.horizon.stages in omega (arith, row_above s n r (rows s n) h, table_inside s n, count_bound n t.horizon.some t.horizon.few, t.sized)

  pub row_long : length (take m (drop start t.entries)) ≡ m
  row_long = length-take-le m (drop start t.entries) (omega (arith, length-drop start t.entries, fit))

  at : (k : ℕ) → k < m → get_or (take m (drop start t.entries)) k (pos 0) ≡ get_or t.entries (start + k) (pos 0)
  at k l = get_or-take m (drop start t.entries) k (pos 0) l ∙ get_or-drop start t.entries k (pos 0)

  pub row_bound : (k : ℕ) → k < length (take m (drop start t.entries)) → Limited s (get_or (take m (drop start t.entries)) k (pos 0))
  row_bound k l =
      let j : k < m = omega (arith, row_long) in
      subst (Limited s) (sym (at k j)) (entry_bound t (cell s r k) (start + k) (h, omega arith) (omega arith))

  pub row_value : take m (drop start t.entries) ≡ map (entry (data_of t) s r) (range_with_len 0 (columns s t.horizon.stages r))
  row_value =
      ext_get_or (pos 0) (take m (drop start t.entries)) (map (entry (data_of t) s r) (range_with_len 0 (columns s t.horizon.stages r)))
      (row_long ∙ f ∙ sym (length-map-range_with_len (entry (data_of t) s r) 0 (columns s t.horizon.stages r)))
      (λ k l.
      let j : k < m = omega (arith, row_long) in
      let q : k < columns s t.horizon.stages r = omega arith in
      at k j ∙ entry_read t (cell s r k) (start + k) (h, q) (omega arith)
      ∙ sym (get_or-map-range_with_len (entry (data_of t) s r) 0 (columns s t.horizon.stages r) k k (pos 0) q (omega arith)))

-- a part of the array inside the entries in use
pub part_value : (m : ℕ) (es : List ℤ) (start wide size : ℕ) → wide ≡ size → start + size ≤ m → take wide (drop start es) ≡ take size (drop start (take m es))
part_value m es start wide size e h =
    let k : m ≡ start + (m - start) = omega arith in
    ap (λ (w : ℕ). take w (drop start es)) e
    ∙ sym (take-take size (m - start) (drop start es) (omega arith))
    ∙ ap (take size) (sym (drop-take start (m - start) es) ∙ ap (λ (i : ℕ). drop start (take i es)) (sym k))
