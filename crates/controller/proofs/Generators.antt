-- The generator's rows as one list.
use Rattle.std.proofs.Common.{◌≡◌, ℕ, zero, suc, ◌+◌, ◌-◌, ◌<◌, ◌≤◌, ◌⊎◌, List, length, get_or, take, drop, ℤ, pos, nat_abs, ◌∙◌, inl, inr, arith, lit≤}
use Rattle.std.proofs.lemmas.List.{get_or-drop, get_or-take, length-drop, length-take-le}
use Rattle.std.proofs.lemmas.Bool.{cases_lt}
use Rattle.file.specs.File.{table_reading}
use Rattle.file.specs.Layout.{above, ahead, cell, columns, count, rows, size}
use Rattle.file.specs.Tables.{data_of}
use Rattle.file.specs.declared.layout.Table.TheVariants.{Generator}
use Rattle.file.specs.declared.tables.Tables.{Tables}
use Rattle.file.proofs.Accepted.{table_inside}
use Rattle.file.proofs.Inside.{entry_bound}
use Rattle.file.proofs.Sizes.{by_horizon, count_bound}
use Rattle.period.proofs.Limits.{limited_wide}

-- a row and a column of the triangle
pub record At (n r k : ℕ) : Type 0 where
  pub row : ℕ
  pub column : ℕ
  pub above_it : row < r
  pub inside : column < columns Generator n row
  pub is : k ≡ above Generator n row + column

-- every place among the first r rows has one
found : (n r k : ℕ) → k < above Generator n r → At n r k
found n zero k h = absurd (omega arith)
found n (suc r) k h = way (cases_lt k (above Generator n r)) (found n r k)
  where
    way : (k < above Generator n r) ⊎ (above Generator n r ≤ k) → (k < above Generator n r → At n r k) → At n (suc r) k
    way (inl l) ih = let a = ih l in record { row = a.row; column = a.column; above_it = omega (arith, a.above_it); inside = a.inside; is = a.is }
    way (inr l) ih = record { row = r; column = k - above Generator n r; above_it = omega arith; inside = omega arith; is = omega arith }

few_entries : (n : ℕ) → 1 ≤ n → n ≤ 5 → size Generator n ≤ 120
few_entries = by_horizon (λ n. size Generator n ≤ 120) (lit≤ tt) (lit≤ tt) (lit≤ tt) (lit≤ tt) (lit≤ tt)

module _ (t : Tables) where
  abbrev n : ℕ
  n = t.horizon.stages

  abbrev part : List ℤ
  part = table_reading (data_of t) Generator

  pub generator_length : length part ≡ size Generator n
  generator_length =
      let c = count_bound n t.horizon.some t.horizon.few in
      let i = table_inside Generator n in
      let e : length (take (count n) t.entries) ≡ count n = length-take-le (count n) t.entries (omega (arith, t.sized)) in
      length-take-le (size Generator n) (drop (ahead Generator n) (take (count n) t.entries)) (omega (arith, length-drop (ahead Generator n) (take (count n) t.entries)))

  pub generator_fits : length part ≤ 120
  generator_fits = omega (arith, generator_length, few_entries n t.horizon.some t.horizon.few)

  pub generator_within : (k : ℕ) → k < length part → nat_abs (get_or part k (pos 0)) ≤ 1048576
  generator_within k h =
      let l : k < size Generator n = omega (arith, generator_length) in
      let a = found n (rows Generator n) k l in
      let i = table_inside Generator n in
      let e : get_or part k (pos 0) ≡ get_or t.entries (ahead Generator n + k) (pos 0) =
      get_or-take (size Generator n) (drop (ahead Generator n) (take (count n) t.entries)) k (pos 0) l
      ∙ get_or-drop (ahead Generator n) (take (count n) t.entries) k (pos 0)
      ∙ get_or-take (count n) t.entries (ahead Generator n + k) (pos 0) (omega arith) in
      let b = entry_bound t (cell Generator a.row a.column) (ahead Generator n + k) (a.above_it, a.inside) (omega (arith, a.is)) in
      rw e (limited_wide Generator (get_or t.entries (ahead Generator n + k) (pos 0)) b)
