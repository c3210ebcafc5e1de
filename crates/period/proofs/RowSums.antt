-- Sums over a row as it is read from the tables.
use Rattle.std.proofs.Common.{◌≡◌, ℕ, ◌<◌, List, map, length, get_or, ℤ, pos, ◌*ℤ◌, ap, ◌∙◌, arith}
use Rattle.std.specs.List.{range_with_len}
use Rattle.std.proofs.lemmas.List.FromFn.{get_or-map-range_with_len, length-map-range_with_len}
use Rattle.std.proofs.lemmas.Bool.{cond-true, lt-ltb}
use Rattle.file.specs.File.{TableData, entry, row_reading}
use Rattle.file.specs.Layout.{columns, rows}
use Rattle.file.specs.declared.layout.Table.{Table}
use Rattle.period.specs.Sums.{sum_to}
use Rattle.period.proofs.Bounds.{sum_to_same}

module _ (d : TableData) (t : Table) (r : ℕ) (row : List ℤ) (is : row ≡ row_reading d t r) (there : r < rows t d.horizon) where
  whole : row ≡ map (entry d t r) (range_with_len 0 (columns t d.horizon r))
  whole = is ∙ cond-true _ _ _ (lt-ltb r _ there)

  pub row_length : length row ≡ columns t d.horizon r
  row_length = ap length whole ∙ length-map-range_with_len (entry d t r) 0 (columns t d.horizon r)

  pub row_entry : (k : ℕ) → k < columns t d.horizon r → get_or row k (pos 0) ≡ entry d t r k
  row_entry k h = ap (λ xs. get_or xs k (pos 0)) whole ∙ get_or-map-range_with_len (entry d t r) 0 (columns t d.horizon r) k k (pos 0) h (omega arith)

  pub row_sum : (x : ℕ → ℤ) (m : ℕ) → columns t d.horizon r ≡ m → sum_to (length row) (λ k. get_or row k (pos 0) *ℤ x k) ≡ sum_to m (λ k. entry d t r k *ℤ x k)
  row_sum x m e =
      ap (λ n. sum_to n (λ k. get_or row k (pos 0) *ℤ x k)) (row_length ∙ e)
      ∙ sum_to_same (λ k. get_or row k (pos 0) *ℤ x k) (λ k. entry d t r k *ℤ x k) m (λ k h. ap (λ z. z *ℤ x k) (row_entry k (omega (arith, e))))
