-- What the steps of the equations come to.
use Rattle.std.proofs.Common.{◌≡◌, ℕ, ◌*◌, ◌^◌, ◌<◌, List, length, get_or, ℤ, pos, ◌*ℤ◌, refl, ap, ◌∙◌, arith}
use Rattle.file.specs.File.{Sound, TableData, entry, row_reading}
use Rattle.file.specs.declared.layout.Table.TheVariants.{Gamma}
use Rattle.period.specs.Sums.{EachWithin, Within, rounded, sum_to}
use Rattle.period.proofs.Bounds.{within_as}
use Rattle.period.proofs.Limits.{free_within}
use Rattle.period.proofs.RowSums.{row_sum}

-- the rounded sum of a row of Γ, as it is read
pub free : (d : TableData) (s : Sound d) (i row : List ℤ) (r : ℕ) (z : ℤ) → row ≡ row_reading d Gamma r → r < 2 * d.horizon → EachWithin 8192 i → z ≡ rounded (sum_to (length row) (λ k. get_or row k (pos 0) *ℤ get_or i k (pos 0))) → (z ≡ rounded (sum_to 2 (λ k. entry d Gamma r k *ℤ get_or i k (pos 0)))) × Within (2 ^ 29) z
free d s i row r z read there small e =
    let is = e ∙ ap rounded (row_sum d Gamma r row read there (λ k. get_or i k (pos 0)) 2 refl) in
    let b = within_as _ _ _ is (free_within d s i r there small) in
    (is, omega arith)
