-- Arrays that are filled from their front.
use Rattle.std.proofs.Common.{◌≡◌, ℕ, ◌<◌, List, ℤ, ◌∙◌, ⊎_elim, zero-le}
use Rattle.std.proofs.str.Laws.{order}
use Rattle.period.specs.Sums.{EachWithin, Filled, Within}

-- bounds on the values are bounds on the array
pub filled_within : (size n m : ℕ) (f : ℕ → ℤ) (xs : List ℤ) → Filled size n f xs → ((k : ℕ) → k < n → Within m (f k)) → EachWithin m xs
filled_within size n m f xs p h k = ⊎_elim (λ l. rw (p.value k l) (h k l)) (λ l. rw (p.rest k l) zero-le) (order k n)

pub filled_as : (size n : ℕ) (f g : ℕ → ℤ) (xs : List ℤ) → ((k : ℕ) → k < n → f k ≡ g k) → Filled size n f xs → Filled size n g xs
filled_as size n f g xs h p = record { sized = p.sized; value = λ k l. p.value k l ∙ h k l; rest = p.rest }
