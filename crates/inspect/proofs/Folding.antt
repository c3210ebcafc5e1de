-- The extremes of a table's entries, from the first on.
use Rattle.std.proofs.Common.{◌≡◌, List, [], ◌∷◌, ℤ, Some, fold, slice_get, sym, ap}
use Rattle.inspect.specs.Extremes.{extremes_of, including}

pub from_first : (xs : List ℤ) (x : ℤ) → slice_get xs 0 ≡ Some x → Some (fold including (record { least = x; greatest = x }) xs) ≡ extremes_of xs
from_first [] x e = cc
from_first (y ∷ ys) x e =
    let f : y ≡ x = cc in
    ap (λ (z : ℤ). Some (fold including (record { least = z; greatest = z }) (y ∷ ys))) (sym f)
