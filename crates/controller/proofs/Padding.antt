-- Arrays that are filled from their front.
use Rattle.std.proofs.Common.{◌≡◌, ℕ, ◌-◌, ◌<◌, ◌≤◌, List, map, length, get_or, replicate, ℤ, pos, nat_abs, sym, refl, ◌∙◌, ⊎_elim, zero-le, arith, length-append}
use Rattle.std.specs.List.{range_with_len}
use Rattle.std.proofs.lemmas.List.FromFn.{get_or-map-range_with_len, length-map-range_with_len}
use Rattle.std.proofs.lemmas.List.{ext_get_or, get_or_append_left, get_or-append_right, get_or_past, get_or-replicate, length-replicate}
use Rattle.std.proofs.str.Laws.{order}
use Rattle.period.specs.Sums.{Filled}
use Rattle.controller.specs.Problems.{padded}

zeros : (size k : ℕ) → get_or (replicate size (pos 0)) k (pos 0) ≡ pos 0
zeros size k =
    ⊎_elim (get_or-replicate size k (pos 0) (pos 0)) (λ h. get_or_past (replicate size (pos 0)) k (pos 0) (rw (length-replicate size (pos 0)) h)) (order k size)

pub padded_length : (size : ℕ) (xs : List ℤ) → length xs ≤ size → length (padded size xs) ≡ size
padded_length size xs h =
    length-append xs (replicate (size - length xs) (pos 0)) ∙ omega (arith, length-replicate (size - length xs) (pos 0))

pub padded_inside : (size : ℕ) (xs : List ℤ) (k : ℕ) → k < length xs → get_or (padded size xs) k (pos 0) ≡ get_or xs k (pos 0)
padded_inside size xs k h = get_or_append_left xs (replicate (size - length xs) (pos 0)) (pos 0) k h

pub padded_past : (size : ℕ) (xs : List ℤ) (k : ℕ) → length xs ≤ k → get_or (padded size xs) k (pos 0) ≡ pos 0
padded_past size xs k h =
    get_or-append_right xs (replicate (size - length xs) (pos 0)) (length xs) k (pos 0) refl h ∙ zeros (size - length xs) (k - length xs)

-- bounds on a list bound what it is padded to
pub padded_within : (size m : ℕ) (xs : List ℤ) → ((k : ℕ) → k < length xs → nat_abs (get_or xs k (pos 0)) ≤ m) → (k : ℕ) → nat_abs (get_or (padded size xs) k (pos 0)) ≤ m
padded_within size m xs h k =
    ⊎_elim (λ l. rw (padded_inside size xs k l) (h k l)) (λ l. rw (padded_past size xs k l) zero-le) (order k (length xs))

-- a filled array is its values with zeros behind them
pub filled_padded : (size n : ℕ) (f : ℕ → ℤ) (xs : List ℤ) → n ≤ size → Filled size n f xs → xs ≡ padded size (map f (range_with_len 0 n))
filled_padded size n f xs few p =
    let ys = map f (range_with_len 0 n) in
    let long : length ys ≡ n = length-map-range_with_len f 0 n in
    ext_get_or (pos 0) xs (padded size ys) (p.sized ∙ sym (padded_length size ys (omega arith)))
    (λ k _.
    ⊎_elim (λ (l : k < n). p.value k l ∙ sym (padded_inside size ys k (omega arith) ∙ get_or-map-range_with_len f 0 n k k (pos 0) l (omega arith)))
    (λ (l : n ≤ k). p.rest k l ∙ sym (padded_past size ys k (omega arith)))
    (order k n))
