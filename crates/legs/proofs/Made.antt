-- Lists made position by position.
use Rattle.std.proofs.Common.{◌≡◌, ℕ, zero, suc, ◌+◌, ◌<◌, ◌≤◌, List, length, take, map, get_or, ap, subst, ◌∙◌, inl, inr, arith, length-take-le}
use denote.Param.Members.{Mut}
use Rattle.std.proofs.Math.ListN.{get_or-map}
use Rattle.std.proofs.lemmas.Bool.{cases_eq}
use Rattle.std.proofs.lemmas.List.{ext_get_or, get_or-take, length-map}
use Rattle.std.specs.Array.{IsFromFnResultFrom}
use Rattle.std.specs.Fn.{Called}

-- an array made by calls that leave the closure as it was
pub made_by : {F B : Type 0} {g : Mut F (ℕ × Unit {0}) B} (f : F) (h : ℕ → B) (ys : List B) → ((i : ℕ) (y : B) (q : F) → Called g f (i, tt) y q → (q ≡ f) × (y ≡ h i)) → (n i : ℕ) → IsFromFnResultFrom g f ys i n → (k : ℕ) (d : B) → i ≤ k → k < i + n → get_or ys k d ≡ h k
made_by {g = g} f h ys call zero i made k d low high = absurd (omega arith)
made_by {g = g} f h ys call (suc n) i (q, y, at, called, more) k d low high =
    let now = call i y q called in
    elim (cases_eq k i) [
      | inl e ↦ rw e (at.1 d ∙ now.1)
      | inr ne ↦ made_by {g = g} f h ys call n (i + 1) (subst (λ p. IsFromFnResultFrom g p ys (i + 1) n) now.0 more) k d (omega arith) (omega arith)
    ]

-- one field of the first elements
pub column : {A B : Type 0} (f : A → B) (ys : List A) (xs : List B) (a : A) → length xs ≤ length ys → ((k : ℕ) → k < length xs → f (get_or ys k a) ≡ get_or xs k (f a)) → map f (take (length xs) ys) ≡ xs
column f ys xs a fits each =
    let long = length-map (take (length xs) ys) f ∙ length-take-le (length xs) ys fits in
    ext_get_or (f a) _ _ long (λ k h. let in_xs : k < length xs = omega arith in get_or-map f (take (length xs) ys) k a ∙ ap f (get_or-take (length xs) ys k a in_xs) ∙ each k in_xs)
