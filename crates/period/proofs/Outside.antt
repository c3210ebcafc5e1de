-- The lowest place that fails a test, and what follows where none does.
use Rattle.std.proofs.Common.{◌≡◌, ℕ, ◌+◌, ◌<◌, List, ◌++◌, length, get_or, ℤ, pos, nat_abs, None, sym, ap, ◌∙◌, ⊎_elim, zero-add, zero-le, arith}
use Rattle.std.proofs.str.Laws.{order}
use Rattle.std.specs.List.{enumerate_from}
use Rattle.std.proofs.lemmas.List.FromFn.{get_or-enumerate_from, length-enumerate_from}
use Rattle.std.proofs.lemmas.List.{get_or_default, get_or-append-add, get_or_append_left, get_or_past, length-append}
use Rattle.std.proofs.lemmas.Bool.{leb-true}
use Rattle.legs.proofs.Lowest.{none_fails as all_allowed}
use Rattle.period.specs.Inputs.{allowed_at, first_outside}
use Rattle.period.specs.Sums.{EachWithin, Within}
use Rattle.period.proofs.Bounds.{within_as}

-- one turn of a `for` over numbers with their index
pub at_turn : (all : List ℤ) (i k : ℕ) (v : ℤ) → (k < length (enumerate_from 0 all)) × (◌≡◌ {A = ℕ × ℤ} (i, v) (get_or (enumerate_from 0 all) k (i, v))) → (i ≡ k) × (k < length all) × (v ≡ get_or all k (pos 0))
at_turn all i k v h =
    let lt : k < length all = omega (arith, h.0, length-enumerate_from 0 all) in
    let e = h.1 ∙ get_or-enumerate_from 0 all k (i, v) (omega (arith, h.0)) in
    (ap (λ p. p.0) e ∙ zero-add k, lt, ap (λ p. p.1) e ∙ get_or_default all k v (pos 0) lt)

-- what is past the end is 0
within_list : (m : ℕ) (xs : List ℤ) → ((k : ℕ) → k < length xs → Within m (get_or xs k (pos 0))) → EachWithin m xs
within_list m xs h k = ⊎_elim (h k) (λ l. rw (get_or_past xs k (pos 0) l) zero-le) (order k (length xs))

module _ (i y : List ℤ) (none : first_outside i y ≡ None) where
  at : (k : ℕ) → k < length (i ++ y) → Within 8192 (get_or (i ++ y) k (pos 0))
  at k h = leb-true (nat_abs (get_or (i ++ y) k (pos 0))) 8192 (all_allowed (allowed_at i y) (length (i ++ y)) none k h)

  pub currents_small : EachWithin 8192 i
  currents_small =
      within_list 8192 i (λ k h. let e = get_or_append_left i y (pos 0) k h in within_as 8192 _ _ (sym e) (at k (omega (arith, length-append i y))))

  pub references_small : EachWithin 8192 y
  references_small =
      within_list 8192 y (λ k h. let e = get_or-append-add i y k (pos 0) in within_as 8192 _ _ (sym e) (at (length i + k) (omega (arith, length-append i y))))
