-- Entries and positions from 0 on, taken one by one.
use Rattle.std.proofs.Common.{◌≡◌, ℕ, zero, suc, ◌+◌, ◌<◌, Bool, true, false, cond, List, [], ◌∷◌, ◌++◌, length, filter, fold, None, Option, sym, refl, ap, ◌∙◌, subst, arith, zero-add}
use Rattle.std.specs.Bool.{MatchBool}
use Rattle.std.specs.List.{range_with_len, AllWithin, HoldsAt}
use Rattle.std.proofs.lemmas.Bool.{and_from}
use Rattle.std.proofs.lemmas.List.Elements.{filter-append}
use Rattle.std.proofs.lemmas.List.FromFn.{length-range_with_len, get_or-range_with_len}
use Rattle.std.proofs.lemmas.List.Sums.{fold-append}
use Rattle.decoder.specs.Sequences.{Problem, leg_of}
use Rattle.decoder.specs.Computed.{nearer, nearest_below, may_be, permitted_to}
use Rattle.decoder.proofs.Starts.{permitted_fails}

range_snoc : (a n : ℕ) → range_with_len a (suc n) ≡ range_with_len a n ++ ((a + n) ∷ [])
range_snoc a zero = let e : a ≡ a + 0 = omega arith in ap (λ x. x ∷ []) e
range_snoc a (suc n) =
    let e : a + 1 + n ≡ a + suc n = omega arith in
    ap (λ l. a ∷ l) (range_snoc (a + 1) n) ∙ ap (λ x. a ∷ (range_with_len (a + 1) n ++ (x ∷ []))) e

-- one number more
range_more : (n : ℕ) → range_with_len 0 (suc n) ≡ range_with_len 0 n ++ (n ∷ [])
range_more n = range_snoc 0 n ∙ ap (λ x. range_with_len 0 n ++ (x ∷ [])) (zero-add n)

module _ {C : Type 0} (P : Problem C) where
  permitted_each : (q : List ℕ) (k : ℕ) → ((j : ℕ) → j < k → may_be P q j ≡ true) → permitted_to P q k ≡ true
  permitted_each q zero h = refl
  permitted_each q (suc k) h = and_from _ _ (permitted_each q k (λ j l. h j (omega arith))) (h k (omega arith))

  -- what a test of the entries below n comes to
  pub permitted_by : (q : List ℕ) (n : ℕ) (r : Bool) → MatchBool r (AllWithin (λ j. may_be P q j ≡ true) (range_with_len 0 n) 0 (length (range_with_len 0 n))) ((k : ℕ) × (k < length (range_with_len 0 n)) × HoldsAt (λ j. may_be P q j ≡ false) (range_with_len 0 n) k) → r ≡ permitted_to P q n
  permitted_by q n true h = sym (permitted_each q n (λ j l. subst (λ x. may_be P q x ≡ true) (get_or-range_with_len 0 n j 0 l ∙ zero-add j) (h j 0 (omega arith) (omega (arith, length-range_with_len 0 n)))))
  permitted_by q n false h =
      let l : h.0 < n = omega (arith, h.1, length-range_with_len 0 n) in
      sym (permitted_fails P q h.0 n l (subst (λ x. may_be P q x ≡ false) (get_or-range_with_len 0 n h.0 0 l ∙ zero-add h.0) (h.2 0)))

  module _ (j : ℕ) where
    taken : (from k : ℕ) (b : Bool) (o : Option ℕ) → cond b (nearer P j o k) o ≡ fold (nearer P j) o (cond b (k ∷ []) [])
    taken from k true o = refl
    taken from k false o = refl

    pub nearest_list : (from k : ℕ) → nearest_below P j from k ≡ fold (nearer P j) None (filter ((leg_of P j).permits from) (range_with_len 0 k))
    nearest_list from zero = refl
    nearest_list from (suc k) =
        let t = (leg_of P j).permits from in
        let f = nearer P j in
        taken from k (t k) (nearest_below P j from k)
        ∙ ap (λ o. fold f o (filter t (k ∷ []))) (nearest_list from k)
        ∙ sym (ap (λ l. fold f None (filter t l)) (range_more k) ∙ ap (fold f None) (filter-append t (range_with_len 0 k) (k ∷ [])) ∙ fold-append f None (filter t (range_with_len 0 k)) (filter t (k ∷ [])))
