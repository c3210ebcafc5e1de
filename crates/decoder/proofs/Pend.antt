-- What is left to visit, by the positions chosen so far and the next candidate.
use Rattle.std.proofs.Common.{◌≡◌, ℕ, suc, ◌+◌, ◌-◌, ◌<◌, ◌≤◌, Bool, true, false, cond, List, [], ◌∷◌, ◌++◌, map, length, fold, filter, sym, refl, ap, ◌∙◌, arith}
use Rattle.std.specs.List.{range_with_len}
use Rattle.std.proofs.lemmas.List.{map-append, append_assoc, append-nil}
use Rattle.std.proofs.lemmas.Simd.{map-map}
use Rattle.decoder.proofs.Tree.{Rules, Lawful, moves, rest, onto, fulls, pick}
use Rattle.decoder.proofs.Walk.{after, seen, visits, after_skip, fulls_of}

pub folded_append : {A B : Type 0} (f : B → A → B) (b : B) (xs ys : List A) → fold f b (xs ++ ys) ≡ fold f (fold f b xs) ys
folded_append f b [] ys = refl
folded_append f b (x ∷ xs) ys = folded_append f (f b x) xs ys

module _ {C : Type 0} (R : Rules C) where
  -- the best after the positions ps at s
  abbrev pub afters : ℕ → List ℕ → List ℕ → List ℕ → List ℕ
  afters d s ps b = fold (λ c p. after R d (p ∷ s) c) b ps

  -- above s
  abbrev pub up : ℕ → List ℕ → List ℕ → List (List ℕ)
  up d [] b = []
  up d (x ∷ r) b = visits R (suc d) r (rest R r (x + 1)) b ++ up (suc d) r (afters (suc d) r (rest R r (x + 1)) b)

  -- from the candidate p at s on
  abbrev pub pend : ℕ → List ℕ → ℕ → List ℕ → List (List ℕ)
  pend d s p b = visits R d s (rest R s p) b ++ up d s (afters d s (rest R s p) b)

  after_kids : (d : ℕ) (s ps b : List ℕ) → fold (pick R) b (map (onto s) (fulls_of R d s ps)) ≡ afters d s ps b
  after_kids d s [] b = refl
  after_kids d s (p ∷ ps) b =
      ap (fold (pick R) b) (map-append (onto s) (map (λ f. p ∷ f) (fulls R d (p ∷ s))) (fulls_of R d s ps))
      ∙ folded_append (pick R) b (map (onto s) (map (λ f. p ∷ f) (fulls R d (p ∷ s)))) (map (onto s) (fulls_of R d s ps))
      ∙ ap (λ v. fold (pick R) (fold (pick R) b v) (map (onto s) (fulls_of R d s ps))) (map-map (onto s) (λ f. p ∷ f) (fulls R d (p ∷ s)))
      ∙ after_kids d s ps (after R d (p ∷ s) b)

  pub after_suc : (d : ℕ) (s b : List ℕ) → after R (suc d) s b ≡ afters d s (moves R s) b
  after_suc d s b = after_kids d s (moves R s) b

  -- the list of candidates
  counted : (p n : ℕ) → p < n → range_with_len p (n - p) ≡ p ∷ range_with_len (p + 1) (n - (p + 1))
  counted p n h = let e : n - p ≡ suc (n - (p + 1)) = omega arith in ap (range_with_len p) e

  pub rest_none : (s : List ℕ) (p : ℕ) → R.size s ≤ p → rest R s p ≡ []
  rest_none s p h = let e : R.size s - p ≡ 0 = omega arith in ap (λ n. filter (R.permits s) (range_with_len p n)) e

  pub rest_skip : (s : List ℕ) (p : ℕ) → p < R.size s → R.permits s p ≡ false → rest R s p ≡ rest R s (p + 1)
  rest_skip s p h e = ap (filter (R.permits s)) (counted p (R.size s) h) ∙ ap (λ v. cond v (p ∷ rest R s (p + 1)) (rest R s (p + 1))) e

  pub rest_take : (s : List ℕ) (p : ℕ) → p < R.size s → R.permits s p ≡ true → rest R s p ≡ p ∷ rest R s (p + 1)
  rest_take s p h e = ap (filter (R.permits s)) (counted p (R.size s) h) ∙ ap (λ v. cond v (p ∷ rest R s (p + 1)) (rest R s (p + 1))) e

  -- the steps of the search
  pub pend_skip : (d : ℕ) (s : List ℕ) (p : ℕ) (b : List ℕ) → p < R.size s → R.permits s p ≡ false → pend d s p b ≡ pend d s (p + 1) b
  pend_skip d s p b h e = ap (λ ps. visits R d s ps b ++ up d s (afters d s ps b)) (rest_skip s p h e)

  pub pend_back : (d : ℕ) (x : ℕ) (r : List ℕ) (p : ℕ) (b : List ℕ) → R.size (x ∷ r) ≤ p → pend d (x ∷ r) p b ≡ pend (suc d) r (x + 1) b
  pend_back d x r p b h = ap (λ ps. visits R d (x ∷ r) ps b ++ up d (x ∷ r) (afters d (x ∷ r) ps b)) (rest_none (x ∷ r) p h)

  pub pend_end : (d : ℕ) (p : ℕ) (b : List ℕ) → R.size [] ≤ p → pend d [] p b ≡ []
  pend_end d p b h = ap (λ ps. visits R d [] ps b ++ up d [] (afters d [] ps b)) (rest_none [] p h)

  pub pend_take : (d : ℕ) (s : List ℕ) (p : ℕ) (b : List ℕ) (v : Bool) → p < R.size s → R.permits s p ≡ true → R.leq (R.cost (p ∷ s)) (R.cost b) ≡ v → pend d s p b ≡ (p ∷ s) ∷ (cond v (seen R d (p ∷ s) b) [] ++ pend d s (p + 1) (after R d (p ∷ s) b))
  pend_take d s p b v h e l =
      ap (λ ps. visits R d s ps b ++ up d s (afters d s ps b)) (rest_take s p h e)
      ∙ ap (λ w. (p ∷ s) ∷ w) (append_assoc (cond (R.leq (R.cost (p ∷ s)) (R.cost b)) (seen R d (p ∷ s) b) []) (visits R d s (rest R s (p + 1)) (after R d (p ∷ s) b)) (up d s (afters d s (rest R s (p + 1)) (after R d (p ∷ s) b)))
      ∙ ap (λ w. cond w (seen R d (p ∷ s) b) [] ++ pend d s (p + 1) (after R d (p ∷ s) b)) l)

  pub pend_over : {N : ℕ} (L : Lawful R N) (d : ℕ) (s : List ℕ) (p : ℕ) (b : List ℕ) → length s + suc d ≤ N → length b ≤ N → p < R.size s → R.permits s p ≡ true → R.leq (R.cost (p ∷ s)) (R.cost b) ≡ false → pend d s p b ≡ (p ∷ s) ∷ pend d s (p + 1) b
  pend_over L d s p b hs hb h e l = pend_take d s p b false h e l ∙ ap (λ c. (p ∷ s) ∷ pend d s (p + 1) c) (after_skip R L d (p ∷ s) b (omega arith) hb l)

  pub pend_full : (s : List ℕ) (p : ℕ) (b : List ℕ) → p < R.size s → R.permits s p ≡ true → R.leq (R.cost (p ∷ s)) (R.cost b) ≡ true → pend 0 s p b ≡ (p ∷ s) ∷ pend 0 s (p + 1) (p ∷ s)
  pend_full s p b h e l = pend_take 0 s p b true h e l ∙ ap (λ v. (p ∷ s) ∷ pend 0 s (p + 1) (cond v (p ∷ s) b)) l

  pub pend_down : (d : ℕ) (s : List ℕ) (p : ℕ) (b : List ℕ) → p < R.size s → R.permits s p ≡ true → R.leq (R.cost (p ∷ s)) (R.cost b) ≡ true → pend (suc d) s p b ≡ (p ∷ s) ∷ pend d (p ∷ s) 0 b
  pend_down d s p b h e l = pend_take (suc d) s p b true h e l ∙ ap (λ c. (p ∷ s) ∷ (seen R (suc d) (p ∷ s) b ++ pend (suc d) s (p + 1) c)) (after_suc d (p ∷ s) b)

  pub pend_start : (d : ℕ) (b : List ℕ) → seen R (suc d) [] b ≡ pend d [] 0 b
  pend_start d b = sym (append-nil (seen R (suc d) [] b))
