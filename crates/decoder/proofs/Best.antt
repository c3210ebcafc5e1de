-- The answer of a search that is not stopped is the best of all.
use Rattle.std.proofs.Common.{◌≡◌, ℕ, zero, suc, ◌+◌, ◌-◌, ◌<◌, ◌≤◌, Bool, true, false, cond, not, ◌||◌, eqb, ◌⊎◌, List, [], ◌∷◌, ◌++◌, map, length, get_or, take, fold, filter, sym, refl, ap, ◌∙◌, subst, inl, inr, ⊎_elim, add-one, arith}
use mathlib.Core.List.Memᴰ
use mathlib.Core.List.{Memᴰ}
use Rattle.decoder.specs.Answers.{marked}
use Rattle.decoder.proofs.Tree.{backward}
use Rattle.decoder.specs.declared.Mark.TheVariants.{Certified}
use Rattle.std.specs.List.{range_with_len, flat_map, AllByRecursion, list_all}
use Rattle.std.proofs.lemmas.List.Elements.{filter-append}
use Rattle.std.proofs.ByRecursion.{All-append, All-map, All-weaker}
use Rattle.std.proofs.lemmas.List.{take_all, take_more, reverse-append}
use Rattle.std.proofs.lemmas.Bool.{eq-eqb, ne_eqb, cond_both, both_ways, cases_eq, and_parts, and_from, false≢true}
use Rattle.decoder.proofs.Tree.{Rules, Lawful, moves, onto, fulls, pick, dues, answer, before, Permitted, Whole, Optimal, opens, Opens}
use Rattle.decoder.proofs.Bools.{all_of, all_true, before_same, before_less}
use Rattle.decoder.proofs.Walk.{after, seen, visits, seen_dues, after_skip, fulls_of, Rising, rising_counting, leq_refl, length_onto, fulls_long, after_fit}
use Rattle.decoder.proofs.Pend.{afters, after_suc, folded_append}

all_in : {X : Type 0} (P : X → Type 0) (xs : List X) (x : X) → AllByRecursion P xs → Memᴰ x xs → P x
all_in P [] x a m = elim m [ ]
all_in P (y ∷ ys) x a m = ⊎_elim (λ e. subst P (sym e) a.0) (λ t. all_in P ys x a.1 t) (Memᴰ.cases_cons m)

all_split : {X : Type 0} (P : X → Type 0) (xs ys : List X) → AllByRecursion P (xs ++ ys) → AllByRecursion P xs × AllByRecursion P ys
all_split P [] ys a = (tt, a)
all_split P (x ∷ xs) ys a = let r = all_split P xs ys a.1 in ((a.0, r.0), r.1)

pub all_unmap : {X Y : Type 0} (P : Y → Type 0) (f : X → Y) (xs : List X) → AllByRecursion P (map f xs) → AllByRecursion (λ x. P (f x)) xs
all_unmap P f [] a = tt
all_unmap P f (x ∷ xs) a = (a.0, all_unmap P f xs a.1)

pub all_unjoin : {X Y : Type 0} (P : Y → Type 0) (f : X → List Y) (xs : List X) → AllByRecursion P (flat_map f xs) → AllByRecursion (λ x. AllByRecursion P (f x)) xs
all_unjoin P f [] a = tt
all_unjoin P f (x ∷ xs) a = let r = all_split P (f x) (flat_map f xs) a in (r.0, all_unjoin P f xs r.1)

pub all_join : {X Y : Type 0} (P : Y → Type 0) (f : X → List Y) (xs : List X) → AllByRecursion (λ x. AllByRecursion P (f x)) xs → AllByRecursion P (flat_map f xs)
all_join P f [] a = tt
all_join P f (x ∷ xs) a = All-append P (f x) (flat_map f xs) a.0 (all_join P f xs a.1)

-- what is counted and kept
pub kept_low : (t : ℕ → Bool) (a n : ℕ) → AllByRecursion (λ p. (p < a + n) × (t p ≡ true)) (filter t (range_with_len a n))
kept_low t a zero = tt
kept_low t a (suc n) =
    let r : AllByRecursion (λ p. (p < a + suc n) × (t p ≡ true)) (filter t (range_with_len (a + 1) n)) = All-weaker _ _ (λ p h. (omega (arith, h.0), h.1)) _ (kept_low t (a + 1) n) in
    cond_both (t a) _ _ (AllByRecursion (λ p. (p < a + suc n) × (t p ≡ true))) (λ e. ((omega arith, e), r)) (λ _. r)

pub kept_all : (t : ℕ → Bool) (Q : ℕ → Type 0) (a n p : ℕ) → a ≤ p → p < a + n → t p ≡ true → AllByRecursion Q (filter t (range_with_len a n)) → Q p
kept_all t Q a zero p h k e r = absurd (omega arith)
kept_all t Q a (suc n) p h k e r =
    ⊎_elim
    (λ q. subst Q (sym q) (subst (λ v. AllByRecursion Q (cond v (a ∷ filter t (range_with_len (a + 1) n)) (filter t (range_with_len (a + 1) n)))) (ap t (sym q) ∙ e) r).0)
    (λ q. kept_all t Q (a + 1) n p (omega arith) (omega arith) e (tail (t a) r))
    (cases_eq p a)
  where
    tail : (v : Bool) → AllByRecursion Q (cond v (a ∷ filter t (range_with_len (a + 1) n)) (filter t (range_with_len (a + 1) n))) → AllByRecursion Q (filter t (range_with_len (a + 1) n))
    tail true s = s.1
    tail false s = s

-- each comes before those behind it
abbrev Sorted : List (List ℕ) → Type 0
Sorted [] = Unit {0}
Sorted (f ∷ fs) = AllByRecursion (λ g. before f g ≡ true) fs × Sorted fs

sorted_append : (xs ys : List (List ℕ)) → Sorted xs → Sorted ys → AllByRecursion (λ x. AllByRecursion (λ y. before x y ≡ true) ys) xs → Sorted (xs ++ ys)
sorted_append [] ys a b c = b
sorted_append (x ∷ xs) ys a b c = (All-append _ xs ys a.0 c.0, sorted_append xs ys a.1 b c.1)

sorted_map : (p : ℕ) (xs : List (List ℕ)) → Sorted xs → Sorted (map (λ f. p ∷ f) xs)
sorted_map p [] a = tt
sorted_map p (x ∷ xs) a = (All-map _ (λ f. p ∷ f) xs (All-weaker _ _ (λ y h. before_same p x y ∙ h) xs a.0), sorted_map p xs a.1)

module _ {C : Type 0} (R : Rules C) where
  sorted_of : (d : ℕ) → ((s : List ℕ) → Sorted (fulls R d s)) → (s ps : List ℕ) → Rising ps → Sorted (fulls_of R d s ps)
  sorted_of d ih s [] r = tt
  sorted_of d ih s (p ∷ ps) r =
      sorted_append (map (λ f. p ∷ f) (fulls R d (p ∷ s))) (fulls_of R d s ps) (sorted_map p (fulls R d (p ∷ s)) (ih (p ∷ s))) (sorted_of d ih s ps r.1)
      (All-map _ (λ f. p ∷ f) (fulls R d (p ∷ s)) (all_of _ (λ f. all_join _ _ ps (All-weaker _ _ (λ x h. All-map _ (λ g. x ∷ g) (fulls R d (x ∷ s)) (all_of _ (λ g. before_less p x f g h) _)) ps r.0)) _))

  sorted_fulls : (d : ℕ) (s : List ℕ) → Sorted (fulls R d s)
  sorted_fulls zero s = (tt, tt)
  sorted_fulls (suc d) s = sorted_of d (sorted_fulls d) s (moves R s) (rising_counting (R.permits s) 0 (R.size s - 0))

  -- the list has the permitted sequences, and no others
  pub fulls_in : (d : ℕ) (s : List ℕ) → AllByRecursion (λ f. (length f ≡ d) × Permitted R s f) (fulls R d s)
  fulls_in zero s = ((refl, tt), tt)
  fulls_in (suc d) s =
      all_join _ (λ p. map (λ f. p ∷ f) (fulls R d (p ∷ s))) (moves R s)
      (All-weaker _ _ (λ p h. All-map _ (λ f. p ∷ f) (fulls R d (p ∷ s)) (All-weaker _ _ (λ f k. (ap suc k.0, (omega (arith, h.0), h.1, k.1))) _ (fulls_in d (p ∷ s)))) (moves R s) (kept_low (R.permits s) 0 (R.size s - 0)))

  fulls_all : (d : ℕ) (s : List ℕ) (P : List ℕ → Type 0) → AllByRecursion P (fulls R d s) → (f : List ℕ) → length f ≡ d → Permitted R s f → P f
  fulls_all zero s P a [] e h = a.0
  fulls_all zero s P a (p ∷ f) e h = absurd (omega arith)
  fulls_all (suc d) s P a [] e h = absurd (omega arith)
  fulls_all (suc d) s P a (p ∷ f) e h =
      fulls_all d (p ∷ s) (λ g. P (p ∷ g)) (all_unmap P (λ g. p ∷ g) (fulls R d (p ∷ s)) (kept_all (R.permits s) (λ q. AllByRecursion P (map (λ g. q ∷ g) (fulls R d (q ∷ s)))) 0 (R.size s - 0) p (omega arith) (omega (arith, h.0)) h.1 (all_unjoin P (λ q. map (λ g. q ∷ g) (fulls R d (q ∷ s))) (moves R s) a))) f (omega arith) h.2

  -- where f stands to the one chosen, a
  abbrev Behind : List ℕ → List ℕ → Type 0
  Behind a f = (R.leq (R.cost (onto [] a)) (R.cost (onto [] f)) ≡ true) × ((f ≡ a) ⊎ ((before f a ≡ true) ⊎ (R.leq (R.cost (onto [] f)) (R.cost (onto [] a)) ≡ false)))

  abbrev Lost : List ℕ → List (List ℕ) → Type 0
  Lost b fs = (fold (pick R) b (map (onto []) fs) ≡ b) × AllByRecursion (λ f. R.leq (R.cost (onto [] f)) (R.cost b) ≡ false) fs

  abbrev Won : List ℕ → List (List ℕ) → Type 0
  Won b fs = (a : List ℕ) × (fold (pick R) b (map (onto []) fs) ≡ onto [] a) × Memᴰ a fs × (R.leq (R.cost (onto [] a)) (R.cost b) ≡ true) × AllByRecursion (Behind a) fs

pub all_both : {X : Type 0} (P Q S : X → Type 0) → ((x : X) → P x → Q x → S x) → (xs : List X) → AllByRecursion P xs → AllByRecursion Q xs → AllByRecursion S xs
all_both P Q S h [] a b = tt
all_both P Q S h (x ∷ xs) a b = (h x a.0 b.0, all_both P Q S h xs a.1 b.1)

-- first entry first, or last
turned : {N : ℕ} (f : List ℕ) → length f ≤ N → length (onto [] f) ≤ N
turned f h = omega (arith, length_onto [] f)

module _ {C : Type 0} (R : Rules C) {N : ℕ} (L : Lawful R N) where
  win_step : (b f : List ℕ) (fs : List (List ℕ)) → length b ≤ N → length f ≤ N → AllByRecursion (λ g. length g ≤ N) fs → AllByRecursion (λ g. before f g ≡ true) fs → ((c : List ℕ) → length c ≤ N → Lost R c fs ⊎ Won R c fs) → (v : Bool) → R.leq (R.cost (onto [] f)) (R.cost b) ≡ v → Lost R b (f ∷ fs) ⊎ Won R b (f ∷ fs)
  win_step b f fs hb hf hs s ih true e =
      let q = ap (λ w. fold (pick R) (cond w (onto [] f) b) (map (onto []) fs)) e in
      ⊎_elim
      (λ t. inr (f, q ∙ t.0, Memᴰ.head refl, e, ((leq_refl R L (onto [] f) (turned f hf), inl refl), all_both _ _ _ (λ g k h. (L.total (onto [] g) (onto [] f) (turned g k) (turned f hf) h, inr (inr h))) fs hs t.1)))
      (λ t. inr (t.0, q ∙ t.1, Memᴰ.tail t.2, L.trans (onto [] t.0) (onto [] f) b (turned t.0 (all_in _ fs t.0 hs t.2)) (turned f hf) hb t.3 e, ((t.3, inr (inl (all_in _ fs t.0 s t.2))), t.4)))
      (ih (onto [] f) (turned f hf))
  win_step b f fs hb hf hs s ih false e =
      let q = ap (λ w. fold (pick R) (cond w (onto [] f) b) (map (onto []) fs)) e in
      ⊎_elim
      (λ t. inl (q ∙ t.0, (e, t.1)))
      (λ t. inr (t.0, q ∙ t.1, Memᴰ.tail t.2, t.3, ((L.trans (onto [] t.0) b (onto [] f) (turned t.0 (all_in _ fs t.0 hs t.2)) hb (turned f hf) t.3 (L.total (onto [] f) b (turned f hf) hb e), inr (inl (all_in _ fs t.0 s t.2))), t.4)))
      (ih b hb)

  win : (b : List ℕ) (fs : List (List ℕ)) → length b ≤ N → AllByRecursion (λ g. length g ≤ N) fs → Sorted fs → Lost R b fs ⊎ Won R b fs
  win b [] hb hs s = inl (refl, tt)
  win b (f ∷ fs) hb hs s = win_step b f fs hb hs.0 hs.1 s.0 (λ c hc. win c fs hc hs.1 s.1) _ refl

  -- the best of all the permitted sequences, from a start that is one of them
  pub best_of_all : (n : ℕ) (st : List ℕ) → n ≤ N → Whole R n st → (a : List ℕ) × (after R n [] (onto [] st) ≡ onto [] a) × Optimal R n a
  best_of_all n st nb w =
      let short : (f : List ℕ) → length f ≡ n → length f ≤ N = λ f e. omega arith in
      let hb : length (onto [] st) ≤ N = turned st (short st w.0) in
      ⊎_elim
      (λ t. absurd (both_ways _ (fulls_all R n [] _ t.1 st w.0 w.1) (leq_refl R L (onto [] st) hb)))
      (λ t. (
        t.0,
        t.1,
        record {
          whole = all_in _ (fulls R n []) t.0 (fulls_in R n []) t.2;
          least = λ f h. (fulls_all R n [] (Behind R t.0) t.4 f h.0 h.1).0;
          last = λ f h e ne. ⊎_elim (λ q. absurd (ne q)) (⊎_elim (λ q. q) (λ q. absurd (both_ways _ q (ap (λ x. R.leq (R.cost (onto [] f)) x) (sym e) ∙ leq_refl R L (onto [] f) (turned f (short f h.0)))))) (fulls_all R n [] (Behind R t.0) t.4 f h.0 h.1).1;
        },
      ))
      (win (onto [] st) (fulls R n []) hb (All-weaker _ _ short (fulls R n []) (fulls_long R n [])) (sorted_fulls R n []))

  -- what is visited and whole gives the same best as all that is permitted
  abbrev full : ℕ → List ℕ → Bool
  full n q = eqb (length q) n

  abbrev Same : ℕ → ℕ → Type 0
  Same n d = (s b : List ℕ) → length s + suc d ≡ n → length b ≤ N → fold (pick R) b (filter (full n) (seen R (suc d) s b)) ≡ after R (suc d) s b

  same_step : (n d : ℕ) → n ≤ N → (s b : List ℕ) (p : ℕ) → length s + suc d ≡ n → length b ≤ N → ((k : ℕ) → d ≡ suc k → Same n k) → (v : Bool) → R.leq (R.cost (p ∷ s)) (R.cost b) ≡ v → fold (pick R) b (filter (full n) ((p ∷ s) ∷ cond v (seen R d (p ∷ s) b) [])) ≡ after R d (p ∷ s) b
  same_step n zero nb s b p h hb ih true e = ap (λ w. fold (pick R) b (cond w ((p ∷ s) ∷ []) [])) (eq-eqb (suc (length s)) n (omega arith))
  same_step n zero nb s b p h hb ih false e = ap (λ w. fold (pick R) b (cond w ((p ∷ s) ∷ []) [])) (eq-eqb (suc (length s)) n (omega arith))
  same_step n (suc d) nb s b p h hb ih true e =
      ap (λ w. fold (pick R) b (cond w ((p ∷ s) ∷ filter (full n) (seen R (suc d) (p ∷ s) b)) (filter (full n) (seen R (suc d) (p ∷ s) b)))) (ne_eqb (suc (length s)) n (λ q. omega arith))
      ∙ ih d refl (p ∷ s) b (omega arith) hb
  same_step n (suc d) nb s b p h hb ih false e =
      ap (λ w. fold (pick R) b (cond w ((p ∷ s) ∷ []) [])) (ne_eqb (suc (length s)) n (λ q. omega arith))
      ∙ sym (after_skip R L (suc d) (p ∷ s) b (omega arith) hb e)

  same_kids : (n d : ℕ) → n ≤ N → ((k : ℕ) → d ≡ suc k → Same n k) → (s ps b : List ℕ) → length s + suc d ≡ n → length b ≤ N → fold (pick R) b (filter (full n) (visits R d s ps b)) ≡ afters R d s ps b
  same_kids n d nb ih s [] b h hb = refl
  same_kids n d nb ih s (p ∷ ps) b h hb =
      ap (fold (pick R) b) (filter-append (full n) V (visits R d s ps (after R d (p ∷ s) b)))
      ∙ folded_append (pick R) b (filter (full n) V) (filter (full n) (visits R d s ps (after R d (p ∷ s) b)))
      ∙ ap (λ c. fold (pick R) c (filter (full n) (visits R d s ps (after R d (p ∷ s) b)))) (same_step n d nb s b p h hb ih _ refl)
      ∙ same_kids n d nb ih s ps (after R d (p ∷ s) b) h (after_fit R N d (p ∷ s) b (omega arith) hb)
    where
      V : List (List ℕ)
      V = (p ∷ s) ∷ cond (R.leq (R.cost (p ∷ s)) (R.cost b)) (seen R d (p ∷ s) b) []

  same : (n d : ℕ) → n ≤ N → Same n d
  same n zero nb s b h hb = same_kids n zero nb (λ k e. absurd (omega arith)) s (moves R s) b h hb ∙ sym (after_suc R zero s b)
  same n (suc d) nb s b h hb = same_kids n (suc d) nb (λ k e. subst (Same n) (let q : d ≡ k = omega arith in q) (same n d nb)) s (moves R s) b h hb ∙ sym (after_suc R (suc d) s b)

  same_all : (n : ℕ) (b : List ℕ) → n ≤ N → length b ≤ N → 0 < n → fold (pick R) b (filter (full n) (seen R n [] b)) ≡ after R n [] b
  same_all zero b nb hb h = absurd (omega arith)
  same_all (suc d) b nb hb h = same (suc d) d nb [] b (omega arith) hb

  -- where the limit covers the due nodes, the answer is the best of all
  pub answer_optimal : (n limit : ℕ) (st : List ℕ) → n ≤ N → 0 < n → Whole R n st → length (dues R n (R.cost (onto [] st))) ≤ limit → (a : List ℕ) × (answer R n limit (onto [] st) ≡ onto [] a) × Optimal R n a
  answer_optimal n limit st nb h w few =
      let t = best_of_all n st nb w in
      let hb : length (onto [] st) ≤ N = turned st (omega (arith, w.0)) in (
        t.0,
        ap (λ l. fold (pick R) (onto [] st) (filter (full n) (map (onto []) l))) (take_all limit (dues R n (R.cost (onto [] st))) few)
            ∙ ap (λ l. fold (pick R) (onto [] st) (filter (full n) l)) (sym (seen_dues R L n [] (onto [] st) (omega arith) hb))
            ∙ same_all n (onto [] st) nb hb h
            ∙ t.1,
        t.2,
      )

-- an array's first entries, last first and first first
pub backward_take : (n : ℕ) (xs : List ℕ) → n ≤ length xs → backward n xs ≡ onto [] (take n xs)
backward_take zero xs h = refl
backward_take (suc n) xs h =
    ap (λ v. get_or xs n 0 ∷ v) (backward_take n xs (omega arith))
    ∙ sym (reverse-append (take n xs) (get_or xs n 0 ∷ []))
    ∙ ap (onto []) (sym (take_more xs n 0 h) ∙ ap (λ k. take k xs) (add-one n))

pub certain : (v : Bool) → marked v ≡ Certified → v ≡ true
certain true e = refl
certain false e = let z : ◌≡◌ {A = ℕ} 0 1 = cc in absurd (omega arith)

all_each : {X : Type 0} (t : X → Bool) (xs : List X) → list_all t xs ≡ true → AllByRecursion (λ x. t x ≡ true) xs
all_each t [] e = tt
all_each t (x ∷ xs) e = let p = and_parts (t x) (list_all t xs) e in (p.0, all_each t xs p.1)

imply : (a b : Bool) → (not a || b) ≡ true → a ≡ true → b ≡ true
imply true b e h = e
imply false b e h = absurd (false≢true h)

unless : (a b : Bool) → (a ≡ true → b ≡ true) → (not a || b) ≡ true
unless true b h = h refl
unless false b h = refl

-- the test says what it should
pub opens_means : {C : Type 0} (R : Rules C) (n : ℕ) (b : C) (q : List ℕ) → opens R (fulls R n []) [] b q ≡ true → Opens R n b q
opens_means R n b q e =
    let p = and_parts _ _ e in
    (p.0, λ f w h. imply (before f q) _ (fulls_all R n [] (λ f. (not (before f q) || R.leq (R.cost (onto [] q)) (R.cost (onto [] f))) ≡ true) (all_each _ (fulls R n []) p.1) f w.0 w.1) h)

pub means_opens : {C : Type 0} (R : Rules C) (n : ℕ) (b : C) (q : List ℕ) → Opens R n b q → opens R (fulls R n []) [] b q ≡ true
means_opens R n b q h =
    and_from _ _ h.0 (all_true _ (fulls R n []) (All-weaker _ _ (λ f w. unless (before f q) _ (λ k. h.1 f w k)) (fulls R n []) (fulls_in R n [])))
