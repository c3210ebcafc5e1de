-- From beginnings with their last entry first to sequences in natural order.
use Rattle.std.proofs.Common.{◌≡◌, ℕ, zero, suc, ◌+◌, ◌-◌, ◌<◌, ◌≤◌, Bool, true, false, cond, ◌&&◌, ◌||◌, eqb, ltb, List, [], ◌∷◌, map, length, get_or, take, drop, pos, ◌+ℤ◌, ◌-ℤ◌, fold, filter, sym, refl, ap, ◌∙◌, subst, ap₂, ⊎_elim, add-one, arith}
use mathlib.Core.List.{drop_last}
use Rattle.std.specs.List.{AllByRecursion}
use Rattle.std.proofs.ByRecursion.{All-map, All-weaker, all_kept_by, kept_by_passes}
use Rattle.std.proofs.lemmas.List.{take_all, drop_all, drop_more, reverse-reverse, length-reverse}
use Rattle.std.proofs.lemmas.Bool.{cases_eq}
use Rattle.legs.specs.Measure.{at_most}
use Rattle.decoder.specs.Sequences as nat
use Rattle.decoder.specs.Sequences.{Problem, leg_of, coupling, sum_below, MayBe, Feasible, precedes, Ascending, In, Before, term}
use Rattle.decoder.specs.Computed.{better, cheapest}
use Rattle.decoder.proofs.Tree.{Rules, moves, onto, fulls, nodes, dues, due, answer, pick, before, Permitted, Whole, Opens, backward}
use Rattle.decoder.proofs.Machine.{row_sum, sum_back, difference_back, previous, machine}
use Rattle.decoder.proofs.Bools.{all_of, kept_map, kept_ext}
use Rattle.decoder.proofs.Walk.{Rising, rising_counting, nodes_of}
use Rattle.decoder.proofs.Steps.{length_backward, backward_more}
use Rattle.decoder.proofs.Order.{precedes_same, precedes_less, in_all, all_self, in_kept, asc_kept, asc_append, asc_map, settled}
use Rattle.decoder.proofs.Best.{backward_take, kept_low, kept_all, all_unmap, all_unjoin, all_join, opens_means, means_opens}

pub onto_back : (q : List ℕ) → onto [] q ≡ backward (length q) q
onto_back q = sym (backward_take (length q) q (omega arith) ∙ ap (onto []) (take_all (length q) q (omega arith)))

-- the two ways of saying that a full sequence stands before a beginning
pub before_precedes : (f q : List ℕ) → length q ≤ length f → before f q ≡ precedes (take (length q) f) q
before_precedes f [] h = refl
before_precedes [] (y ∷ q) h = absurd (omega arith)
before_precedes (x ∷ f) (y ∷ q) h = ap (λ v. ltb x y || (eqb x y && v)) (before_precedes f q (omega arith))

pub short : (q : List ℕ) → length (drop_last q) ≤ length q
short [] = omega arith
short (x ∷ []) = omega arith
short (x ∷ (y ∷ q)) = omega (arith, short (y ∷ q))

module _ {C : Type 0} (R : Rules C) where
  abbrev Fit : ℕ → List ℕ → List ℕ → Type 0
  Fit e r f = (0 < length f) × (length f ≤ e) × Permitted R r f

  -- the nodes are the permitted beginnings
  pub nodes_are : (d : ℕ) (s : List ℕ) → AllByRecursion (λ f. (0 < length f) × (length f ≤ d) × Permitted R s f) (nodes R d s)
  nodes_are zero s = tt
  nodes_are (suc d) s =
      all_join (Fit (suc d) s) (λ p. (p ∷ []) ∷ map (λ f. p ∷ f) (nodes R d (p ∷ s))) (moves R s)
      (All-weaker _ (λ p. AllByRecursion (Fit (suc d) s) ((p ∷ []) ∷ map (λ f. p ∷ f) (nodes R d (p ∷ s)))) (λ p h. let l : p < R.size s = omega (arith, h.0) in ((omega arith, omega arith, (l, h.1, tt)), All-map (Fit (suc d) s) (λ f. p ∷ f) (nodes R d (p ∷ s)) (All-weaker (Fit d (p ∷ s)) _ (λ f k. (omega arith, omega (arith, k.1), (l, h.1, k.2))) _ (nodes_are d (p ∷ s))))) (moves R s) (kept_low (R.permits s) 0 (R.size s - 0)))

  pub nodes_all : (d : ℕ) (s : List ℕ) (Q : List ℕ → Type 0) → AllByRecursion Q (nodes R d s) → (f : List ℕ) → 0 < length f → length f ≤ d → Permitted R s f → Q f
  nodes_all zero s Q a f e k h = absurd (omega arith)
  nodes_all (suc d) s Q a [] e k h = absurd (omega arith)
  nodes_all (suc d) s Q a (p ∷ []) e k h = (kept_all (R.permits s) (λ q. AllByRecursion Q ((q ∷ []) ∷ map (λ g. q ∷ g) (nodes R d (q ∷ s)))) 0 (R.size s - 0) p (omega arith) (omega (arith, h.0)) h.1 (all_unjoin Q (λ q. (q ∷ []) ∷ map (λ g. q ∷ g) (nodes R d (q ∷ s))) (moves R s) a)).0
  nodes_all (suc d) s Q a (p ∷ (x ∷ f)) e k h =
      nodes_all d (p ∷ s) (λ g. Q (p ∷ g)) (all_unmap Q (λ g. p ∷ g) (nodes R d (p ∷ s)) (kept_all (R.permits s) (λ q. AllByRecursion Q ((q ∷ []) ∷ map (λ g. q ∷ g) (nodes R d (q ∷ s)))) 0 (R.size s - 0) p (omega arith) (omega (arith, h.0)) h.1 (all_unjoin Q (λ q. (q ∷ []) ∷ map (λ g. q ∷ g) (nodes R d (q ∷ s))) (moves R s) a)).1) (x ∷ f) (omega arith) (omega arith) h.2

  long_precedes : (p : ℕ) (f : List ℕ) → 0 < length f → precedes (p ∷ []) (p ∷ f) ≡ true
  long_precedes p [] h = absurd (omega arith)
  long_precedes p (x ∷ f) h = precedes_same p [] (x ∷ f)

  asc_of : (d : ℕ) → ((s : List ℕ) → Ascending (nodes R d s)) → (s ps : List ℕ) → Rising ps → Ascending (nodes_of R d s ps)
  asc_of d ih s [] r = tt
  asc_of d ih s (p ∷ ps) r =
      asc_append ((p ∷ []) ∷ map (λ f. p ∷ f) (nodes R d (p ∷ s))) (nodes_of R d s ps) (All-map _ (λ f. p ∷ f) (nodes R d (p ∷ s)) (All-weaker _ _ (λ f h. long_precedes p f h.0) _ (nodes_are d (p ∷ s))), asc_map p (nodes R d (p ∷ s)) (ih (p ∷ s))) (asc_of d ih s ps r.1)
      (past [], All-map _ (λ f. p ∷ f) (nodes R d (p ∷ s)) (all_of _ past _))
    where
      later : (f : List ℕ) (x : ℕ) → p < x → AllByRecursion (λ y. precedes (p ∷ f) y ≡ true) ((x ∷ []) ∷ map (λ g. x ∷ g) (nodes R d (x ∷ s)))
      later f x h = (precedes_less p x f [] h, All-map (λ y. precedes (p ∷ f) y ≡ true) (λ g. x ∷ g) (nodes R d (x ∷ s)) (all_of _ (λ g. precedes_less p x f g h) _))

      past : (f : List ℕ) → AllByRecursion (λ y. precedes (p ∷ f) y ≡ true) (nodes_of R d s ps)
      past f = all_join (λ y. precedes (p ∷ f) y ≡ true) (λ x. (x ∷ []) ∷ map (λ g. x ∷ g) (nodes R d (x ∷ s))) ps (All-weaker (λ x. p < x) (λ x. AllByRecursion (λ y. precedes (p ∷ f) y ≡ true) ((x ∷ []) ∷ map (λ g. x ∷ g) (nodes R d (x ∷ s)))) (later f) ps r.0)

  pub asc_nodes : (d : ℕ) (s : List ℕ) → Ascending (nodes R d s)
  asc_nodes zero s = tt
  asc_nodes (suc d) s = asc_of d (asc_nodes d) s (moves R s) (rising_counting (R.permits s) 0 (R.size s - 0))

module _ {C : Type 0} (P : Problem C) where
  abbrev M : Rules C
  M = machine P

  pub row_is : (j k : ℕ) (xs : List ℕ) → sum_back P j (backward k xs) ≡ row_sum P xs j k
  row_is j zero xs = refl
  row_is j (suc k) xs = ap₂ ◌+ℤ◌ (row_is j k xs) (ap (λ i. term P j i (get_or xs k 0)) (length_backward k xs))

  pub left_is : (j : ℕ) (xs : List ℕ) → difference_back P j (backward (suc j) xs) ≡ nat.difference P xs j
  left_is j xs = ap (λ x. get_or P.target j (pos 0) -ℤ x) (row_is j (suc j) xs ∙ ap (row_sum P xs j) (sym (add-one j)))

  pub cost_back : (k : ℕ) (xs : List ℕ) → M.cost (backward k xs) ≡ nat.cost_to P xs k
  cost_back zero xs = refl
  cost_back (suc k) xs = ap₂ P.measure.after (cost_back k xs) (ap (λ i. difference_back P i (backward (suc k) xs)) (length_backward k xs) ∙ left_is k xs)

  pub cost_onto : (q : List ℕ) → M.cost (onto [] q) ≡ nat.cost P q
  cost_onto q = ap M.cost (onto_back q) ∙ cost_back (length q) q

  pub leq_onto : (x y : List ℕ) → at_most P.measure (M.cost (onto [] x)) (M.cost (onto [] y)) ≡ at_most P.measure (nat.cost P x) (nat.cost P y)
  leq_onto x y = ap₂ (at_most P.measure) (cost_onto x) (cost_onto y)

  pub previous_is : (j : ℕ) (xs : List ℕ) → previous P (backward j xs) ≡ nat.origin P xs j
  previous_is j xs = ap (λ k. cond (ltb k 3) (get_or P.applied k 0) (get_or (backward j xs) 2 0)) (length_backward j xs) ∙ go j
    where
      go : (j : ℕ) → cond (ltb j 3) (get_or P.applied j 0) (get_or (backward j xs) 2 0) ≡ cond (ltb j 3) (get_or P.applied j 0) (get_or xs (j - 3) 0)
      go zero = refl
      go (suc zero) = refl
      go (suc (suc zero)) = refl
      go (suc (suc (suc k))) = let e : k ≡ suc (suc (suc k)) - 3 = omega arith in ap (λ v. cond (ltb (suc (suc (suc k))) 3) (get_or P.applied (suc (suc (suc k))) 0) v) (ap (λ i. get_or xs i 0) e)

  -- the two ways of saying that an entry is permitted
  entry_to : (j : ℕ) (xs : List ℕ) → MayBe P xs j (get_or xs j 0) → (get_or xs j 0 < M.size (backward j xs)) × (M.permits (backward j xs) (get_or xs j 0) ≡ true)
  entry_to j xs h = (subst (λ i. get_or xs j 0 < (leg_of P i).count) (sym (length_backward j xs)) h.exists, ap₂ (λ i u. (leg_of P i).permits u (get_or xs j 0)) (length_backward j xs) (previous_is j xs) ∙ h.permitted)

  entry_from : (j : ℕ) (xs : List ℕ) → (get_or xs j 0 < M.size (backward j xs)) → (M.permits (backward j xs) (get_or xs j 0) ≡ true) → MayBe P xs j (get_or xs j 0)
  entry_from j xs h e = record { exists = subst (λ i. get_or xs j 0 < (leg_of P i).count) (length_backward j xs) h; permitted = sym (ap₂ (λ i u. (leg_of P i).permits u (get_or xs j 0)) (length_backward j xs) (previous_is j xs)) ∙ e }

  tail_to : (d j : ℕ) (xs : List ℕ) → j + d ≡ length xs → nat.Permitted P xs → Permitted M (backward j xs) (drop j xs)
  tail_to zero j xs e h = subst (Permitted M (backward j xs)) (sym (drop_all j xs (omega arith))) tt
  tail_to (suc d) j xs e h =
      let l : j < length xs = omega arith in
      let a = entry_to j xs (h j l) in
      subst (Permitted M (backward j xs)) (sym (drop_more xs j 0 l)) (a.0, a.1, subst (λ s. Permitted M s (drop (j + 1) xs)) (backward_more j xs) (tail_to d (j + 1) xs (omega arith) h))

  tail_from : (d j : ℕ) (xs : List ℕ) → j + d ≡ length xs → Permitted M (backward j xs) (drop j xs) → (i : ℕ) → j ≤ i → i < length xs → MayBe P xs i (get_or xs i 0)
  tail_from zero j xs e h i k l = absurd (omega arith)
  tail_from (suc d) j xs e h i k l =
      let m : j < length xs = omega arith in
      let a : Permitted M (backward j xs) (get_or xs j 0 ∷ drop (j + 1) xs) = subst (Permitted M (backward j xs)) (drop_more xs j 0 m) h in
      ⊎_elim
      (λ q. subst (λ i. MayBe P xs i (get_or xs i 0)) (sym q) (entry_from j xs a.0 a.1))
      (λ q. tail_from d (j + 1) xs (omega arith) (subst (λ s. Permitted M s (drop (j + 1) xs)) (sym (backward_more j xs)) a.2) i (omega arith) l)
      (cases_eq i j)

  pub permitted_to : (q : List ℕ) → nat.Permitted P q → Permitted M [] q
  permitted_to q h = tail_to (length q) 0 q (omega arith) h

  pub permitted_from : (q : List ℕ) → Permitted M [] q → nat.Permitted P q
  permitted_from q h j l = tail_from (length q) 0 q (omega arith) h j (omega arith) l

  pub whole_to : (f : List ℕ) → Feasible P f → Whole M P.entries f
  whole_to f w = (w.full, permitted_to f w.permitted)

  pub whole_from : (f : List ℕ) → Whole M P.entries f → Feasible P f
  whole_from f w = record { full = w.0; permitted = permitted_from f w.1 }

  open_from : (start q : List ℕ) → length q ≤ P.entries → Opens M P.entries (M.cost (onto [] start)) q → nat.Open P start q
  open_from start q h o = record {
    against_start = sym (leq_onto q start) ∙ o.0;
    against_earlier = λ f w b. sym (leq_onto q f) ∙ o.1 f (whole_to f w) (before_precedes f q (omega (arith, w.full)) ∙ b);
  }

  open_to : (start q : List ℕ) → length q ≤ P.entries → nat.Open P start q → Opens M P.entries (M.cost (onto [] start)) q
  open_to start q h o = (leq_onto q start ∙ o.against_start, λ f w b. leq_onto q f ∙ o.against_earlier f (whole_from f w) (sym (before_precedes f q (omega (arith, w.0))) ∙ b))

  -- the test that the search makes
  abbrev pub due_or_not : List ℕ → List ℕ → Bool
  due_or_not start = due M (fulls M P.entries []) [] (M.cost (onto [] start))

  due_from : (start q : List ℕ) → length q ≤ P.entries → due_or_not start q ≡ true → 1 < length q → nat.Open P start (drop_last q)
  due_from start [] h e l = absurd (omega arith)
  due_from start (x ∷ []) h e l = absurd (omega arith)
  due_from start (x ∷ (y ∷ q)) h e l = open_from start (drop_last (x ∷ (y ∷ q))) (omega (arith, short (x ∷ (y ∷ q)))) (opens_means M P.entries (M.cost (onto [] start)) (drop_last (x ∷ (y ∷ q))) e)

  due_to : (start q : List ℕ) → nat.Due P start q → due_or_not start q ≡ true
  due_to start [] h = refl
  due_to start (x ∷ []) h = refl
  due_to start (x ∷ (y ∷ q)) h = means_opens M P.entries (M.cost (onto [] start)) (drop_last (x ∷ (y ∷ q))) (open_to start (drop_last (x ∷ (y ∷ q))) (omega (arith, short (x ∷ (y ∷ q)), h.fits)) (h.opened (omega arith)))

  abbrev all_nodes : List (List ℕ)
  all_nodes = nodes M P.entries []

  -- the nodes that the search visits
  abbrev pub walked : List ℕ → List (List ℕ)
  walked start = dues M P.entries (M.cost (onto [] start))

  -- they are the due nodes
  pub dues_are : (start : List ℕ) → nat.DueNodes P start (walked start)
  dues_are start = record {
    ascending = asc_kept (due_or_not start) all_nodes (asc_nodes M P.entries []);
    each_due = λ q m.
        let a = in_all _ (walked start) q (all_kept_by (due_or_not start) _ all_nodes (nodes_are M P.entries [])) m in
        let b : due_or_not start q ≡ true = in_all (λ q. due_or_not start q ≡ true) (walked start) q (kept_by_passes (due_or_not start) all_nodes) m in
        record { some = a.0; fits = a.1; permitted = permitted_from q a.2; opened = due_from start q a.1 b };
    every_due = λ q d. in_kept (due_or_not start) all_nodes q (nodes_all M P.entries [] (λ q. In q all_nodes) (all_self all_nodes) q d.some d.fits (permitted_to q d.permitted)) (due_to start q d);
  }

  -- there is one list of due nodes
  pub one_list : (start : List ℕ) (xs ys : List (List ℕ)) → nat.DueNodes P start xs → nat.DueNodes P start ys → xs ≡ ys
  one_list start xs ys a b = settled xs ys a.ascending b.ascending (λ q m. b.every_due q (a.each_due q m)) (λ q m. a.every_due q (b.each_due q m))

  fold_is : (b : List ℕ) (xs : List (List ℕ)) → fold (pick M) (onto [] b) (map (onto []) xs) ≡ onto [] (fold (better P) b xs)
  fold_is b [] = refl
  fold_is b (x ∷ xs) = ap (λ v. fold (pick M) v (map (onto []) xs)) (ap (λ v. cond v (onto [] x) (onto [] b)) (leq_onto x b) ∙ push (at_most P.measure (nat.cost P x) (nat.cost P b))) ∙ fold_is (better P b x) xs
    where
      push : (v : Bool) → cond v (onto [] x) (onto [] b) ≡ onto [] (cond v x b)
      push true = refl
      push false = refl

  pub answer_is : (limit : ℕ) (b : List ℕ) → answer M P.entries limit (onto [] b) ≡ onto [] (cheapest P b (take limit (walked b)))
  answer_is limit b =
      ap (fold (pick M) (onto [] b)) (kept_map (λ q. eqb (length q) P.entries) (onto []) V ∙ ap (map (onto [])) (kept_ext _ _ V (all_of _ (λ q. ap (λ k. eqb k P.entries) (length-reverse q)) V)))
      ∙ fold_is b (filter (λ q. eqb (length q) P.entries) V)
    where
      V : List (List ℕ)
      V = take limit (walked b)

pub undo : (x y : List ℕ) → onto [] x ≡ onto [] y → x ≡ y
undo x y e = sym (reverse-reverse x) ∙ ap (onto []) e ∙ reverse-reverse y
