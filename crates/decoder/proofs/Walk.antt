-- The tree search, and that it visits the due nodes.
use Rattle.std.proofs.Common.{◌≡◌, ℕ, zero, suc, ◌+◌, ◌-◌, ◌<◌, ◌≤◌, Bool, true, false, cond, not, ◌&&◌, ◌||◌, List, [], ◌∷◌, ◌++◌, map, length, fold, filter, sym, refl, ap, ◌∙◌, ap₂, arith}
use mathlib.Core.List.{drop_last}
use Rattle.std.specs.List.{range_with_len, flat_map, AllByRecursion, list_all}
use Rattle.std.proofs.lemmas.List.Elements.{filter-append}
use Rattle.std.proofs.ByRecursion.{All-map, All-weaker}
use Rattle.std.proofs.lemmas.List.{map-append}
use Rattle.std.proofs.lemmas.Bool.{both_ways, cond_both}
use Rattle.std.proofs.Math.Bool.{and-true, and_assoc}
use Rattle.std.proofs.lemmas.List.Folds.{list_all-append, list_all-map}
use Rattle.std.proofs.lemmas.Simd.{map-map}
use Rattle.decoder.proofs.Tree.{Rules, Lawful, moves, before, onto, fulls, nodes, opens, due, pick}
use Rattle.decoder.proofs.Bools.{absorb_left, absorb_right, all_of, all_joined, all_ext, all_true, kept_ext, kept_none, kept_map, before_same, before_less, before_more}

abbrev pub over : {B V : Type 0} → (ℕ → B → List V) → (ℕ → B → B) → List ℕ → B → List V
over v e [] b = []
over v e (p ∷ ps) b = v p b ++ over v e ps (e p b)

module _ {C : Type 0} (R : Rules C) where
  -- the best of b and all that goes on from s
  abbrev pub after : ℕ → List ℕ → List ℕ → List ℕ
  after d s b = fold (pick R) b (map (onto s) (fulls R d s))

  -- what is visited below s, of d more entries, where b is the best so far
  abbrev pub seen : ℕ → List ℕ → List ℕ → List (List ℕ)
  seen zero s b = []
  seen (suc d) s b = over (λ p c. (p ∷ s) ∷ cond (R.leq (R.cost (p ∷ s)) (R.cost c)) (seen d (p ∷ s) c) []) (λ p c. after d (p ∷ s) c) (moves R s) b

  abbrev pub visits : ℕ → List ℕ → List ℕ → List ℕ → List (List ℕ)
  visits d s ps b = over (λ p c. (p ∷ s) ∷ cond (R.leq (R.cost (p ∷ s)) (R.cost c)) (seen d (p ∷ s) c) []) (λ p c. after d (p ∷ s) c) ps b

  abbrev pub nodes_of : ℕ → List ℕ → List ℕ → List (List ℕ)
  nodes_of d s ps = flat_map (λ p. (p ∷ []) ∷ map (λ f. p ∷ f) (nodes R d (p ∷ s))) ps

  abbrev pub fulls_of : ℕ → List ℕ → List ℕ → List (List ℕ)
  fulls_of d s ps = flat_map (λ p. map (λ f. p ∷ f) (fulls R d (p ∷ s))) ps

abbrev pub Rising : List ℕ → Type 0
Rising [] = Unit {0}
Rising (p ∷ ps) = AllByRecursion (λ x. p < x) ps × Rising ps

past_counting : (t : ℕ → Bool) (a p n : ℕ) → a < p → AllByRecursion (λ x. a < x) (filter t (range_with_len p n))
past_counting t a p zero h = tt
past_counting t a p (suc n) h = cond_both (t p) _ _ (AllByRecursion (λ x. a < x)) (λ _. (h, past_counting t a (p + 1) n (omega arith))) (λ _. past_counting t a (p + 1) n (omega arith))

pub rising_counting : (t : ℕ → Bool) (p n : ℕ) → Rising (filter t (range_with_len p n))
rising_counting t p zero = tt
rising_counting t p (suc n) = cond_both (t p) _ _ Rising (λ _. (past_counting t p (p + 1) n (omega arith), rising_counting t (p + 1) n)) (λ _. rising_counting t (p + 1) n)

abbrev Past : ℕ → List ℕ → Type 0
Past p [] = ⊥
Past p (x ∷ r) = p < x

abbrev Some : List ℕ → Type 0
Some [] = ⊥
Some (x ∷ r) = Unit {0}

pub length_onto : (s q : List ℕ) → length (onto s q) ≡ length s + length q
length_onto s [] = omega arith
length_onto s (p ∷ q) = omega (arith, length_onto (p ∷ s) q)

drop_last_short : (x : ℕ) (q : List ℕ) → length (drop_last (x ∷ q)) ≤ length q
drop_last_short x [] = omega arith
drop_last_short x (y ∷ q) = omega (arith, drop_last_short y q)

module _ {C : Type 0} (R : Rules C) where
  pub fulls_long : (d : ℕ) (s : List ℕ) → AllByRecursion (λ f. length f ≡ d) (fulls R d s)
  fulls_long zero s = (refl, tt)
  fulls_long (suc d) s = all_joined (λ f. length f ≡ suc d) (λ _. Unit {0}) (λ p. map (λ f. p ∷ f) (fulls R d (p ∷ s))) (λ p _. All-map _ (λ f. p ∷ f) (fulls R d (p ∷ s)) (All-weaker _ _ (λ f e. ap suc e) _ (fulls_long d (p ∷ s)))) (moves R s) (all_of _ (λ _. tt) _)

  pub fulls_fit : (N d : ℕ) (s : List ℕ) → length s + d ≤ N → AllByRecursion (λ f. length f ≤ N) (map (onto s) (fulls R d s))
  fulls_fit N d s h = All-map _ (onto s) (fulls R d s) (All-weaker _ _ (λ f e. omega (arith, length_onto s f)) _ (fulls_long d s))

  pub fold_fit : (N : ℕ) (b : List ℕ) (fs : List (List ℕ)) → length b ≤ N → AllByRecursion (λ f. length f ≤ N) fs → length (fold (pick R) b fs) ≤ N
  fold_fit N b [] h a = h
  fold_fit N b (f ∷ fs) h a = fold_fit N (pick R b f) fs (cond_both (R.leq (R.cost f) (R.cost b)) f b (λ x. length x ≤ N) (λ _. a.0) (λ _. h)) a.1

  pub after_fit : (N d : ℕ) (s b : List ℕ) → length s + d ≤ N → length b ≤ N → length (after R d s b) ≤ N
  after_fit N d s b h k = fold_fit N b _ k (fulls_fit N d s h)

  pub folded_skip : (b : List ℕ) (fs : List (List ℕ)) → AllByRecursion (λ f. R.leq (R.cost f) (R.cost b) ≡ false) fs → fold (pick R) b fs ≡ b
  folded_skip b [] a = refl
  folded_skip b (f ∷ fs) a = ap (λ v. fold (pick R) (cond v f b) fs) a.0 ∙ folded_skip b fs a.1

module _ {C : Type 0} (R : Rules C) {N : ℕ} (L : Lawful R N) where
  pub leq_refl : (a : List ℕ) → length a ≤ N → R.leq (R.cost a) (R.cost a) ≡ true
  leq_refl a h = go (R.leq (R.cost a) (R.cost a)) refl
    where
      go : (v : Bool) → R.leq (R.cost a) (R.cost a) ≡ v → R.leq (R.cost a) (R.cost a) ≡ true
      go true e = e
      go false e = L.total a a h h e

  pub not_above : (a b c : List ℕ) → length a ≤ N → length b ≤ N → length c ≤ N → R.leq (R.cost a) (R.cost b) ≡ true → R.leq (R.cost a) (R.cost c) ≡ false → R.leq (R.cost b) (R.cost c) ≡ false
  not_above a b c ha hb hc h k = go (R.leq (R.cost b) (R.cost c)) refl
    where
      go : (v : Bool) → R.leq (R.cost b) (R.cost c) ≡ v → R.leq (R.cost b) (R.cost c) ≡ false
      go true e = absurd (both_ways _ k (L.trans a b c ha hb hc h e))
      go false e = e

  pub pick_leq : (x b f : List ℕ) → length x ≤ N → length b ≤ N → length f ≤ N → R.leq (R.cost x) (R.cost (pick R b f)) ≡ (R.leq (R.cost x) (R.cost b) && R.leq (R.cost x) (R.cost f))
  pick_leq x b f hx hb hf = go (R.leq (R.cost f) (R.cost b)) refl
    where
      go : (v : Bool) → R.leq (R.cost f) (R.cost b) ≡ v → R.leq (R.cost x) (R.cost (cond v f b)) ≡ (R.leq (R.cost x) (R.cost b) && R.leq (R.cost x) (R.cost f))
      go true e = absorb_left _ _ (λ h. L.trans x f b hx hf hb h e)
      go false e = absorb_right _ _ (λ h. L.trans x b f hx hb hf h (L.total f b hf hb e))

  pub folded_leq : (x b : List ℕ) (fs : List (List ℕ)) → length x ≤ N → length b ≤ N → AllByRecursion (λ f. length f ≤ N) fs → R.leq (R.cost x) (R.cost (fold (pick R) b fs)) ≡ (R.leq (R.cost x) (R.cost b) && list_all (λ f. R.leq (R.cost x) (R.cost f)) fs)
  folded_leq x b [] hx hb a = sym (and-true _)
  folded_leq x b (f ∷ fs) hx hb a =
      folded_leq x (pick R b f) fs hx (fold_fit R N b (f ∷ []) hb (a.0, tt)) a.1
      ∙ ap (λ v. v && list_all (λ g. R.leq (R.cost x) (R.cost g)) fs) (pick_leq x b f hx hb a.0)
      ∙ and_assoc (R.leq (R.cost x) (R.cost b)) (R.leq (R.cost x) (R.cost f)) (list_all (λ g. R.leq (R.cost x) (R.cost g)) fs)

  pub grows_onto : (s q : List ℕ) → length s + length q ≤ N → R.leq (R.cost s) (R.cost (onto s q)) ≡ true
  grows_onto s [] h = leq_refl s (omega arith)
  grows_onto s (p ∷ q) h = L.trans s (p ∷ s) (onto (p ∷ s) q) (omega arith) (omega arith) (omega (arith, length_onto (p ∷ s) q)) (L.grows s p (omega arith)) (grows_onto (p ∷ s) q (omega arith))

  -- what goes on from s costs more than b where s does
  above_onto : (s q b : List ℕ) → length s + length q ≤ N → length b ≤ N → R.leq (R.cost s) (R.cost b) ≡ false → R.leq (R.cost (onto s q)) (R.cost b) ≡ false
  above_onto s q b h k e = not_above s (onto s q) b (omega arith) (omega (arith, length_onto s q)) k (grows_onto s q h) e

  -- where s costs more than b, nothing that goes on from s is better
  pub after_skip : (d : ℕ) (s b : List ℕ) → length s + d ≤ N → length b ≤ N → R.leq (R.cost s) (R.cost b) ≡ false → after R d s b ≡ b
  after_skip d s b h k e =
      folded_skip R b _ (All-map (λ f. R.leq (R.cost f) (R.cost b) ≡ false) (onto s) (fulls R d s) (All-weaker _ _ (λ f l. above_onto s f b (omega arith) k e) _ (fulls_long R d s)))

  some_nodes : (d : ℕ) (s : List ℕ) → AllByRecursion (λ q. Some q × (length q ≤ d)) (nodes R d s)
  some_nodes zero s = tt
  some_nodes (suc d) s = all_joined (λ q. Some q × (length q ≤ suc d)) (λ _. Unit {0}) (λ x. (x ∷ []) ∷ map (λ f. x ∷ f) (nodes R d (x ∷ s))) (λ x _. ((tt, omega arith), All-map (λ q. Some q × (length q ≤ suc d)) (λ f. x ∷ f) _ (All-weaker _ _ (λ f k. (tt, omega (arith, k.1))) _ (some_nodes d (x ∷ s))))) (moves R s) (all_of _ (λ _. tt) _)

  past_nodes : (d : ℕ) (s : List ℕ) (p : ℕ) (ps : List ℕ) → AllByRecursion (λ x. p < x) ps → AllByRecursion (λ q. Past p q × (length q ≤ suc d)) (nodes_of R d s ps)
  past_nodes d s p ps a = all_joined (λ q. Past p q × (length q ≤ suc d)) (λ x. p < x) (λ x. (x ∷ []) ∷ map (λ f. x ∷ f) (nodes R d (x ∷ s))) (λ x h. ((h, omega arith), All-map (λ q. Past p q × (length q ≤ suc d)) (λ f. x ∷ f) _ (All-weaker _ _ (λ f k. (h, omega (arith, k.1))) _ (some_nodes d (x ∷ s))))) ps a

  past_fulls : (d : ℕ) (s : List ℕ) (p : ℕ) (ps : List ℕ) → AllByRecursion (λ x. p < x) ps → AllByRecursion (Past p) (fulls_of R d s ps)
  past_fulls d s p ps a = all_joined (Past p) (λ x. p < x) _ (λ x h. All-map (Past p) (λ f. x ∷ f) _ (all_of _ (λ _. h) _)) ps a

  -- below p, only what goes on from p counts
  opens_here : (d : ℕ) (s : List ℕ) (p : ℕ) (ps : List ℕ) (b : C) (t : List ℕ) → AllByRecursion (λ x. p < x) ps → opens R (fulls_of R d s (p ∷ ps)) s b (p ∷ t) ≡ opens R (fulls R d (p ∷ s)) (p ∷ s) b t
  opens_here d s p ps b t a =
      ap (λ v. R.leq (R.cost (onto (p ∷ s) t)) b && v)
      (list_all-append T F G
      ∙ ap (λ v. list_all T F && v) (all_true T G (later G (past_fulls d s p ps a)))
      ∙ and-true (list_all T F)
      ∙ list_all-map T (λ f. p ∷ f) (fulls R d (p ∷ s))
      ∙ all_ext _ _ (fulls R d (p ∷ s)) (all_of _ (λ f. ap (λ v. not v || R.leq (R.cost (onto (p ∷ s) t)) (R.cost (onto (p ∷ s) f))) (before_same p f t)) _))
    where
      T : List ℕ → Bool
      T f = not (before f (p ∷ t)) || R.leq (R.cost (onto (p ∷ s) t)) (R.cost (onto s f))

      F : List (List ℕ)
      F = map (λ f. p ∷ f) (fulls R d (p ∷ s))

      G : List (List ℕ)
      G = fulls_of R d s ps

      late : (g : List ℕ) → Past p g → T g ≡ true
      late [] h = absurd h
      late (x ∷ g) h = ap (λ v. not v || R.leq (R.cost (onto (p ∷ s) t)) (R.cost (onto (x ∷ s) g))) (before_more p x g t h)

      later : (gs : List (List ℕ)) → AllByRecursion (Past p) gs → AllByRecursion (λ f. T f ≡ true) gs
      later [] h = tt
      later (g ∷ gs) h = (late g h.0, later gs h.1)

  -- past p, all that goes on from p comes before, and so counts into the best so far
  opens_past : (d : ℕ) (s : List ℕ) (p : ℕ) (ps : List ℕ) (b : List ℕ) (x : ℕ) (t : List ℕ) → length s + suc d ≤ N → length b ≤ N → length t ≤ d → p < x → opens R (fulls_of R d s (p ∷ ps)) s (R.cost b) (x ∷ t) ≡ opens R (fulls_of R d s ps) s (R.cost (after R d (p ∷ s) b)) (x ∷ t)
  opens_past d s p ps b x t hs hb ht h =
      ap (λ v. R.leq K (R.cost b) && v)
      (list_all-append T F G
      ∙ ap (λ v. v && list_all T G) (list_all-map T (λ f. p ∷ f) (fulls R d (p ∷ s))
      ∙ all_ext _ _ (fulls R d (p ∷ s)) (all_of _ (λ f. ap (λ v. not v || R.leq K (R.cost (onto (p ∷ s) f))) (before_less p x f t h)) _)
      ∙ sym (list_all-map (λ f. R.leq K (R.cost f)) (onto (p ∷ s)) (fulls R d (p ∷ s)))))
      ∙ sym (and_assoc (R.leq K (R.cost b)) (list_all (λ f. R.leq K (R.cost f)) (map (onto (p ∷ s)) (fulls R d (p ∷ s)))) (list_all T G))
      ∙ ap (λ v. v && list_all T G) (sym (folded_leq (onto (x ∷ s) t) b (map (onto (p ∷ s)) (fulls R d (p ∷ s))) (omega (arith, length_onto (x ∷ s) t)) hb (fulls_fit R N d (p ∷ s) (omega arith))))
    where
      K : C
      K = R.cost (onto (x ∷ s) t)

      T : List ℕ → Bool
      T f = not (before f (x ∷ t)) || R.leq K (R.cost (onto s f))

      F : List (List ℕ)
      F = map (λ f. p ∷ f) (fulls R d (p ∷ s))

      G : List (List ℕ)
      G = fulls_of R d s ps

  due_past : (d : ℕ) (s : List ℕ) (p : ℕ) (ps : List ℕ) (b : List ℕ) → length s + suc d ≤ N → length b ≤ N → (q : List ℕ) → Past p q × (length q ≤ suc d) → due R (fulls_of R d s (p ∷ ps)) s (R.cost b) q ≡ due R (fulls_of R d s ps) s (R.cost (after R d (p ∷ s) b)) q
  due_past d s p ps b hs hb [] h = absurd h.0
  due_past d s p ps b hs hb (x ∷ []) h = refl
  due_past d s p ps b hs hb (x ∷ (y ∷ q)) h = opens_past d s p ps b x (drop_last (y ∷ q)) hs hb (omega (arith, h.1, drop_last_short y q)) h.0

  -- below p, where p is entered and where it is not
  due_in : (d : ℕ) (s : List ℕ) (p : ℕ) (ps : List ℕ) (b : C) → AllByRecursion (λ x. p < x) ps → R.leq (R.cost (p ∷ s)) b ≡ true → (q : List ℕ) → Some q × (length q ≤ d) → due R (fulls_of R d s (p ∷ ps)) s b (p ∷ q) ≡ due R (fulls R d (p ∷ s)) (p ∷ s) b q
  due_in d s p ps b a e [] h = absurd h.0
  due_in d s p ps b a e (x ∷ []) h = opens_here d s p ps b [] a ∙ ap (λ v. v && list_all (λ f. true) (fulls R d (p ∷ s))) e ∙ all_true (λ f. true) (fulls R d (p ∷ s)) (all_of _ (λ _. refl) _)
  due_in d s p ps b a e (x ∷ (y ∷ q)) h = opens_here d s p ps b (x ∷ drop_last (y ∷ q)) a

  due_out : (d : ℕ) (s : List ℕ) (p : ℕ) (ps : List ℕ) (b : List ℕ) → length s + suc d ≤ N → length b ≤ N → AllByRecursion (λ x. p < x) ps → R.leq (R.cost (p ∷ s)) (R.cost b) ≡ false → (q : List ℕ) → Some q × (length q ≤ d) → due R (fulls_of R d s (p ∷ ps)) s (R.cost b) (p ∷ q) ≡ false
  due_out d s p ps b hs hb a e [] h = absurd h.0
  due_out d s p ps b hs hb a e (x ∷ q) h =
      opens_here d s p ps (R.cost b) (drop_last (x ∷ q)) a ∙ ap (λ v. v && list_all (λ f. not (before f (drop_last (x ∷ q))) || R.leq (R.cost (onto (p ∷ s) (drop_last (x ∷ q)))) (R.cost (onto (p ∷ s) f))) (fulls R d (p ∷ s))) (above_onto (p ∷ s) (drop_last (x ∷ q)) b (omega (arith, h.1, drop_last_short x q)) hb e)

  abbrev pub Seen : ℕ → Type 0
  Seen d = (s b : List ℕ) → length s + d ≤ N → length b ≤ N → seen R d s b ≡ map (onto s) (filter (due R (fulls R d s) s (R.cost b)) (nodes R d s))

  seen_here : (d : ℕ) → Seen d → (s : List ℕ) (p : ℕ) (ps : List ℕ) (b : List ℕ) → length s + suc d ≤ N → length b ≤ N → AllByRecursion (λ x. p < x) ps → (v : Bool) → R.leq (R.cost (p ∷ s)) (R.cost b) ≡ v → cond v (seen R d (p ∷ s) b) [] ≡ map (onto s) (filter (due R (fulls_of R d s (p ∷ ps)) s (R.cost b)) (map (λ f. p ∷ f) (nodes R d (p ∷ s))))
  seen_here d ih s p ps b hs hb a true e =
      ih (p ∷ s) b (omega arith) hb
      ∙ ap (map (onto (p ∷ s))) (sym (kept_ext (λ q. D (p ∷ q)) _ below (All-weaker (λ q. Some q × (length q ≤ d)) _ (due_in d s p ps (R.cost b) a e) below (some_nodes d (p ∷ s)))))
      ∙ sym (map-map (onto s) (λ f. p ∷ f) (filter (λ q. D (p ∷ q)) below))
      ∙ ap (map (onto s)) (sym (kept_map D (λ f. p ∷ f) below))
    where
      below : List (List ℕ)
      below = nodes R d (p ∷ s)

      D : List ℕ → Bool
      D = due R (fulls_of R d s (p ∷ ps)) s (R.cost b)
  seen_here d ih s p ps b hs hb a false e =
      sym (ap (map (onto s)) (kept_map D (λ f. p ∷ f) below ∙ ap (map (λ f. p ∷ f)) (kept_none (λ q. D (p ∷ q)) below (All-weaker (λ q. Some q × (length q ≤ d)) _ (due_out d s p ps b hs hb a e) below (some_nodes d (p ∷ s))))))
    where
      below : List (List ℕ)
      below = nodes R d (p ∷ s)

      D : List ℕ → Bool
      D = due R (fulls_of R d s (p ∷ ps)) s (R.cost b)

  seen_kids : (d : ℕ) → Seen d → (s ps : List ℕ) → length s + suc d ≤ N → Rising ps → (b : List ℕ) → length b ≤ N → over (λ p c. (p ∷ s) ∷ cond (R.leq (R.cost (p ∷ s)) (R.cost c)) (seen R d (p ∷ s) c) []) (λ p c. after R d (p ∷ s) c) ps b ≡ map (onto s) (filter (due R (fulls_of R d s ps) s (R.cost b)) (nodes_of R d s ps))
  seen_kids d ih s [] hs r b hb = refl
  seen_kids d ih s (p ∷ ps) hs r b hb =
      ap (λ v. (p ∷ s) ∷ v)
      (ap₂ ◌++◌ (seen_here d ih s p ps b hs hb r.0 _ refl)
      (seen_kids d ih s ps hs r.1 (after R d (p ∷ s) b) (after_fit R N d (p ∷ s) b (omega arith) hb)
      ∙ ap (map (onto s)) (sym (kept_ext D _ M (All-weaker (λ q. Past p q × (length q ≤ suc d)) _ (due_past d s p ps b hs hb) M (past_nodes d s p ps r.0)))))
      ∙ sym (map-append (onto s) (filter D (map (λ f. p ∷ f) below)) (filter D M))
      ∙ ap (map (onto s)) (sym (filter-append D (map (λ f. p ∷ f) below) M)))
    where
      below : List (List ℕ)
      below = nodes R d (p ∷ s)

      M : List (List ℕ)
      M = nodes_of R d s ps

      D : List ℕ → Bool
      D = due R (fulls_of R d s (p ∷ ps)) s (R.cost b)

  -- the search visits the due nodes, in order
  pub seen_dues : (d : ℕ) → Seen d
  seen_dues zero s b hs hb = refl
  seen_dues (suc d) s b hs hb = seen_kids d (seen_dues d) s (moves R s) hs (rising_counting (R.permits s) 0 (R.size s - 0)) b hb
