-- What the search keeps from step to step, as the code has it.
use Rattle.std.proofs.Common.{◌≡◌, ℕ, zero, suc, ◌+◌, ◌-◌, ◌%◌, ◌<◌, ◌≤◌, Bool, true, false, not, ◌≢◌, List, [], ◌∷◌, length, get_or, take, set, replicate, ℤ, pos, ◌+ℤ◌, ◌-ℤ◌, Ordering, sym, refl, ap, ◌∙◌, subst, ap₂, ⊎_elim, add-one, arith, w64, to_z, of_z}
use Rattle.std.specs.Ordering.{is_le, is_gt}
use Rattle.std.proofs.lemmas.List.{get_or_default, get_or-set_same, get_or-set_other, length-set}
use Rattle.std.proofs.lemmas.Bool.{cases_eq}
use Rattle.legs.specs.Measure.{Small, Reached, at_most}
use Rattle.decoder.specs.Sequences.{Problem, Sound, leg_of, origin, left_over, difference, cost, term}
use Rattle.decoder.specs.Computed.{Computed}
use Rattle.decoder.specs.Tasks.{ZeroPast}
use Rattle.decoder.specs.declared.Mark.{Mark}
use Rattle.decoder.specs.declared.Mark.TheVariants.{Certified, Stopped}
use Rattle.decoder.proofs.Tree.{Rules, backward, Found, onto}
use Rattle.decoder.proofs.Machine.{row_sum, machine}
use Rattle.decoder.proofs.Steps.{Going, kept_top, length_backward, go_start, go_skip, go_back, go_over, go_full, go_down, go_stop, go_end}
use Rattle.decoder.proofs.Best.{backward_take}
use Rattle.decoder.proofs.Bridge.{cost_back, cost_onto, previous_is}
use Rattle.decoder.proofs.Reach.{le_not_gt, bounded, left_over_small, left_bits, row_bits, difference_small, reach, lawful}
use Rattle.decoder.proofs.Promised.{found_computed}

-- the test that the code makes
tests : (o r : Ordering) (y w : Bool) → r ≡ o → y ≡ is_gt r → y ≡ w → is_le o ≡ not w
tests o r y w e f q = le_not_gt o ∙ ap not (ap is_gt (sym e) ∙ sym f ∙ q)

-- an array of zeros
pub all_zero : (n k : ℕ) → ◌≡◌ {A = ℕ} (get_or (replicate n 0) k 0) 0
all_zero zero k = refl
all_zero (suc n) zero = refl
all_zero (suc n) (suc k) = all_zero n k

-- a change within the first n entries
pub clear_set : (n : ℕ) (xs : List ℕ) (i v : ℕ) → i < n → ZeroPast n xs → ZeroPast n (set xs i v)
clear_set n xs i v h c k l = let ne : k ≢ i = omega arith in get_or-set_other xs i k v 0 ne ∙ c k l

module _ {C : Type 0} (P : Problem C) where
  -- the first j entries are chosen, the next candidate stands at j, and `count` nodes are visited;
  -- `left` has what each row up to j leaves of its target before its own entry
  pub record Stands (limit : ℕ) (start : List ℕ) (j : ℕ) (at : List ℕ) (costs : List C) (left : List ℤ) (count : ℕ) (best : List ℕ) (paid : C) : Type 0 where
    pub going : Going (machine P) P.entries limit (backward P.entries start) j at costs count (backward P.entries best) paid
    pub at_long : length at ≡ 15
    pub left_long : length left ≡ 15
    pub lefts : (i : ℕ) → i ≤ j → get_or left i (pos 0) ≡ left_over P at i i
    pub at_clear : ZeroPast P.entries at
    pub best_clear : ZeroPast P.entries best
    pub best_long : length best ≡ 15

  sum_set : (at : List ℕ) (i v j k : ℕ) → k ≤ i → row_sum P (set at i v) j k ≡ row_sum P at j k
  sum_set at i v j zero h = refl
  sum_set at i v j (suc k) h = let ne : k ≢ i = omega arith in ap₂ ◌+ℤ◌ (sum_set at i v j k (omega arith)) (ap (term P j k) (get_or-set_other at i k v 0 ne))

  left_set : (at : List ℕ) (i v j k : ℕ) → k ≤ i → left_over P (set at i v) j k ≡ left_over P at j k
  left_set at i v j k h = ap (λ x. get_or P.target j (pos 0) -ℤ x) (sum_set at i v j k h)

  pub lefts_set : (left : List ℤ) (at : List ℕ) (j i v : ℕ) → j ≤ i → ((r : ℕ) → r ≤ j → get_or left r (pos 0) ≡ left_over P at r r) → (r : ℕ) → r ≤ j → get_or left r (pos 0) ≡ left_over P (set at i v) r r
  lefts_set left at j i v h l r k = l r k ∙ sym (left_set at i v r r (omega arith))

module _ {C : Type 0} {P : Problem C} (o : Sound P) where
  abbrev n : ℕ
  n = P.entries

  abbrev M : Rules C
  M = machine P

  pub begins : {limit : ℕ} {start at : List ℕ} {costs : List C} {left : List ℤ} {paid : C} → length start ≡ 15 → length at ≡ 15 → length costs ≡ 16 → length left ≡ 15 → ((k : ℕ) → get_or at k 0 ≡ 0) → get_or costs 0 P.measure.start ≡ P.measure.start → get_or left 0 (pos 0) ≡ left_over P at 0 0 → ZeroPast n start → paid ≡ cost P (take n start) → Stands P limit start 0 at costs left 0 start paid
  begins {limit} {start} {at} {costs} {left} {paid} ls la lc ll z k f cl e = record {
    going = go_start M n limit (backward n start) at costs paid (omega (arith, o.some)) (omega (arith, o.few)) (omega (arith, o.few)) (z 0) k (e ∙ sym (ap M.cost (backward_take n start (omega (arith, o.few))) ∙ cost_onto P (take n start)));
    at_long = la;
    left_long = ll;
    lefts = λ i h. let q : i ≡ 0 = omega arith in subst (λ i. get_or left i (pos 0) ≡ left_over P at i i) (sym q) f;
    at_clear = λ i h. z i;
    best_clear = cl;
    best_long = ls;
  }

  module _ {limit : ℕ} {start : List ℕ} {j : ℕ} {at : List ℕ} {costs : List C} {left : List ℤ} {count : ℕ} {best : List ℕ} {paid : C} (s : Stands P limit start j at costs left count best paid) where
    abbrev g : Going M n limit (backward n start) j at costs count (backward n best) paid
    g = s.going

    abbrev here : List ℕ
    here = backward j at

    abbrev cand : ℕ
    cand = get_or at j 0

    here_long : length here ≡ j
    here_long = length_backward j at

    pub inside : j < 15
    inside = omega (arith, g.inside, o.few)

    cost_at : (d : C) → get_or costs j d ≡ M.cost here
    cost_at d =
        let a : j < length costs = omega (arith, g.inside, g.wide) in
        get_or_default costs j d P.measure.start a ∙ ap (λ i. get_or costs i P.measure.start) (sym here_long) ∙ kept_top M here costs g.kept

    pub reached_here : (d : C) → Reached P.measure 14 (get_or costs j d)
    reached_here d = subst (Reached P.measure 14) (sym (cost_at d)) (reach o 14 here (omega (arith, here_long, inside)) (omega arith))

    best_short : length (backward n best) ≤ 15
    best_short = omega (arith, length_backward n best, o.few)

    pub reached_best : Reached P.measure 15 paid
    reached_best = subst (Reached P.measure 15) (sym g.cost_is) (reach o 15 (backward n best) best_short (omega arith))

    pub left_here : get_or left j (pos 0) ≡ left_over P at j j
    left_here = s.lefts j (omega arith)

    pub left_small : Small (get_or left j (pos 0))
    left_small = subst Small (sym left_here) (left_over_small (bounded o) at j j (omega (arith, inside)))

    -- the difference that the code makes is that of the row
    pub row_is : {z : ℤ} → z ≡ to_z w64 (of_z w64 (get_or left j (pos 0))) -ℤ term P j j cand → to_z w64 (of_z w64 z) ≡ difference P at j
    row_is f = row_bits (bounded o) at j inside (left_bits (bounded o) at j (omega (arith, inside)) left_here) f

    pub row_small : {z : ℤ} → z ≡ difference P at j → Small z
    row_small e = subst Small (sym e) (difference_small (bounded o) at j inside)

    -- and so is the cost
    pub priced : (d : C) {x : C} {z : ℤ} → z ≡ difference P at j → x ≡ P.measure.after (get_or costs j d) z → x ≡ M.cost (cand ∷ here)
    priced d e f = f ∙ ap₂ P.measure.after (cost_at d ∙ cost_back P j at) e ∙ sym (cost_back P (suc j) at)

    pub reached_next : {x : C} → x ≡ M.cost (cand ∷ here) → Reached P.measure 15 x
    reached_next e = subst (Reached P.measure 15) (sym e) (reach o 15 (cand ∷ here) (omega (arith, here_long, inside)) (omega arith))

    in_size : {k p : ℕ} → k ≡ (leg_of P j).count → p < k → p < M.size here
    in_size {p = p} e h = subst (λ x. p < x) (e ∙ ap (λ i. (leg_of P i).count) (sym here_long)) h

    past_size : {k p : ℕ} → k ≡ (leg_of P j).count → k ≤ p → M.size here ≤ p
    past_size {p = p} e h = subst (λ x. x ≤ p) (e ∙ ap (λ i. (leg_of P i).count) (sym here_long)) h

    allowed : {y w : Bool} {x p : ℕ} → x ≡ origin P at j → y ≡ (leg_of P j).permits x p → y ≡ w → M.permits here p ≡ w
    allowed {p = p} e f q = ap₂ (λ i u. (leg_of P i).permits u p) here_long (previous_is P j at ∙ sym e) ∙ sym f ∙ q

    -- the next candidate, the rest being as it was
    moved : {count' : ℕ} → Going M n limit (backward n start) j (set at j (cand + 1)) costs count' (backward n best) paid → Stands P limit start j (set at j (cand + 1)) costs left count' best paid
    moved k = record { going = k; at_long = simp length-set s.at_long; left_long = s.left_long; lefts = lefts_set P left at j j (cand + 1) (omega arith) s.lefts; at_clear = clear_set n at j (cand + 1) g.inside s.at_clear; best_clear = s.best_clear; best_long = s.best_long }

    pub do_skip : {y : Bool} {k x : ℕ} → k ≡ (leg_of P j).count → cand < k → x ≡ origin P at j → y ≡ (leg_of P j).permits x cand → y ≡ false → Stands P limit start j (set at j (cand + 1)) costs left count best paid
    do_skip ek h ex ey q = moved (go_skip M n limit (backward n start) j at costs count (backward n best) paid g (in_size ek h) (allowed ex ey q))

    pub do_back : {k : ℕ} → (j ≡ 0 → ⊥) → k ≡ (leg_of P j).count → k ≤ cand → Stands P limit start (j - 1) (set at (j - 1) (get_or at (j - 1) 0 + 1)) costs left count best paid
    do_back h ek e =
        let q : j ≡ suc (j - 1) = omega arith in
        record {
          going = go_back M n limit (backward n start) (j - 1) at costs count (backward n best) paid (subst (λ i. Going M n limit (backward n start) i at costs count (backward n best) paid) q g) (subst (λ i. M.size (backward i at) ≤ get_or at i 0) q (past_size ek e));
          at_long = simp length-set s.at_long;
          left_long = s.left_long;
          lefts = lefts_set P left at (j - 1) (j - 1) (get_or at (j - 1) 0 + 1) (omega arith) (λ i l. s.lefts i (omega arith));
          at_clear = clear_set n at (j - 1) (get_or at (j - 1) 0 + 1) (omega (arith, g.inside)) s.at_clear;
          best_clear = s.best_clear;
          best_long = s.best_long;
        }

    -- the candidate is permitted
    pub record Open : Type 0 where
      pub there : cand < M.size here
      pub permitted : M.permits here cand ≡ true

    pub open_by : {y : Bool} {k x : ℕ} → k ≡ (leg_of P j).count → cand < k → x ≡ origin P at j → y ≡ (leg_of P j).permits x cand → y ≡ true → Open
    open_by ek h ex ey q = record { there = in_size ek h; permitted = allowed ex ey q }

    module _ (w : Open) where
      tested : {x : C} {r : Ordering} {y v : Bool} → x ≡ M.cost (cand ∷ here) → r ≡ P.measure.compare x paid → y ≡ is_gt r → y ≡ v → at_most P.measure (M.cost (cand ∷ here)) (M.cost (backward n best)) ≡ not v
      tested e a b q = ap₂ (at_most P.measure) (sym e) (sym g.cost_is) ∙ tests _ _ _ _ a b q

      pub do_over : {x : C} {r : Ordering} {y : Bool} → (count ≡ limit → ⊥) → x ≡ M.cost (cand ∷ here) → r ≡ P.measure.compare x paid → y ≡ is_gt r → y ≡ true → Stands P limit start j (set at j (cand + 1)) costs left (count + 1) best paid
      do_over f e a b q = moved (go_over M n limit (backward n start) j at costs count (backward n best) paid g w.there w.permitted (omega (arith, g.within)) (lawful o) o.few best_short (tested e a b q))

      pub do_full : {x : C} {r : Ordering} {y : Bool} → (count ≡ limit → ⊥) → x ≡ M.cost (cand ∷ here) → r ≡ P.measure.compare x paid → y ≡ is_gt r → y ≡ false → j + 1 ≡ n → Stands P limit start j (set at j (cand + 1)) costs left (count + 1) at x
      do_full {x} f e a b q h = record {
        going = go_full M n limit (backward n start) j at costs count (backward n best) paid g w.there w.permitted (omega (arith, g.within)) (omega arith) x e (tested e a b q);
        at_long = simp length-set s.at_long;
        left_long = s.left_long;
        lefts = lefts_set P left at j j (cand + 1) (omega arith) s.lefts;
        at_clear = clear_set n at j (cand + 1) g.inside s.at_clear;
        best_clear = s.at_clear;
        best_long = s.at_long;
      }

      down : {x : C} {r : Ordering} {y : Bool} {z : ℤ} → (count ≡ limit → ⊥) → x ≡ M.cost (cand ∷ here) → r ≡ P.measure.compare x paid → y ≡ is_gt r → y ≡ false → suc j < n → z ≡ left_over P (set at (suc j) 0) (suc j) (suc j) → Stands P limit start (suc j) (set at (suc j) 0) (set costs (suc j) x) (set left (suc j) z) (count + 1) best paid
      down {x} {z = z} f e a b q h ez = record {
        going = go_down M n limit (backward n start) j at costs count (backward n best) paid g w.there w.permitted (omega (arith, g.within)) h (omega (arith, w.there, (o.legs_lawful (length here % 3)).few)) x e (tested e a b q);
        at_long = simp length-set s.at_long;
        left_long = simp length-set s.left_long;
        lefts = λ i l. ⊎_elim
            (λ r. subst (λ i. get_or (set left (suc j) z) i (pos 0) ≡ left_over P (set at (suc j) 0) i i) (sym r) (get_or-set_same left (suc j) z (pos 0) (omega (arith, s.left_long, o.few)) ∙ ez))
            (λ r. get_or-set_other left (suc j) i z (pos 0) r ∙ lefts_set P left at j (suc j) 0 (omega arith) s.lefts i (omega arith))
            (cases_eq i (suc j));
        at_clear = clear_set n at (suc j) 0 h s.at_clear;
        best_clear = s.best_clear;
        best_long = s.best_long;
      }

      pub do_down : {x : C} {r : Ordering} {y : Bool} {z : ℤ} → (count ≡ limit → ⊥) → x ≡ M.cost (cand ∷ here) → r ≡ P.measure.compare x paid → y ≡ is_gt r → y ≡ false → (j + 1 ≡ n → ⊥) → z ≡ left_over P (set at (j + 1) 0) (j + 1) (j + 1) → Stands P limit start (j + 1) (set at (j + 1) 0) (set costs (j + 1) x) (set left (j + 1) (to_z w64 (of_z w64 z))) (count + 1) best paid
      do_down {x} {z = z} f e a b q h ez =
          let v : to_z w64 (of_z w64 z) ≡ left_over P (set at (j + 1) 0) (j + 1) (j + 1) = left_bits (bounded o) (set at (j + 1) 0) (j + 1) (omega (arith, inside)) ez in
          subst (λ i. Stands P limit start i (set at i 0) (set costs i x) (set left i (to_z w64 (of_z w64 z))) (count + 1) best paid) (sym (add-one j))
          (down f e a b q (omega (arith, g.inside)) (v ∙ ap (λ i. left_over P (set at i 0) i i) (add-one j)))

    -- from what the search ends with to the answer
    pub ends_with : {mark : Mark} → length start ≡ 15 → Found M n limit (backward n start) (backward n best) paid count mark → Computed P (take n start) limit (take n best) paid count mark
    ends_with {mark} ls f =
        found_computed P limit (take n start) (take n best) paid count mark
        (subst (λ q. Found M n limit (onto [] (take n start)) q paid count mark) (backward_take n best (omega (arith, s.best_long, o.few))) (subst (λ q. Found M n limit q (backward n best) paid count mark) (backward_take n start (omega (arith, o.few))) f))

    start_short : length (backward n start) ≤ 15
    start_short = omega (arith, length_backward n start, o.few)

    pub do_stop : Open → length start ≡ 15 → count ≡ limit → Computed P (take n start) limit (take n best) paid count Stopped
    do_stop w ls q = ends_with ls (go_stop M (lawful o) n limit (backward n start) o.few start_short j at costs count (backward n best) paid g w.there w.permitted q)

    pub do_end : {k : ℕ} → length start ≡ 15 → j ≡ 0 → k ≡ (leg_of P j).count → k ≤ cand → Computed P (take n start) limit (take n best) paid count Certified
    do_end ls z ek h = ends_with ls (go_end M (lawful o) n limit (backward n start) o.few start_short j at costs count (backward n best) paid g z (subst (λ i. M.size (backward i at) ≤ cand) z (past_size ek h)))
