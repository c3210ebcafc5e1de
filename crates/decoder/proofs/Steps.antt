-- The state of the search, and what each step does to it.
use Rattle.std.proofs.Common.{◌≡◌, ℕ, zero, suc, ◌+◌, ◌-◌, ◌<◌, ◌≤◌, Bool, true, false, cond, eqb, ◌≢◌, List, [], ◌∷◌, ◌++◌, map, length, get_or, take, drop, set, fold, filter, sym, refl, ap, ◌∙◌, subst, ap₂, add-one, arith}
use mathlib.Core.List.{head-eq_of_cons-eq, tail-eq_of_cons-eq}
use Rattle.std.specs.List.{AllByRecursion}
use Rattle.std.proofs.lemmas.List.Elements.{filter-append}
use Rattle.std.proofs.lemmas.List.{length-map, take-map, take_all, drop_more, take_more, length-drop, get_or-set_same, get_or-set_other, length-set}
use Rattle.std.proofs.lemmas.Bool.{eq-eqb, ne_eqb, lt-leb, le-leb}
use Rattle.decoder.proofs.Tree.{Rules, Lawful, onto, pick, dues}
use Rattle.decoder.specs.Answers.{marked}
use Rattle.legs.specs.Model.{most_positions}
use Rattle.decoder.proofs.Tree.{backward, Found}
use Rattle.decoder.specs.declared.Mark.TheVariants.{Certified, Stopped}
use Rattle.decoder.proofs.Walk.{seen, seen_dues}
use Rattle.decoder.proofs.Pend.{pend, pend_take, pend_skip, pend_back, pend_end, pend_over, pend_full, pend_down, pend_start, folded_append}

-- one element more of a list
pub next : {X : Type 0} (xs : List X) (k : ℕ) (y : X) (ys : List X) → drop k xs ≡ y ∷ ys → (k < length xs) × (drop (k + 1) xs ≡ ys) × (take (k + 1) xs ≡ take k xs ++ (y ∷ []))
next xs k y ys e =
    let h : k < length xs = omega (arith, sym (length-drop k xs) ∙ ap length e) in
    let d : y ∷ ys ≡ get_or xs k y ∷ drop (k + 1) xs = sym e ∙ drop_more xs k y h in
    (h, sym (tail-eq_of_cons-eq d), take_more xs k y h ∙ ap (λ v. take k xs ++ (v ∷ [])) (sym (head-eq_of_cons-eq d)))

pub backward_set : (j : ℕ) (xs : List ℕ) (i v : ℕ) → j ≤ i → backward j (set xs i v) ≡ backward j xs
backward_set zero xs i v h = refl
backward_set (suc j) xs i v h = let ne : j ≢ i = omega arith in ap₂ ◌∷◌ (get_or-set_other xs i j v 0 ne) (backward_set j xs i v (omega arith))

pub get_or_backward : (j : ℕ) (xs : List ℕ) (i : ℕ) → i < j → get_or (backward j xs) i 0 ≡ get_or xs (j - 1 - i) 0
get_or_backward zero xs i h = absurd (omega arith)
get_or_backward (suc j) xs zero h = let e : j ≡ suc j - 1 - 0 = omega arith in ap (λ k. get_or xs k 0) e
get_or_backward (suc j) xs (suc i) h = get_or_backward j xs i (omega arith) ∙ (let e : j - 1 - i ≡ suc j - 1 - suc i = omega arith in ap (λ k. get_or xs k 0) e)

pub backward_more : (j : ℕ) (xs : List ℕ) → backward (j + 1) xs ≡ get_or xs j 0 ∷ backward j xs
backward_more j xs = ap (λ k. backward k xs) (add-one j)

pub length_backward : (j : ℕ) (xs : List ℕ) → length (backward j xs) ≡ j
length_backward zero xs = refl
length_backward (suc j) xs = ap suc (length_backward j xs)

module _ {C : Type 0} (R : Rules C) where
  -- the partial costs of a beginning and of those that it goes on from
  abbrev pub Kept : List ℕ → List C → Type 0
  Kept [] cs = get_or cs 0 (R.cost []) ≡ R.cost []
  Kept (x ∷ r) cs = (get_or cs (suc (length r)) (R.cost []) ≡ R.cost (x ∷ r)) × Kept r cs

  pub kept_top : (r : List ℕ) (cs : List C) → Kept r cs → get_or cs (length r) (R.cost []) ≡ R.cost r
  kept_top [] cs k = k
  kept_top (x ∷ r) cs k = k.0

  pub kept_set : (r : List ℕ) (cs : List C) (i : ℕ) (c : C) → length r < i → Kept r cs → Kept r (set cs i c)
  kept_set [] cs i c h k = let ne : 0 ≢ i = omega arith in get_or-set_other cs i 0 c (R.cost []) ne ∙ k
  kept_set (x ∷ r) cs i c h k = let ne : suc (length r) ≢ i = omega arith in (get_or-set_other cs i (suc (length r)) c (R.cost []) ne ∙ k.0, kept_set r cs i c (omega arith) k.1)

  abbrev pub full : ℕ → List ℕ → Bool
  full n q = eqb (length q) n

  abbrev pub reckoned : ℕ → ℕ → List ℕ → List ℕ
  reckoned n k start = fold (pick R) start (filter (full n) (take k (seen R n [] start)))

  -- j entries are chosen and the next candidate stands at j; count nodes are visited
  pub record Going (n limit : ℕ) (start : List ℕ) (j : ℕ) (pos : List ℕ) (cs : List C) (count : ℕ) (best : List ℕ) (bcost : C) : Type 0 where
    pub inside : j < n
    pub long : n ≤ length pos
    pub wide : n ≤ length cs
    pub within : count ≤ limit
    pub some : count ≤ length (seen R n [] start)
    pub left : drop count (seen R n [] start) ≡ pend R (n - 1 - j) (backward j pos) (get_or pos j 0) best
    pub best_is : best ≡ reckoned n count start
    pub cost_is : bcost ≡ R.cost best
    pub kept : Kept (backward j pos) cs
    pub low : AllByRecursion (λ x. x < most_positions) (backward j pos)

  pub go_start : (n limit : ℕ) (start pos : List ℕ) (cs : List C) (bcost : C) → 0 < n → n ≤ length pos → n ≤ length cs → get_or pos 0 0 ≡ 0 → get_or cs 0 (R.cost []) ≡ R.cost [] → bcost ≡ R.cost start → Going n limit start 0 pos cs 0 start bcost
  go_start (suc d) limit start pos cs bcost h lo wi z k e =
      record {
        inside = h;
        long = lo;
        wide = wi;
        within = omega arith;
        some = omega arith;
        left = pend_start R d start ∙ let e₂ : d ≡ suc d - 1 - 0 = omega arith in ap₂ (λ m p. pend R m [] p start) e₂ (sym z);
        best_is = refl;
        cost_is = e;
        kept = k;
        low = tt;
      }
  go_start zero limit start pos cs bcost h lo wi z k e = absurd (omega arith)

  module _ (n limit : ℕ) (start : List ℕ) (j : ℕ) (pos : List ℕ) (cs : List C) (count : ℕ) (best : List ℕ) (bcost : C) (g : Going n limit start j pos cs count best bcost) where
    longer : (i v : ℕ) → n ≤ length (set pos i v)
    longer i v = let w : n ≤ length pos = g.long in simp length-set w

    a : j < length pos
    a = omega (arith, g.inside, g.long)

    -- the candidate is not permitted
    pub go_skip : get_or pos j 0 < R.size (backward j pos) → R.permits (backward j pos) (get_or pos j 0) ≡ false → Going n limit start j (set pos j (get_or pos j 0 + 1)) cs count best bcost
    go_skip h e =
        record {
          inside = g.inside;
          long = longer j (get_or pos j 0 + 1);
          wide = g.wide;
          within = g.within;
          some = g.some;
          left = g.left ∙ pend_skip R (n - 1 - j) (backward j pos) (get_or pos j 0) best h e ∙ ap₂ (λ s p. pend R (n - 1 - j) s p best) (sym same) (sym (get_or-set_same pos j (get_or pos j 0 + 1) 0 a));
          best_is = g.best_is;
          cost_is = g.cost_is;
          kept = subst (λ s. Kept s cs) (sym same) g.kept;
          low = subst (λ s. AllByRecursion (λ x. x < most_positions) s) (sym same) g.low;
        }
      where
        same : backward j (set pos j (get_or pos j 0 + 1)) ≡ backward j pos
        same = backward_set j pos j (get_or pos j 0 + 1) (omega arith)

    -- what a visit of y does to the list
    visit : (y : List ℕ) (ys : List (List ℕ)) → pend R (n - 1 - j) (backward j pos) (get_or pos j 0) best ≡ y ∷ ys → (count < length (seen R n [] start)) × (drop (count + 1) (seen R n [] start) ≡ ys) × (fold (pick R) best (filter (full n) (y ∷ [])) ≡ reckoned n (count + 1) start)
    visit y ys e =
        let t = next (seen R n [] start) count y ys (g.left ∙ e) in
        let K : List (List ℕ) = filter (full n) (take count (seen R n [] start)) in (
          t.0,
          t.1,
          ap (λ b. fold (pick R) b (filter (full n) (y ∷ []))) g.best_is
              ∙ sym (folded_append (pick R) start K (filter (full n) (y ∷ [])))
              ∙ ap (fold (pick R) start) (sym (filter-append (full n) (take count (seen R n [] start)) (y ∷ [])))
              ∙ ap (λ l. fold (pick R) start (filter (full n) l)) (sym t.2),
        )

    abbrev here : List ℕ
    here = backward j pos

    abbrev cand : ℕ
    cand = get_or pos j 0

    full_here : (v : Bool) → eqb (suc j) n ≡ v → filter (full n) ((cand ∷ here) ∷ []) ≡ cond v ((cand ∷ here) ∷ []) []
    full_here v e = ap (λ w. cond w ((cand ∷ here) ∷ []) []) (ap (λ k. eqb (suc k) n) (length_backward j pos) ∙ e)

    same : (v : ℕ) → backward j (set pos j v) ≡ backward j pos
    same v = backward_set j pos j v (omega arith)

    module _ (h : cand < R.size here) (e : R.permits here cand ≡ true) (m : count < limit) where
      -- the candidate costs more than the best
      pub go_over : {N : ℕ} → Lawful R N → n ≤ N → length best ≤ N → R.leq (R.cost (cand ∷ here)) (R.cost best) ≡ false → Going n limit start j (set pos j (cand + 1)) cs (count + 1) best bcost
      go_over L nb bb l =
          let t = visit (cand ∷ here) _ (pend_over R L (n - 1 - j) here cand best (omega (arith, g.inside, length_backward j pos)) bb h e l) in
          record {
            inside = g.inside;
            long = longer j (cand + 1);
            wide = g.wide;
            within = omega arith;
            some = omega (arith, t.0);
            left = t.1 ∙ ap₂ (λ s p. pend R (n - 1 - j) s p best) (sym (same (cand + 1))) (sym (get_or-set_same pos j (cand + 1) 0 a));
            best_is = sym (out (eqb (suc j) n) refl) ∙ t.2;
            cost_is = g.cost_is;
            kept = subst (λ s. Kept s cs) (sym (same (cand + 1))) g.kept;
            low = subst (λ s. AllByRecursion (λ x. x < most_positions) s) (sym (same (cand + 1))) g.low;
          }
        where
          out : (v : Bool) → eqb (suc j) n ≡ v → fold (pick R) best (filter (full n) ((cand ∷ here) ∷ [])) ≡ best
          out true f = ap (fold (pick R) best) (full_here true f) ∙ ap (λ v. cond v (cand ∷ here) best) l
          out false f = ap (fold (pick R) best) (full_here false f)

      -- the candidate makes a whole sequence, at least as good
      pub go_full : suc j ≡ n → (c : C) → c ≡ R.cost (cand ∷ here) → R.leq (R.cost (cand ∷ here)) (R.cost best) ≡ true → Going n limit start j (set pos j (cand + 1)) cs (count + 1) (backward n pos) c
      go_full f c k l =
          let z : n - 1 - j ≡ 0 = omega arith in
          let t = visit (cand ∷ here) _ (ap (λ d. pend R d here cand best) z ∙ pend_full R here cand best h e l) in
          let b : cand ∷ here ≡ backward n pos = ap (λ i. backward i pos) f in
          record {
            inside = g.inside;
            long = longer j (cand + 1);
            wide = g.wide;
            within = omega arith;
            some = omega (arith, t.0);
            left = t.1 ∙ ap (λ d. pend R d here (cand + 1) (cand ∷ here)) (sym z) ∙ ap₂ (λ s p. pend R (n - 1 - j) s p (cand ∷ here)) (sym (same (cand + 1))) (sym (get_or-set_same pos j (cand + 1) 0 a)) ∙ ap (pend R (n - 1 - j) (backward j (set pos j (cand + 1))) (get_or (set pos j (cand + 1)) j 0)) b;
            best_is = sym b ∙ sym (ap (fold (pick R) best) (full_here true (eq-eqb (suc j) n f)) ∙ ap (λ v. cond v (cand ∷ here) best) l) ∙ t.2;
            cost_is = k ∙ ap R.cost b;
            kept = subst (λ s. Kept s cs) (sym (same (cand + 1))) g.kept;
            low = subst (λ s. AllByRecursion (λ x. x < most_positions) s) (sym (same (cand + 1))) g.low;
          }

      -- the candidate is entered
      pub go_down : suc j < n → cand < most_positions → (c : C) → c ≡ R.cost (cand ∷ here) → R.leq (R.cost (cand ∷ here)) (R.cost best) ≡ true → Going n limit start (suc j) (set pos (suc j) 0) (set cs (suc j) c) (count + 1) best bcost
      go_down f five c k l =
          let z : n - 1 - j ≡ suc (n - 1 - suc j) = omega arith in
          let t = visit (cand ∷ here) _ (ap (λ d. pend R d here cand best) z ∙ pend_down R (n - 1 - suc j) here cand best h e l) in
          record {
            inside = f;
            long = longer (suc j) 0;
            wide = let w : n ≤ length cs = g.wide in simp length-set w;
            within = omega arith;
            some = omega (arith, t.0);
            left = t.1 ∙ ap₂ (λ s p. pend R (n - 1 - suc j) s p best) (sym deeper) (sym (get_or-set_same pos (suc j) 0 0 a₂));
            best_is = sym (ap (fold (pick R) best) (full_here false (ne_eqb (suc j) n (λ q. omega arith)))) ∙ t.2;
            cost_is = g.cost_is;
            kept = subst (λ s. Kept s (set cs (suc j) c)) (sym deeper) (ap (λ i. get_or (set cs (suc j) c) (suc i) (R.cost [])) (length_backward j pos) ∙ get_or-set_same cs (suc j) c (R.cost []) a₃ ∙ k, kept_set here cs (suc j) c (omega (arith, length_backward j pos)) g.kept);
            low = subst (λ s. AllByRecursion (λ x. x < most_positions) s) (sym deeper) (five, g.low);
          }
        where
          a₂ : suc j < length pos
          a₂ = omega (arith, g.long)

          a₃ : suc j < length cs
          a₃ = omega (arith, g.wide)

          deeper : backward (suc j) (set pos (suc j) 0) ≡ cand ∷ here
          deeper = backward_set (suc j) pos (suc j) 0 (omega arith)

  -- no candidate is left at i + 1
  pub go_back : (n limit : ℕ) (start : List ℕ) (i : ℕ) (pos : List ℕ) (cs : List C) (count : ℕ) (best : List ℕ) (bcost : C) → Going n limit start (suc i) pos cs count best bcost → R.size (backward (suc i) pos) ≤ get_or pos (suc i) 0 → Going n limit start i (set pos i (get_or pos i 0 + 1)) cs count best bcost
  go_back n limit start i pos cs count best bcost g h =
      record {
        inside = omega (arith, g.inside);
        long = let w : n ≤ length pos = g.long in simp length-set w;
        wide = g.wide;
        within = g.within;
        some = g.some;
        left = g.left ∙ pend_back R (n - 1 - suc i) (get_or pos i 0) (backward i pos) (get_or pos (suc i) 0) best h ∙ ap (λ d. pend R d (backward i pos) (get_or pos i 0 + 1) best) z ∙ ap₂ (λ s p. pend R (n - 1 - i) s p best) (sym kin) (sym (get_or-set_same pos i (get_or pos i 0 + 1) 0 a));
        best_is = g.best_is;
        cost_is = g.cost_is;
        kept = subst (λ s. Kept s cs) (sym kin) g.kept.1;
        low = subst (λ s. AllByRecursion (λ x. x < most_positions) s) (sym kin) g.low.1;
      }
    where
      a : i < length pos
      a = omega (arith, g.inside, g.long)

      z : suc (n - 1 - suc i) ≡ n - 1 - i
      z = omega (arith, g.inside)

      kin : backward i (set pos i (get_or pos i 0 + 1)) ≡ backward i pos
      kin = backward_set i pos i (get_or pos i 0 + 1) (omega arith)

module _ {C : Type 0} (R : Rules C) {N : ℕ} (L : Lawful R N) (n limit : ℕ) (start : List ℕ) (nb : n ≤ N) (sb : length start ≤ N) where
  same_list : seen R n [] start ≡ map (onto []) (dues R n (R.cost start))
  same_list = seen_dues R L n [] start (omega arith) sb

  same_length : length (seen R n [] start) ≡ length (dues R n (R.cost start))
  same_length = ap length same_list ∙ length-map (dues R n (R.cost start)) (onto [])

  taken : (k : ℕ) → take k (seen R n [] start) ≡ map (onto []) (take k (dues R n (R.cost start)))
  taken k = ap (take k) same_list ∙ take-map (onto []) k (dues R n (R.cost start))

  module _ (j : ℕ) (pos : List ℕ) (cs : List C) (count : ℕ) (best : List ℕ) (bcost : C) (g : Going R n limit start j pos cs count best bcost) where
    -- the limit is met, and another node remains
    pub go_stop : get_or pos j 0 < R.size (backward j pos) → R.permits (backward j pos) (get_or pos j 0) ≡ true → count ≡ limit → Found R n limit start best bcost count Stopped
    go_stop h e m =
        let t = next (seen R n [] start) count _ _ (g.left ∙ pend_take R (n - 1 - j) (backward j pos) (get_or pos j 0) best _ h e refl) in
        let more : limit < length (dues R n (R.cost start)) = omega (arith, t.0, same_length) in
        record {
          best_is = g.best_is ∙ ap (λ l. fold (pick R) start (filter (full R n) l)) (ap (λ k. take k (seen R n [] start)) m ∙ taken limit);
          cost_is = g.cost_is;
          count_is = omega arith;
          mark_is = sym (ap marked (lt-leb (length (dues R n (R.cost start))) limit more));
        }

    -- no node remains
    pub go_end : j ≡ 0 → R.size [] ≤ get_or pos j 0 → Found R n limit start best bcost count Certified
    go_end z h =
        let e : drop count (seen R n [] start) ≡ [] = g.left ∙ ap (λ s. pend R (n - 1 - j) s (get_or pos j 0) best) (ap (λ i. backward i pos) z) ∙ pend_end R (n - 1 - j) (get_or pos j 0) best h in
        let q : length (seen R n [] start) - count ≡ 0 = sym (length-drop count (seen R n [] start)) ∙ ap length e in
        let w : count ≤ limit = g.within in
        let v : count ≤ length (seen R n [] start) = g.some in
        let all : length (seen R n [] start) ≤ count = omega arith in
        let few : length (dues R n (R.cost start)) ≤ limit = omega (arith, same_length) in
        record {
          best_is = g.best_is ∙ ap (λ l. fold (pick R) start (filter (full R n) l)) (take_all count (seen R n [] start) all ∙ sym (take_all limit (seen R n [] start) (omega arith)) ∙ taken limit);
          cost_is = g.cost_is;
          count_is = omega (arith, same_length);
          mark_is = sym (ap marked (le-leb (length (dues R n (R.cost start))) limit few));
        }
