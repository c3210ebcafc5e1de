-- The start of a search.
use Rattle.std.proofs.Common.{◌≡◌, ℕ, zero, suc, ◌<◌, ◌≤◌, Bool, true, false, cond, ◌&&◌, ltb, List, length, get_or, take, Some, None, Option, sym, refl, ap, ◌∙◌, subst, ap₂, inl, inr, ⊎_elim, arith}
use Rattle.std.specs.Option.{option_map}
use Rattle.std.specs.Ordering.{is_lt}
use Rattle.std.proofs.lemmas.List.{get_or-take}
use Rattle.std.proofs.lemmas.Bool.{and_right, and_parts, and_from, ltb-true, lt-ltb, eqb-true, eq-eqb, cases_eq, both_ways}
use Rattle.std.proofs.lemmas.Option.{none-some}
use Rattle.decoder.specs.Sequences.{Problem, Sound, leg_of, MayBe, Feasible, NoDearer, Cheaper, cost, cost_to}
use Rattle.decoder.specs.Guesses.{moved_on, Placed, Rounded, Remembered, Start}
use Rattle.decoder.specs.Computed as computed
use Rattle.decoder.specs.Computed.{may_be, permitted_to, feasible, cheaper, rounded, start_with}
use Rattle.decoder.specs.Theorems.{StartStands}
use Rattle.decoder.proofs.Best.{backward_take}
use Rattle.decoder.proofs.Bridge.{cost_back, cost_onto}
use Rattle.decoder.proofs.Guess.{origin_cut}
use Rattle.decoder.proofs.Machine.{machine}
use Rattle.decoder.proofs.Reach.{less_is, less_le, no_dearer_self, not_cheaper}
use Rattle.decoder.proofs.Rounding.{rounded_is, rounded_alone, rounded_feasible}

pub same_some : {X : Type 0} (x y : Option X) (a b : X) → x ≡ Some a → x ≡ Some b → a ≡ b
same_some x y a b p q = cc

module _ {C : Type 0} (P : Problem C) where
  -- the tests say what they should
  pub permitted_means : (q : List ℕ) (k : ℕ) → permitted_to P q k ≡ true → (j : ℕ) → j < k → MayBe P q j (get_or q j 0)
  permitted_means q zero e j h = absurd (omega arith)
  permitted_means q (suc k) e j h =
      let a = and_parts _ _ e in
      let b = and_parts _ _ a.1 in
      ⊎_elim (λ s. subst (λ i. MayBe P q i (get_or q i 0)) (sym s) (record { exists = ltb-true _ _ b.0; permitted = b.1 })) (λ ne. permitted_means q k a.0 j (omega arith)) (cases_eq j k)

  pub means_permitted : (q : List ℕ) (k : ℕ) → ((j : ℕ) → j < k → MayBe P q j (get_or q j 0)) → permitted_to P q k ≡ true
  means_permitted q zero h = refl
  means_permitted q (suc k) h = and_from _ _ (means_permitted q k (λ j l. h j (omega arith))) (and_from _ _ (lt-ltb _ _ (h k (omega arith)).exists) (h k (omega arith)).permitted)

  -- one entry that is not permitted
  pub permitted_fails : (q : List ℕ) (j k : ℕ) → j < k → may_be P q j ≡ false → permitted_to P q k ≡ false
  permitted_fails q j zero h e = absurd (omega arith)
  permitted_fails q j (suc k) h e =
      ⊎_elim
      (λ s. and_right (permitted_to P q k) (may_be P q k) (ap (may_be P q) (sym s) ∙ e))
      (λ ne. ap (λ v. v && may_be P q k) (permitted_fails q j k (omega arith) e))
      (cases_eq j k)

  -- what is cut off has no part in it
  pub permitted_cut : (q : List ℕ) (n k : ℕ) → k ≤ n → permitted_to P (take n q) k ≡ permitted_to P q k
  permitted_cut q n zero h = refl
  permitted_cut q n (suc k) h = ap₂ ◌&&◌ (permitted_cut q n k (omega arith)) (ap₂ (λ p u. ltb p (leg_of P k).count && (leg_of P k).permits u p) (get_or-take n q k 0 (omega arith)) (origin_cut P q n k (omega arith)))

  pub cost_cut : (q : List ℕ) (n : ℕ) → n ≤ length q → cost_to P q n ≡ cost P (take n q)
  cost_cut q n h = sym (cost_back P n q) ∙ ap (machine P).cost (backward_take n q h) ∙ cost_onto P (take n q)

  -- the start, where a guess is remembered
  pub start_some : (g : List ℕ) (v : Bool) → option_map moved_on P.remembered ≡ Some g → (feasible P g && cheaper P g (rounded P)) ≡ v → cond v g (rounded P) ≡ computed.start P
  start_some g v e h = sym (ap (start_with P) e ∙ ap (λ w. cond w g (rounded P)) h)

  pub start_none : option_map moved_on P.remembered ≡ None → rounded P ≡ computed.start P
  start_none e = sym (ap (start_with P) e)

  pub feasible_means : (f : List ℕ) → feasible P f ≡ true → Feasible P f
  feasible_means f e =
      let a = and_parts _ _ e in
      let l : length f ≡ P.entries = eqb-true _ _ a.0 in
      record { full = l; permitted = λ j h. permitted_means f P.entries a.1 j (omega arith) }

  pub means_feasible : (f : List ℕ) → Feasible P f → feasible P f ≡ true
  means_feasible f h = and_from _ _ (eq-eqb _ _ h.full) (means_permitted f P.entries (λ j l. h.permitted j (omega (arith, h.full))))

  pub cheaper_means : (x y : List ℕ) → cheaper P x y ≡ true → Cheaper P x y
  cheaper_means x y e = less_is _ e

  pub means_cheaper : (x y : List ℕ) → Cheaper P x y → cheaper P x y ≡ true
  means_cheaper x y e = ap is_lt e

  -- there is one start
  pub start_alone : (s t : List ℕ) → Start P s → Start P t → s ≡ t
  start_alone s t a b =
      ⊎_elim
      (λ x. ⊎_elim (λ y. same_some _ None s t x.0 y.0) (λ y. absurd (y.1 s x.0 x.1 (subst (Cheaper P s) e x.2))) b.choice)
      (λ x. ⊎_elim (λ y. absurd (x.1 t y.0 y.1 (subst (Cheaper P t) (sym e) y.2))) (λ y. x.0 ∙ e ∙ sym y.0) b.choice)
      a.choice
    where
      e : a.guess ≡ b.guess
      e = rounded_alone P a.guess b.guess a.rounded b.rounded

  pub start_feasible : (s : List ℕ) → Start P s → Feasible P s
  start_feasible s a = ⊎_elim (λ x. x.1) (λ x. subst (Feasible P) (sym x.0) (rounded_feasible P a.guess a.rounded)) a.choice

module _ {C : Type 0} {P : Problem C} (o : Sound P) where
  short : (f : List ℕ) → Feasible P f → length f ≤ 15
  short f h = omega (arith, h.full, o.few)

  -- the start is no dearer than either guess
  pub start_rounded : (s r : List ℕ) → Start P s → Rounded P r → NoDearer P s r
  start_rounded s r a h =
      subst (NoDearer P s) (rounded_alone P a.guess r a.rounded h)
      (⊎_elim (λ x. less_le _ x.2) (λ x. subst (λ q. NoDearer P q a.guess) (sym x.0) (no_dearer_self o a.guess (short a.guess (rounded_feasible P a.guess a.rounded)))) a.choice)

  pub start_remembered : (s g : List ℕ) → Start P s → Remembered P g → Feasible P g → NoDearer P s g
  start_remembered s g a h f =
      ⊎_elim
      (λ x. subst (λ q. NoDearer P q g) (same_some _ None g s h x.0) (no_dearer_self o g (short g f)))
      (λ x. subst (λ q. NoDearer P q g) (sym x.0) (not_cheaper o g a.guess (short g f) (short a.guess (rounded_feasible P a.guess a.rounded)) (never (cheaper P g a.guess) (λ e. x.1 g h f (cheaper_means P g a.guess e)))))
      a.choice
    where
      never : (v : Bool) → (v ≡ true → ⊥) → v ≡ false
      never true n = absurd (n refl)
      never false n = refl

  -- the computed start is the start
  pub start_is : Placed P → Start P (computed.start P)
  start_is pl = go (option_map moved_on P.remembered) refl
    where
      by : (g : List ℕ) → option_map moved_on P.remembered ≡ Some g → (v : Bool) → (feasible P g && cheaper P g (rounded P)) ≡ v → Start P (cond v g (rounded P))
      by g e true h = let a = and_parts _ _ h in record { guess = rounded P; rounded = rounded_is o pl; choice = inl (e, feasible_means P g a.0, cheaper_means P g (rounded P) a.1) }
      by g e false h = record {
        guess = rounded P;
        rounded = rounded_is o pl;
        choice = inr (refl, λ q m f c. let s : q ≡ g = same_some _ None q g m e in both_ways _ h (and_from _ _ (means_feasible P g (subst (Feasible P) s f)) (means_cheaper P g (rounded P) (subst (λ q. Cheaper P q (rounded P)) s c))));
      }

      go : (m : Option (List ℕ)) → option_map moved_on P.remembered ≡ m → Start P (start_with P m)
      go None e = record { guess = rounded P; rounded = rounded_is o pl; choice = inr (refl, λ g m f c. none-some g (sym e ∙ m)) }
      go (Some g) e = by g e _ refl

pub start_stands : (C : Type 0) → StartStands C
start_stands C = record {
  rounded_stands = λ P o pl. rounded_is o pl;
  rounded_alone = λ P. rounded_alone P;
  start_stands = λ P o pl. start_is o pl;
  start_alone = λ P. start_alone P;
}
