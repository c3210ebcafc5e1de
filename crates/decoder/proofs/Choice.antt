-- What is chosen among the nodes visited.
use Rattle.std.proofs.Common.{◌≡◌, ℕ, ◌≤◌, Bool, true, false, cond, eqb, ◌⊎◌, List, [], ◌∷◌, length, fold, filter, sym, refl, ap, ◌∙◌, subst, inl, inr, ⊎_elim, arith}
use Rattle.std.specs.List.{AllByRecursion}
use Rattle.std.proofs.ByRecursion.{All-weaker, kept_by_passes}
use Rattle.std.proofs.lemmas.Bool.{eqb-true, eq-eqb, both_ways}
use Rattle.legs.specs.Measure.{at_most}
use Rattle.decoder.specs.Sequences.{Problem, Sound, precedes, Ascending, In, cost, NoDearer}
use Rattle.decoder.specs.Answers.{FullIn, Chosen}
use Rattle.decoder.specs.Computed.{better, cheapest}
use Rattle.decoder.specs.Theorems.{ChoiceStands}
use Rattle.decoder.proofs.Best.{all_both}
use Rattle.decoder.proofs.Order.{in_all, in_kept, asc_kept, precedes_asym}
use Rattle.decoder.proofs.Reach.{no_dearer_self, no_dearer_else, no_dearer_trans, no_dearer_both}

kept_in : (t : List ℕ → Bool) (xs : List (List ℕ)) (q : List ℕ) → In q (filter t xs) → In q xs × (t q ≡ true)
kept_in t [] q m = absurd m
kept_in t (x ∷ xs) q m = go (λ k. kept_in t xs q k) (t x) refl m
  where
    go : (In q (filter t xs) → In q xs × (t q ≡ true)) → (v : Bool) → t x ≡ v → In q (cond v (x ∷ filter t xs) (filter t xs)) → In q (x ∷ xs) × (t q ≡ true)
    go ih true e m = ⊎_elim (λ s. (inl s, ap t s ∙ e)) (λ k. let r = ih k in (inr r.0, r.1)) m
    go ih false e m = let r = ih m in (inr r.0, r.1)

abbrev Short : List ℕ → Type 0
Short x = length x ≤ 15

module _ {C : Type 0} {P : Problem C} (o : Sound P) where
  abbrev Dearer : List ℕ → List ℕ → Type 0
  Dearer x y = at_most P.measure (cost P x) (cost P y) ≡ false

  -- where f stands to the one chosen
  abbrev Behind : List ℕ → List ℕ → Type 0
  Behind a f = NoDearer P a f × ((f ≡ a) ⊎ ((precedes f a ≡ true) ⊎ Dearer f a))

  abbrev Lost : List ℕ → List (List ℕ) → Type 0
  Lost b fs = (fold (better P) b fs ≡ b) × AllByRecursion (λ f. Dearer f b) fs

  abbrev Won : List ℕ → List (List ℕ) → Type 0
  Won b fs = (a : List ℕ) × (fold (better P) b fs ≡ a) × In a fs × NoDearer P a b × AllByRecursion (Behind a) fs

  win_step : (b f : List ℕ) (fs : List (List ℕ)) → Short b → Short f → AllByRecursion Short fs → AllByRecursion (λ g. precedes f g ≡ true) fs → ((c : List ℕ) → Short c → Lost c fs ⊎ Won c fs) → (v : Bool) → at_most P.measure (cost P f) (cost P b) ≡ v → Lost b (f ∷ fs) ⊎ Won b (f ∷ fs)
  win_step b f fs hb hf hs s ih true e =
      let q = ap (λ w. fold (better P) (cond w f b) fs) e in
      ⊎_elim
      (λ t. inr (f, q ∙ t.0, inl refl, e, ((no_dearer_self o f hf, inl refl), all_both Short (λ g. Dearer g f) (Behind f) (λ g k h. (no_dearer_else o g f k hf h, inr (inr h))) fs hs t.1)))
      (λ t. inr (t.0, q ∙ t.1, inr t.2, no_dearer_trans o t.0 f b (in_all Short fs t.0 hs t.2) hf hb t.3 e, ((t.3, inr (inl (in_all (λ g. precedes f g ≡ true) fs t.0 s t.2))), t.4)))
      (ih f hf)
  win_step b f fs hb hf hs s ih false e =
      let q = ap (λ w. fold (better P) (cond w f b) fs) e in
      ⊎_elim
      (λ t. inl (q ∙ t.0, (e, t.1)))
      (λ t. inr (t.0, q ∙ t.1, inr t.2, t.3, ((no_dearer_trans o t.0 b f (in_all Short fs t.0 hs t.2) hb hf t.3 (no_dearer_else o f b hf hb e), inr (inl (in_all (λ g. precedes f g ≡ true) fs t.0 s t.2))), t.4)))
      (ih b hb)

  win : (b : List ℕ) (fs : List (List ℕ)) → Short b → AllByRecursion Short fs → Ascending fs → Lost b fs ⊎ Won b fs
  win b [] hb hs s = inl (refl, tt)
  win b (f ∷ fs) hb hs s = win_step b f fs hb hs.0 hs.1 s.0 (λ c hc. win c fs hc hs.1 s.1) _ refl

  module _ (start : List ℕ) (visited : List (List ℕ)) (long : length start ≡ P.entries) where
    abbrev is_full : List ℕ → Bool
    is_full q = eqb (length q) P.entries

    abbrev Full : List (List ℕ)
    Full = filter is_full visited

    short_full : (f : List ℕ) → length f ≡ P.entries → Short f
    short_full f e = omega (arith, o.few)

    all_short : AllByRecursion Short Full
    all_short = All-weaker (λ q. is_full q ≡ true) Short (λ f e. short_full f (eqb-true (length f) P.entries e)) Full (kept_by_passes is_full visited)

    full : (f : List ℕ) → FullIn P visited f → In f Full
    full f m = in_kept is_full visited f m.0 (eq-eqb (length f) P.entries m.1)

    lost : Lost start Full → Chosen P start visited start
    lost t = record {
      among = inl refl;
      against_start = no_dearer_self o start (short_full start long);
      against_visited = λ f m. no_dearer_else o f start (short_full f m.1) (short_full start long) (in_all (λ f. Dearer f start) Full f t.1 (full f m));
      ties = λ f m c. absurd (both_ways _ (in_all (λ f. Dearer f start) Full f t.1 (full f m)) (ap (λ x. at_most P.measure x (cost P start)) c ∙ no_dearer_self o start (short_full start long)));
    }

    won : (a : List ℕ) → In a Full → NoDearer P a start → AllByRecursion (Behind a) Full → Chosen P start visited a
    won a m l h =
        let r = kept_in is_full visited a m in
        let e : length a ≡ P.entries = eqb-true (length a) P.entries r.1 in
        record {
          among = inr (r.0, e);
          against_start = l;
          against_visited = λ f k. (in_all (Behind a) Full f h (full f k)).0;
          ties = λ f k c. ((r.0, e), ⊎_elim (λ s. inl s) (⊎_elim (λ s. inr s) (λ s. absurd (both_ways _ s (ap (λ x. at_most P.measure x (cost P a)) c ∙ no_dearer_self o a (short_full a e))))) (in_all (Behind a) Full f h (full f k)).1);
        }

    pub chosen : Ascending visited → Chosen P start visited (cheapest P start visited)
    chosen s =
        ⊎_elim
        (λ t. subst (Chosen P start visited) (sym t.0) (lost t))
        (λ t. subst (Chosen P start visited) (sym t.1) (won t.0 t.2 t.3 t.4))
        (win start Full (short_full start long) all_short (asc_kept is_full visited s))

    pub chosen_long : (a : List ℕ) → Chosen P start visited a → length a ≡ P.entries
    chosen_long a x = ⊎_elim (λ e. ap length e ∙ long) (λ m. m.1) x.among

    -- neither of two that are chosen is dearer than the other
    no_dearer : (a b : List ℕ) → Chosen P start visited a → Chosen P start visited b → NoDearer P a b
    no_dearer a b x y = ⊎_elim (λ e. subst (NoDearer P a) (sym e) x.against_start) (λ m. x.against_visited b m) y.among

    settle : (a b : List ℕ) → (a ≡ b) ⊎ (precedes a b ≡ true) → (b ≡ a) ⊎ (precedes b a ≡ true) → a ≡ b
    settle a b p q = ⊎_elim (λ e. e) (λ h. ⊎_elim (λ e. sym e) (λ k. absurd (precedes_asym a b h k)) q) p

    pub chosen_alone : (a b : List ℕ) → Chosen P start visited a → Chosen P start visited b → a ≡ b
    chosen_alone a b x y =
        let c : cost P a ≡ cost P b = no_dearer_both o a b (short_full a (chosen_long a x)) (short_full b (chosen_long b y)) (no_dearer a b x y) (no_dearer b a y x) in
        ⊎_elim
        (λ e. ⊎_elim (λ f. e ∙ sym f) (λ m. let p = x.ties b m (sym c) in settle a b (y.ties a p.0 c).1 p.1) y.among)
        (λ m. let p = y.ties a m c in settle a b p.1 (x.ties b p.0 (sym c)).1)
        x.among

pub choice_stands : (C : Type 0) → ChoiceStands C
choice_stands C = record { stands = λ P o start visited l s. chosen o start visited l s; alone = λ P o start visited a b l x y. chosen_alone o start visited l a b x y }
