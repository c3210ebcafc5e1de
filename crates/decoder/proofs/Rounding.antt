-- The rounded guess is what its definition says, and feasible.
use Rattle.std.proofs.Common.{◌≡◌, ℕ, zero, suc, ◌-◌, ◌%◌, ◌<◌, ◌≤◌, Bool, true, false, cond, ltb, leb, ◌≢◌, List, [], ◌∷◌, length, get_or, take, Some, None, Option, sym, refl, ap, ◌∙◌, subst, ⊎_elim, add-one, arith, length-append}
use lib.Seq.{take-append-le}
use Rattle.std.proofs.lemmas.List.{take_all, get_or-take, get_or-append_right, take_more_same}
use Rattle.std.proofs.lemmas.Bool.{leb-true, leb-false, ltb-true, ltb-false, cases_eq, both_ways}
use Rattle.decoder.specs.Sequences.{Problem, Sound, leg_of, origin, MayBe, Feasible}
use Rattle.decoder.specs.Guesses.{distance_at, Placed, Rounded}
use Rattle.decoder.specs.Computed.{nearer, nearest_below, or_zero, rounded_to, rounded}
use Rattle.decoder.proofs.Guess.{origin_cut}

module _ {C : Type 0} (P : Problem C) where
  module _ (j from : ℕ) where
    abbrev ok : ℕ → Type 0
    ok p = (leg_of P j).permits from p ≡ true

    abbrev far : ℕ → ℕ
    far p = distance_at P j p

    -- what is found among the positions below k
    abbrev pub Found : ℕ → Option ℕ → Type 0
    Found k None = (p : ℕ) → p < k → ok p → ⊥
    Found k (Some b) = (b < k) × ok b × ((p : ℕ) → p < k → ok p → (far b ≤ far p) × (far p ≡ far b → b ≤ p))

    skip : (k : ℕ) (f : Option ℕ) → (leg_of P j).permits from k ≡ false → Found k f → Found (suc k) f
    skip k None e f = λ p h t. ⊎_elim (λ q. both_ways _ e (ap ((leg_of P j).permits from) (sym q) ∙ t)) (λ q. f p (omega arith) t) (cases_eq p k)
    skip k (Some b) e f = (omega (arith, f.0), f.1, λ p h t. ⊎_elim (λ q. absurd (both_ways _ e (ap ((leg_of P j).permits from) (sym q) ∙ t))) (λ q. f.2 p (omega arith) t) (cases_eq p k))

    join : (k : ℕ) (f : Option ℕ) → ok k → Found k f → Found (suc k) (nearer P j f k)
    join k None e f = (omega arith, e, λ p h t. ⊎_elim (λ q. (subst (λ i. far k ≤ far i) (sym q) (omega arith), λ _. omega arith)) (λ q. absurd (f p (omega arith) t)) (cases_eq p k))
    join k (Some b) e f = go (leb (far b) (far k)) refl
      where
        go : (v : Bool) → leb (far b) (far k) ≡ v → Found (suc k) (cond v (Some b) (Some k))
        go true l = (omega (arith, f.0), f.1, λ p h t. ⊎_elim (λ q. (subst (λ i. far b ≤ far i) (sym q) (leb-true _ _ l), λ _. omega (arith, f.0))) (λ q. f.2 p (omega arith) t) (cases_eq p k))
        go false l = (
          omega arith,
          e,
          λ p h t. ⊎_elim
              (λ q. (subst (λ i. far k ≤ far i) (sym q) (omega arith), λ _. omega arith))
              (λ q. let r = f.2 p (omega arith) t in (omega (arith, leb-false _ _ l, r.0), λ s. absurd (omega (arith, leb-false _ _ l, r.0, s))))
              (cases_eq p k),
        )

    pub near_found : (k : ℕ) → Found k (nearest_below P j from k)
    near_found zero = λ p h t. omega arith
    near_found (suc k) = go ((leg_of P j).permits from k) refl (near_found k)
      where
        go : (v : Bool) → (leg_of P j).permits from k ≡ v → Found k (nearest_below P j from k) → Found (suc k) (cond v (nearer P j (nearest_below P j from k) k) (nearest_below P j from k))
        go true e f = join k (nearest_below P j from k) e f
        go false e f = skip k (nearest_below P j from k) e f

    -- where a position is permitted, one is found
    pub near_there : (k h : ℕ) → h < k → ok h → Found k (Some (or_zero (nearest_below P j from k)))
    near_there k h l e = go (nearest_below P j from k) (near_found k)
      where
        go : (f : Option ℕ) → Found k f → Found k (Some (or_zero f))
        go None f = absurd (f h l e)
        go (Some b) f = f

  pub rounded_long : (n : ℕ) → length (rounded_to P n) ≡ n
  rounded_long zero = refl
  rounded_long (suc n) = length-append (rounded_to P n) _ ∙ omega (arith, rounded_long n)

  rounded_take : (n j : ℕ) → j ≤ n → take j (rounded_to P n) ≡ rounded_to P j
  rounded_take n j h = ⊎_elim (whole n) (λ ne. go n h ne) (cases_eq j n)
    where
      whole : (n : ℕ) → j ≡ n → take j (rounded_to P n) ≡ rounded_to P j
      whole n e = subst (λ k. take k (rounded_to P n) ≡ rounded_to P k) (sym e) (take_all n (rounded_to P n) (omega (arith, rounded_long n)))

      go : (n : ℕ) → j ≤ n → j ≢ n → take j (rounded_to P n) ≡ rounded_to P j
      go zero h ne = absurd (ne (omega arith))
      go (suc n) h ne =
          let l : j ≤ length (rounded_to P n) = omega (arith, rounded_long n) in
          take-append-le _ _ _ l ∙ ⊎_elim (whole n) (λ q. go n (omega arith) q) (cases_eq j n)

  pub rounded_entry : (n j : ℕ) → j < n → get_or (rounded_to P n) j 0 ≡ or_zero (nearest_below P j (origin P (rounded_to P n) j) (leg_of P j).count)
  rounded_entry n j h =
      sym (get_or-take (suc j) (rounded_to P n) j 0 (omega arith))
      ∙ ap (λ q. get_or q j 0) (rounded_take n (suc j) (omega arith))
      ∙ get_or-append_right (rounded_to P j) _ j j 0 (rounded_long j) (omega arith)
      ∙ (let z : j - j ≡ 0 = omega arith in ap (λ i. get_or (Y ∷ []) i 0) z)
      ∙ ap (λ u. or_zero (nearest_below P j u (leg_of P j).count)) (ap (λ q. origin P q j) (sym (rounded_take n j (omega arith))) ∙ origin_cut P (rounded_to P n) j j (omega arith))
    where
      Y : ℕ
      Y = or_zero (nearest_below P j (origin P (rounded_to P j) j) (leg_of P j).count)

  -- there is one rounded guess
  pub rounded_alone : (p q : List ℕ) → Rounded P p → Rounded P q → p ≡ q
  rounded_alone p q a b = sym (take_all P.entries p (omega (arith, a.full))) ∙ both P.entries (omega arith) ∙ take_all P.entries q (omega (arith, b.full))
    where
      entry : (j : ℕ) → j < P.entries → take j p ≡ take j q → get_or p j 0 ≡ get_or q j 0
      entry j h e =
          let u : origin P p j ≡ origin P q j = sym (origin_cut P p j j (omega arith)) ∙ ap (λ l. origin P l j) e ∙ origin_cut P q j j (omega arith) in
          let x = a.each j h in
          let y = b.each j h in
          let px : MayBe P q j (get_or p j 0) = record { exists = x.permitted.exists; permitted = ap (λ i. (leg_of P j).permits i (get_or p j 0)) (sym u) ∙ x.permitted.permitted } in
          let py : MayBe P p j (get_or q j 0) = record { exists = y.permitted.exists; permitted = ap (λ i. (leg_of P j).permits i (get_or q j 0)) u ∙ y.permitted.permitted } in
          let g : distance_at P j (get_or p j 0) ≡ distance_at P j (get_or q j 0) = omega (arith, x.nearest (get_or q j 0) py, y.nearest (get_or p j 0) px) in
          omega (arith, x.lowest (get_or q j 0) py (sym g), y.lowest (get_or p j 0) px g)

      step : (j : ℕ) → j < P.entries → take j p ≡ take j q → take (suc j) p ≡ take (suc j) q
      step j h e = ap (λ i. take i p) (sym (add-one j)) ∙ take_more_same p q j 0 (omega (arith, a.full)) (omega (arith, b.full)) e (entry j h e) ∙ ap (λ i. take i q) (add-one j)

      both : (j : ℕ) → j ≤ P.entries → take j p ≡ take j q
      both zero h = refl
      both (suc j) h = step j h (both j (omega arith))

module _ {C : Type 0} {P : Problem C} (o : Sound P) (pl : Placed P) where
  -- what an entry moves from exists, where the entries before it do
  origin_there : (q : List ℕ) (j : ℕ) → ((i : ℕ) → i < j → get_or q i 0 < (leg_of P i).count) → origin P q j < (leg_of P j).count
  origin_there q j h = go (ltb j 3) refl
    where
      go : (v : Bool) → ltb j 3 ≡ v → cond v (get_or P.applied j 0) (get_or q (j - 3) 0) < (leg_of P j).count
      go true e = let l : j < 3 = ltb-true j 3 e in let m : j ≡ j % 3 = omega arith in subst (λ i. get_or P.applied j 0 < (P.legs i).count) m (pl j l)
      go false e = let l : 3 ≤ j = ltb-false j 3 e in let m : (j - 3) % 3 ≡ j % 3 = omega arith in subst (λ i. get_or q (j - 3) 0 < (P.legs i).count) m (h (j - 3) (omega arith))

  abbrev R : List ℕ
  R = rounded P

  entry_found : (j : ℕ) → j < P.entries → ((i : ℕ) → i < j → get_or R i 0 < (leg_of P i).count) → Found P j (origin P R j) (leg_of P j).count (Some (get_or R j 0))
  entry_found j h b =
      let u = origin_there R j b in
      subst (λ y. Found P j (origin P R j) (leg_of P j).count (Some y)) (sym (rounded_entry P P.entries j h)) (near_there P j (origin P R j) (leg_of P j).count _ u ((o.legs_lawful (j % 3)).holds _ u))

  there : (j : ℕ) → j ≤ P.entries → (i : ℕ) → i < j → get_or R i 0 < (leg_of P i).count
  there zero h i l = absurd (omega arith)
  there (suc j) h i l = ⊎_elim (λ e. subst (λ k. get_or R k 0 < (leg_of P k).count) (sym e) (entry_found j h (there j (omega arith))).0) (λ ne. there j (omega arith) i (omega arith)) (cases_eq i j)

  pub rounded_is : Rounded P R
  rounded_is = record {
    full = rounded_long P P.entries;
    each = λ j h.
        let f = entry_found j h (there j (omega arith)) in
        record { permitted = record { exists = f.0; permitted = f.1 }; nearest = λ p m. (f.2 p m.exists m.permitted).0; lowest = λ p m. (f.2 p m.exists m.permitted).1 };
  }

pub rounded_feasible : {C : Type 0} (P : Problem C) (r : List ℕ) → Rounded P r → Feasible P r
rounded_feasible P r h = record { full = h.full; permitted = λ j l. (h.each j (omega (arith, h.full))).permitted }
