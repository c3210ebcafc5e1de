-- How large differences get, and that the cost of every beginning is one that its measure can reach.
use Rattle.std.proofs.Common.{◌≡◌, ℕ, zero, suc, ◌+◌, ◌*◌, ◌%◌, ◌<◌, ◌≤◌, Bool, true, false, not, List, [], ◌∷◌, length, get_or, ℤ, pos, negsuc, ◌+ℤ◌, ◌-ℤ◌, ◌*ℤ◌, neg_ℤ, ◌≤ℤ◌, Ordering, Less, Equal, Greater, sym, refl, ap, ◌∙◌, subst, add-one, arith, w64, to_z, of_z}
use borrow.Author.Differences.{ints}
use Rattle.std.specs.Ordering.{is_le, is_lt, is_gt, ordering_reverse}
use Rattle.std.specs.List.{AllByRecursion}
use Rattle.std.proofs.lemmas.Bool.{false≢true}
use Rattle.legs.specs.Model as leg
use Rattle.legs.specs.Measure.{Small, Reached, at_most}
use Rattle.decoder.specs.Limits.{Within}
use Rattle.decoder.specs.Sequences.{Problem, Sound, leg_of, coupling, left_over, difference, cost, cost_to, NoDearer, term}
use Rattle.decoder.specs.Theorems.{DifferencesSmall}
use Rattle.decoder.proofs.Tree.{Lawful, backward}
use Rattle.decoder.proofs.Machine.{row_sum, sum_back, difference_back, differences, machine}
use Rattle.decoder.proofs.Steps.{length_backward}
use Rattle.decoder.proofs.Bridge.{cost_back}
use Rattle.decoder.proofs.Signs.{take_off, small_bits}

-- what one comparison says of the other way round
pub other_way : (o : Ordering) → is_le o ≡ false → is_le (ordering_reverse o) ≡ true
other_way Less e = absurd (false≢true (sym e))
other_way Equal e = refl
other_way Greater e = refl

pub le_not_gt : (o : Ordering) → is_le o ≡ not (is_gt o)
le_not_gt Less = refl
le_not_gt Equal = refl
le_not_gt Greater = refl

pub not_less : (o : Ordering) → is_lt o ≡ false → is_le (ordering_reverse o) ≡ true
not_less Less e = absurd (false≢true (sym e))
not_less Equal e = refl
not_less Greater e = refl

pub less_is : (o : Ordering) → is_lt o ≡ true → o ≡ Less
less_is Less e = refl
less_is Equal e = absurd (false≢true e)
less_is Greater e = absurd (false≢true e)

pub both_le : (o : Ordering) → is_le o ≡ true → is_le (ordering_reverse o) ≡ true → o ≡ Equal
both_le Less a b = absurd (false≢true b)
both_le Equal a b = refl
both_le Greater a b = absurd (false≢true a)

pub less_le : (o : Ordering) → o ≡ Less → is_le o ≡ true
less_le o e = ap is_le e

-- an entry of V times a level
pub product_within : (x l : ℤ) → Within 1048576 x → neg_ℤ (pos 2) ≤ℤ l → l ≤ℤ pos 2 → Within 2097152 (x *ℤ l)
product_within x (pos zero) h a b = omega (arith, ints)
product_within x (pos (suc zero)) h a b = omega (arith, ints)
product_within x (pos (suc (suc zero))) h a b = omega (arith, ints)
product_within x (pos (suc (suc (suc n)))) h a b = absurd (omega (arith, ints))
product_within x (negsuc zero) h a b = omega (arith, ints)
product_within x (negsuc (suc zero)) h a b = omega (arith, ints)
product_within x (negsuc (suc (suc n))) h a b = absurd (omega (arith, ints))

pub sum_within : (n : ℕ) (x y : ℤ) → Within (n * 2097152) x → Within 2097152 y → Within (suc n * 2097152) (x +ℤ y)
sum_within n x y h k = omega (arith, ints)

pub left_within : (n : ℕ) (x y : ℤ) → n ≤ 15 → Within 129761280 x → Within (n * 2097152) y → Within 161218560 (x -ℤ y)
left_within n x y f h k = omega (arith, ints)

-- what of a problem bounds its differences
pub record Bounded {C : Type 0} (P : Problem C) : Type 0 where
  pub legs_lawful : (phase : ℕ) → leg.Lawful (P.legs phase)
  pub coupled : (i : ℕ) → Within 1048576 (get_or P.triangle i (pos 0))
  pub aimed : (i : ℕ) → Within 129761280 (get_or P.target i (pos 0))

pub bounded : {C : Type 0} {P : Problem C} → Sound P → Bounded P
bounded o = record { legs_lawful = o.legs_lawful; coupled = o.coupled; aimed = o.aimed }

module _ {C : Type 0} {P : Problem C} (o : Bounded P) where
  pub term_within : (j i p : ℕ) → Within 2097152 (term P j i p)
  term_within j i p = product_within (coupling P.triangle j i) ((leg_of P i).level p) (o.coupled _) ((o.legs_lawful (i % 3)).low p) ((o.legs_lawful (i % 3)).high p)

  pub row_within : (q : List ℕ) (j k : ℕ) → Within (k * 2097152) (row_sum P q j k)
  row_within q j zero = omega (arith, ints)
  row_within q j (suc k) = sum_within k (row_sum P q j k) (term P j k (get_or q k 0)) (row_within q j k) (term_within j k (get_or q k 0))

  pub left_over_small : (q : List ℕ) (j k : ℕ) → k ≤ 15 → Small (left_over P q j k)
  left_over_small q j k h = left_within k (get_or P.target j (pos 0)) (row_sum P q j k) h (o.aimed j) (row_within q j k)

  pub difference_small : (q : List ℕ) (j : ℕ) → j < 15 → Small (difference P q j)
  difference_small q j h = left_over_small q j (j + 1) (omega arith)

  -- what is left once one entry more is taken off
  pub left_over_more : (q : List ℕ) (j k : ℕ) (x : ℤ) → x ≡ left_over P q j k -ℤ term P j k (get_or q k 0) → x ≡ left_over P q j (k + 1)
  left_over_more q j k x e = e ∙ take_off (get_or P.target j (pos 0)) (row_sum P q j k) (term P j k (get_or q k 0)) ∙ ap (left_over P q j) (sym (add-one k))

  -- what row j leaves, as the code hands it on
  pub left_bits : (q : List ℕ) (j : ℕ) {z : ℤ} → j ≤ 15 → z ≡ left_over P q j j → to_z w64 (of_z w64 z) ≡ left_over P q j j
  left_bits q j {z} h e = small_bits z (subst Small (sym e) (left_over_small q j j h)) ∙ e

  pub left_bits_small : (q : List ℕ) (j : ℕ) {z : ℤ} → j ≤ 15 → z ≡ left_over P q j j → Small (to_z w64 (of_z w64 z))
  left_bits_small q j h e = subst Small (sym (left_bits q j h e)) (left_over_small q j j h)

  -- and the row's difference made of it
  pub row_bits : (q : List ℕ) (j : ℕ) {x z : ℤ} → j < 15 → x ≡ left_over P q j j → z ≡ x -ℤ term P j j (get_or q j 0) → to_z w64 (of_z w64 z) ≡ difference P q j
  row_bits q j {x} {z} h e f =
      let d : z ≡ difference P q j = left_over_more q j j z (f ∙ ap (λ y. y -ℤ term P j j (get_or q j 0)) e) in
      small_bits z (subst Small (sym d) (difference_small q j h)) ∙ d

  pub row_bits_small : (q : List ℕ) (j : ℕ) {x z : ℤ} → j < 15 → x ≡ left_over P q j j → z ≡ x -ℤ term P j j (get_or q j 0) → Small (to_z w64 (of_z w64 z))
  row_bits_small q j h e f = subst Small (sym (row_bits q j h e f)) (difference_small q j h)

module _ {C : Type 0} {P : Problem C} (o : Sound P) where
  back_within : (j : ℕ) (s : List ℕ) → Within (length s * 2097152) (sum_back P j s)
  back_within j [] = omega (arith, ints)
  back_within j (p ∷ s) = sum_within (length s) (sum_back P j s) (term P j (length s) p) (back_within j s) (term_within (bounded o) j (length s) p)

  back_small : (j : ℕ) (s : List ℕ) → length s ≤ 15 → Small (difference_back P j s)
  back_small j s h = left_within (length s) (get_or P.target j (pos 0)) (sum_back P j s) h (o.aimed j) (back_within j s)

  rows : (s : List ℕ) → length s ≤ 15 → (length (differences P s) ≡ length s) × AllByRecursion Small (differences P s)
  rows [] h = (refl, tt)
  rows (p ∷ s) h = let r = rows s (omega arith) in (ap suc r.0, (back_small (length s) (p ∷ s) h, r.1))

  pub reach : (k : ℕ) (s : List ℕ) → length s ≤ k → k ≤ 15 → Reached P.measure k ((machine P).cost s)
  reach k s h f = let r = rows s (omega arith) in record { differences = differences P s; few = omega (arith, r.0); small = r.1; is = refl }

  -- the cost of the first j rows
  pub reached_to : (k : ℕ) (q : List ℕ) (j : ℕ) → j ≤ k → k ≤ 15 → (c : C) → c ≡ cost_to P q j → Reached P.measure k c
  reached_to k q j h f c e = subst (Reached P.measure k) (cost_back P j q ∙ sym e) (reach k (backward j q) (omega (arith, length_backward j q)) f)

  pub reached : (q : List ℕ) → length q ≤ 15 → Reached P.measure 15 (cost P q)
  reached q h = reached_to 15 q (length q) h (omega arith) (cost P q) refl

  -- the laws of its measure are laws of the search
  pub lawful : Lawful (machine P) 15
  lawful = record {
    total = λ s u hs hu e. ap is_le (o.measure_lawful.flips _ _ (reach 15 s hs (omega arith)) (reach 15 u hu (omega arith))) ∙ other_way _ e;
    trans = λ s u w hs hu hw. o.measure_lawful.trans _ _ _ (reach 15 s hs (omega arith)) (reach 15 u hu (omega arith)) (reach 15 w hw (omega arith));
    grows = λ s p h. o.measure_lawful.grows _ _ (reach 14 s (omega arith) (omega arith)) (back_small (length s) (p ∷ s) h);
  }

  -- how the costs of sequences compare
  pub no_dearer_self : (x : List ℕ) → length x ≤ 15 → NoDearer P x x
  no_dearer_self x h = go (at_most P.measure (cost P x) (cost P x)) refl
    where
      go : (v : Bool) → at_most P.measure (cost P x) (cost P x) ≡ v → NoDearer P x x
      go true e = e
      go false e = ap is_le (o.measure_lawful.flips _ _ (reached x h) (reached x h)) ∙ other_way _ e

  pub no_dearer_else : (x y : List ℕ) → length x ≤ 15 → length y ≤ 15 → at_most P.measure (cost P x) (cost P y) ≡ false → NoDearer P y x
  no_dearer_else x y h k e = ap is_le (o.measure_lawful.flips _ _ (reached x h) (reached y k)) ∙ other_way _ e

  pub no_dearer_trans : (x y z : List ℕ) → length x ≤ 15 → length y ≤ 15 → length z ≤ 15 → NoDearer P x y → NoDearer P y z → NoDearer P x z
  no_dearer_trans x y z h k l = o.measure_lawful.trans _ _ _ (reached x h) (reached y k) (reached z l)

  pub no_dearer_both : (x y : List ℕ) → length x ≤ 15 → length y ≤ 15 → NoDearer P x y → NoDearer P y x → cost P x ≡ cost P y
  no_dearer_both x y h k a b = o.measure_lawful.same _ _ (reached x h) (reached y k) (both_le _ a (sym (ap is_le (o.measure_lawful.flips _ _ (reached x h) (reached y k))) ∙ b))

  pub not_cheaper : (x y : List ℕ) → length x ≤ 15 → length y ≤ 15 → is_lt (P.measure.compare (cost P x) (cost P y)) ≡ false → NoDearer P y x
  not_cheaper x y h k e = ap is_le (o.measure_lawful.flips _ _ (reached x h) (reached y k)) ∙ not_less _ e

pub differences_small : (C : Type 0) → DifferencesSmall C
differences_small C P o q j h = difference_small (bounded o) q j h
