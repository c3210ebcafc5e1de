-- Tests on lists.
use Rattle.std.proofs.Common.{◌≡◌, ℕ, ◌<◌, Bool, true, false, cond, ◌&&◌, ◌||◌, eqb, List, [], ◌∷◌, map, filter, sym, refl, ap, ◌∙◌, arith}
use Rattle.std.specs.List.{flat_map, AllByRecursion, list_all}
use Rattle.std.proofs.ByRecursion.{All-append}
use Rattle.std.proofs.Math.Bool.{and-true, and-false}
use Rattle.std.proofs.lemmas.Bool.{lt-ltb, le-ltb, eq-eqb, ne_eqb}
use Rattle.decoder.proofs.Tree.{before}

pub absorb_left : (p q : Bool) → (p ≡ true → q ≡ true) → p ≡ (q && p)
absorb_left true q h = sym (and-true q ∙ h refl)
absorb_left false q h = sym (and-false q)

pub absorb_right : (p q : Bool) → (p ≡ true → q ≡ true) → p ≡ (p && q)
absorb_right true q h = sym (h refl)
absorb_right false q h = refl

pub all_of : {X : Type 0} (P : X → Type 0) → ((x : X) → P x) → (xs : List X) → AllByRecursion P xs
all_of P h [] = tt
all_of P h (x ∷ xs) = (h x, all_of P h xs)

pub all_joined : {X Y : Type 0} (P : Y → Type 0) (Q : X → Type 0) (f : X → List Y) → ((x : X) → Q x → AllByRecursion P (f x)) → (xs : List X) → AllByRecursion Q xs → AllByRecursion P (flat_map f xs)
all_joined P Q f h [] a = tt
all_joined P Q f h (x ∷ xs) a = All-append P (f x) (flat_map f xs) (h x a.0) (all_joined P Q f h xs a.1)

module _ {X : Type 0} where
  pub all_ext : (t u : X → Bool) (xs : List X) → AllByRecursion (λ x. t x ≡ u x) xs → list_all t xs ≡ list_all u xs
  all_ext t u [] a = refl
  all_ext t u (x ∷ xs) a = ap (λ v. v && list_all t xs) a.0 ∙ ap (λ v. u x && v) (all_ext t u xs a.1)

  pub all_true : (t : X → Bool) (xs : List X) → AllByRecursion (λ x. t x ≡ true) xs → list_all t xs ≡ true
  all_true t [] a = refl
  all_true t (x ∷ xs) a = ap (λ v. v && list_all t xs) a.0 ∙ all_true t xs a.1

  pub kept_ext : (t u : X → Bool) (xs : List X) → AllByRecursion (λ x. t x ≡ u x) xs → filter t xs ≡ filter u xs
  kept_ext t u [] a = refl
  kept_ext t u (x ∷ xs) a = ap (λ v. cond v (x ∷ filter t xs) (filter t xs)) a.0 ∙ ap (λ v. cond (u x) (x ∷ v) v) (kept_ext t u xs a.1)

  pub kept_none : (t : X → Bool) (xs : List X) → AllByRecursion (λ x. t x ≡ false) xs → filter t xs ≡ []
  kept_none t [] a = refl
  kept_none t (x ∷ xs) a = ap (λ v. cond v (x ∷ filter t xs) (filter t xs)) a.0 ∙ kept_none t xs a.1

  pub kept_map : {Y : Type 0} (t : X → Bool) (f : Y → X) (ys : List Y) → filter t (map f ys) ≡ map f (filter (λ y. t (f y)) ys)
  kept_map t f [] = refl
  kept_map t f (y ∷ ys) = ap (λ v. cond (t (f y)) (f y ∷ v) v) (kept_map t f ys) ∙ push (t (f y))
    where
      push : (b : Bool) → cond b (f y ∷ map f (filter (λ z. t (f z)) ys)) (map f (filter (λ z. t (f z)) ys)) ≡ map f (cond b (y ∷ filter (λ z. t (f z)) ys) (filter (λ z. t (f z)) ys))
      push true = refl
      push false = refl

pub before_same : (p : ℕ) (f t : List ℕ) → before (p ∷ f) (p ∷ t) ≡ before f t
before_same p f t = ap (λ v. v || (eqb p p && before f t)) (le-ltb p p (omega arith)) ∙ ap (λ v. v && before f t) (eq-eqb p p refl)

pub before_less : (p x : ℕ) (f t : List ℕ) → p < x → before (p ∷ f) (x ∷ t) ≡ true
before_less p x f t h = ap (λ v. v || (eqb p x && before f t)) (lt-ltb p x h)

pub before_more : (p x : ℕ) (f t : List ℕ) → p < x → before (x ∷ f) (p ∷ t) ≡ false
before_more p x f t h = ap (λ v. v || (eqb x p && before f t)) (le-ltb x p (omega arith)) ∙ ap (λ v. v && before f t) (ne_eqb x p (λ e. omega arith))
