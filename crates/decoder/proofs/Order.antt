-- The order of beginnings; an ascending list is settled by its members.
use Rattle.std.proofs.Common.{◌≡◌, ℕ, zero, suc, ◌<◌, Bool, true, false, ◌&&◌, ◌||◌, eqb, ◌≢◌, ◌⊎◌, List, [], ◌∷◌, ◌++◌, map, take, filter, sym, refl, ap, ◌∙◌, subst, ap₂, inl, inr, ⊎_elim, arith}
use Rattle.std.specs.List.{AllByRecursion}
use Rattle.std.proofs.ByRecursion.{All-append, All-map, All-weaker, all_kept_by, All-take}
use Rattle.std.proofs.lemmas.Bool.{lt-ltb, le-ltb, eq-eqb, ne_eqb, cond_both, both_ways, cases_eq, false≢true}
use Rattle.decoder.specs.Sequences.{precedes, Ascending, In}

pub precedes_same : (p : ℕ) (f t : List ℕ) → precedes (p ∷ f) (p ∷ t) ≡ precedes f t
precedes_same p f t = ap (λ v. v || (eqb p p && precedes f t)) (le-ltb p p (omega arith)) ∙ ap (λ v. v && precedes f t) (eq-eqb p p refl)

pub precedes_less : (p x : ℕ) (f t : List ℕ) → p < x → precedes (p ∷ f) (x ∷ t) ≡ true
precedes_less p x f t h = ap (λ v. v || (eqb p x && precedes f t)) (lt-ltb p x h)

pub precedes_more : (p x : ℕ) (f t : List ℕ) → p < x → precedes (x ∷ f) (p ∷ t) ≡ false
precedes_more p x f t h = ap (λ v. v || (eqb x p && precedes f t)) (le-ltb x p (omega arith)) ∙ ap (λ v. v && precedes f t) (ne_eqb x p (λ e. omega arith))

apart : (x y : ℕ) → x ≢ y → (x < y) ⊎ (y < x)
apart x zero h = inr (omega arith)
apart zero (suc y) h = inl (omega arith)
apart (suc x) (suc y) h = ⊎_elim (λ l. inl (omega arith)) (λ l. inr (omega arith)) (apart x y (λ e. h (ap suc e)))

pub precedes_irrefl : (x : List ℕ) → precedes x x ≡ false
precedes_irrefl [] = refl
precedes_irrefl (x ∷ xs) = precedes_same x xs xs ∙ precedes_irrefl xs

pub precedes_asym : (x y : List ℕ) → precedes x y ≡ true → precedes y x ≡ true → ⊥
precedes_asym [] [] e f = false≢true e
precedes_asym [] (y ∷ q) e f = false≢true f
precedes_asym (x ∷ f) [] e g = false≢true e
precedes_asym (x ∷ f) (y ∷ q) e g =
    ⊎_elim
    (λ s. precedes_asym f q (sym (precedes_same y f q) ∙ ap (λ z. precedes (z ∷ f) (y ∷ q)) (sym s) ∙ e) (sym (precedes_same y q f) ∙ ap (λ z. precedes (y ∷ q) (z ∷ f)) (sym s) ∙ g))
    (λ ne. ⊎_elim (λ l. both_ways _ (precedes_more x y q f l) g) (λ l. both_ways _ (precedes_more y x f q l) e) (apart x y ne))
    (cases_eq x y)

pub in_all : (Q : List ℕ → Type 0) (xs : List (List ℕ)) (q : List ℕ) → AllByRecursion Q xs → In q xs → Q q
in_all Q [] q a m = absurd m
in_all Q (x ∷ xs) q a m = ⊎_elim (λ e. subst Q (sym e) a.0) (λ t. in_all Q xs q a.1 t) m

pub all_self : (xs : List (List ℕ)) → AllByRecursion (λ x. In x xs) xs
all_self [] = tt
all_self (x ∷ xs) = (inl refl, All-weaker _ _ (λ y h. inr h) xs (all_self xs))

pub in_kept : (t : List ℕ → Bool) (xs : List (List ℕ)) (q : List ℕ) → In q xs → t q ≡ true → In q (filter t xs)
in_kept t [] q m h = absurd m
in_kept t (x ∷ xs) q m h =
    ⊎_elim
    (λ e. cond_both (t x) (x ∷ filter t xs) (filter t xs) (In q) (λ _. inl e) (λ f. absurd (both_ways (t x) f (ap t (sym e) ∙ h))))
    (λ k. let r : In q (filter t xs) = in_kept t xs q k h in cond_both (t x) (x ∷ filter t xs) (filter t xs) (In q) (λ _. inr r) (λ _. r))
    m

pub asc_kept : (t : List ℕ → Bool) (xs : List (List ℕ)) → Ascending xs → Ascending (filter t xs)
asc_kept t [] a = tt
asc_kept t (x ∷ xs) a = cond_both (t x) (x ∷ filter t xs) (filter t xs) Ascending (λ _. (all_kept_by t _ xs a.0, asc_kept t xs a.1)) (λ _. asc_kept t xs a.1)

pub asc_take : (n : ℕ) (xs : List (List ℕ)) → Ascending xs → Ascending (take n xs)
asc_take zero xs a = tt
asc_take (suc n) [] a = tt
asc_take (suc n) (x ∷ xs) a = (All-take _ n xs a.0, asc_take n xs a.1)

pub asc_append : (xs ys : List (List ℕ)) → Ascending xs → Ascending ys → AllByRecursion (λ x. AllByRecursion (λ y. precedes x y ≡ true) ys) xs → Ascending (xs ++ ys)
asc_append [] ys a b c = b
asc_append (x ∷ xs) ys a b c = (All-append _ xs ys a.0 c.0, asc_append xs ys a.1 b c.1)

pub asc_map : (p : ℕ) (xs : List (List ℕ)) → Ascending xs → Ascending (map (λ f. p ∷ f) xs)
asc_map p [] a = tt
asc_map p (x ∷ xs) a = (All-map _ (λ f. p ∷ f) xs (All-weaker _ _ (λ y h. precedes_same p x y ∙ h) xs a.0), asc_map p xs a.1)

-- two ascending lists with the same members are the same list
pub settled : (xs ys : List (List ℕ)) → Ascending xs → Ascending ys → ((q : List ℕ) → In q xs → In q ys) → ((q : List ℕ) → In q ys → In q xs) → xs ≡ ys
settled [] [] a b f g = refl
settled [] (y ∷ ys) a b f g = absurd (g y (inl refl))
settled (x ∷ xs) [] a b f g = absurd (f x (inl refl))
settled (x ∷ xs) (y ∷ ys) a b f g = ap₂ ◌∷◌ same (settled xs ys a.1 b.1 to back)
  where
    same : x ≡ y
    same = ⊎_elim (λ e. e) (λ m. ⊎_elim (λ e. sym e) (λ k. absurd (precedes_asym x y (in_all _ xs y a.0 k) (in_all _ ys x b.0 m))) (g y (inl refl))) (f x (inl refl))

    to : (q : List ℕ) → In q xs → In q ys
    to q m = ⊎_elim (λ e. absurd (both_ways _ (precedes_irrefl x) (ap (precedes x) (same ∙ sym e) ∙ in_all _ xs q a.0 m))) (λ k. k) (f q (inr m))

    back : (q : List ℕ) → In q ys → In q xs
    back q m = ⊎_elim (λ e. absurd (both_ways _ (precedes_irrefl y) (ap (precedes y) (sym same ∙ sym e) ∙ in_all _ ys q b.0 m))) (λ k. k) (g q (inr m))
