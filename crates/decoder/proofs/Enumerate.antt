-- The enumeration of the due nodes gives the nodes that the search visits.
use Rattle.std.proofs.Common.{◌≡◌, ℕ, zero, suc, ◌-◌, ◌<◌, ◌≤◌, not, ◌&&◌, ◌||◌, List, [], ◌∷◌, ◌++◌, map, length, take, filter, sym, refl, ap, ◌∙◌, subst, ap₂, append_assoc, arith}
use mathlib.Core.List.{drop_last}
use Rattle.std.specs.List.{range_with_len, flat_map, list_all}
use Rattle.std.proofs.ByRecursion.{All-weaker}
use Rattle.std.proofs.lemmas.List.{append-nil, map-append, length-reverse, reverse-reverse}
use Rattle.std.proofs.lemmas.Bool.{lt-leb}
use Rattle.std.proofs.lemmas.Simd.{map-map}
use Rattle.decoder.specs.Sequences as nat
use Rattle.decoder.specs.Sequences.{Problem, leg_of, precedes}
use Rattle.decoder.specs.Computed as lst
use Rattle.decoder.specs.Theorems.{ListingStands}
use Rattle.legs.specs.Measure.{at_most}
use Rattle.decoder.proofs.Tree.{Rules, moves, onto, fulls, nodes, opens}
use Rattle.decoder.proofs.Machine.{previous, machine}
use Rattle.decoder.proofs.Bools.{kept_ext, all_ext}
use Rattle.decoder.proofs.Best.{fulls_in}
use Rattle.decoder.proofs.Bridge.{onto_back, previous_is, leq_onto, before_precedes, short, nodes_are, dues_are, one_list, due_or_not, walked}

onto_append : (s r : List ℕ) → onto r s ≡ onto [] s ++ r
onto_append [] r = refl
onto_append (x ∷ s) r = onto_append s (x ∷ r) ∙ sym (ap (λ l. l ++ r) (onto_append s (x ∷ [])) ∙ append_assoc (onto [] s) (x ∷ []) r)

onto_more : (p : ℕ) (s : List ℕ) → onto [] (p ∷ s) ≡ onto [] s ++ (p ∷ [])
onto_more p s = onto_append s (p ∷ [])

map_joined : {X Y Z : Type 0} (g : Y → Z) (f : X → List Y) (xs : List X) → map g (flat_map f xs) ≡ flat_map (λ x. map g (f x)) xs
map_joined g f [] = refl
map_joined g f (x ∷ xs) = map-append g (f x) (flat_map f xs) ∙ ap (λ l. map g (f x) ++ l) (map_joined g f xs)

joined_ext : {X Y : Type 0} (f g : X → List Y) → ((x : X) → f x ≡ g x) → (xs : List X) → flat_map f xs ≡ flat_map g xs
joined_ext f g h [] = refl
joined_ext f g h (x ∷ xs) = ap₂ ◌++◌ (h x) (joined_ext f g h xs)

map_ext : {X Y : Type 0} (f g : X → Y) → ((x : X) → f x ≡ g x) → (xs : List X) → map f xs ≡ map g xs
map_ext f g h [] = refl
map_ext f g h (x ∷ xs) = ap₂ ◌∷◌ (h x) (map_ext f g h xs)

map_same : {X : Type 0} (xs : List X) → map (λ x. x) xs ≡ xs
map_same [] = refl
map_same (x ∷ xs) = ap (λ l. x ∷ l) (map_same xs)

module _ {C : Type 0} (P : Problem C) where
  abbrev M : Rules C
  M = machine P

  from_is : (s : List ℕ) → nat.origin P (onto [] s) (length (onto [] s)) ≡ previous P s
  from_is s = sym (previous_is P (length (onto [] s)) (onto [] s)) ∙ ap (previous P) (sym (onto_back (onto [] s)) ∙ reverse-reverse s)

  moves_is : (s : List ℕ) → lst.moves P (onto [] s) ≡ moves M s
  moves_is s =
      ap₂ (λ k u. filter ((leg_of P k).permits u) (range_with_len 0 (leg_of P k).count)) (length-reverse s) (from_is s)
      ∙ (let e : (leg_of P (length s)).count ≡ (leg_of P (length s)).count - 0 = omega arith in ap (λ k. filter ((leg_of P (length s)).permits (previous P s)) (range_with_len 0 k)) e)

  -- an entry more behind the beginning, or before what follows it
  across : (p : ℕ) (s : List ℕ) (xs : List (List ℕ)) → map (λ f. onto [] (p ∷ s) ++ f) xs ≡ map (λ f. onto [] s ++ f) (map (λ f. p ∷ f) xs)
  across p s xs = map_ext _ _ (λ f. ap (λ l. l ++ f) (onto_more p s) ∙ append_assoc (onto [] s) (p ∷ []) f) xs ∙ sym (map-map (λ f. onto [] s ++ f) (λ f. p ∷ f) xs)

  begun : (d : ℕ) (s : List ℕ) → lst.beginnings P d (onto [] s) ≡ map (λ f. onto [] s ++ f) (nodes M d s)
  begun zero s = refl
  begun (suc d) s =
      ap (flat_map (λ p. (onto [] s ++ (p ∷ [])) ∷ lst.beginnings P d (onto [] s ++ (p ∷ [])))) (moves_is s)
      ∙ joined_ext _ _ (each (λ p. begun d (p ∷ s))) (moves M s)
      ∙ sym (map_joined (λ f. onto [] s ++ f) (λ p. (p ∷ []) ∷ map (λ f. p ∷ f) (nodes M d (p ∷ s))) (moves M s))
    where
      each : ((p : ℕ) → lst.beginnings P d (onto [] (p ∷ s)) ≡ map (λ f. onto [] (p ∷ s) ++ f) (nodes M d (p ∷ s))) → (p : ℕ) → (onto [] s ++ (p ∷ [])) ∷ lst.beginnings P d (onto [] s ++ (p ∷ [])) ≡ map (λ f. onto [] s ++ f) ((p ∷ []) ∷ map (λ f. p ∷ f) (nodes M d (p ∷ s)))
      each ih p = ap (λ l. (onto [] s ++ (p ∷ [])) ∷ l) (ap (lst.beginnings P d) (sym (onto_more p s)) ∙ ih p ∙ across p s (nodes M d (p ∷ s)))

  done : (d : ℕ) (s : List ℕ) → lst.sequences P d (onto [] s) ≡ map (λ f. onto [] s ++ f) (fulls M d s)
  done zero s = ap (λ l. l ∷ []) (sym (append-nil (onto [] s)))
  done (suc d) s =
      ap (flat_map (λ p. lst.sequences P d (onto [] s ++ (p ∷ [])))) (moves_is s)
      ∙ joined_ext _ _ (each (λ p. done d (p ∷ s))) (moves M s)
      ∙ sym (map_joined (λ f. onto [] s ++ f) (λ p. map (λ f. p ∷ f) (fulls M d (p ∷ s))) (moves M s))
    where
      each : ((p : ℕ) → lst.sequences P d (onto [] (p ∷ s)) ≡ map (λ f. onto [] (p ∷ s) ++ f) (fulls M d (p ∷ s))) → (p : ℕ) → lst.sequences P d (onto [] s ++ (p ∷ [])) ≡ map (λ f. onto [] s ++ f) (map (λ f. p ∷ f) (fulls M d (p ∷ s)))
      each ih p = ap (lst.sequences P d) (sym (onto_more p s)) ∙ ih p ∙ across p s (fulls M d (p ∷ s))

  opens_is : (start q : List ℕ) → length q ≤ P.entries → opens M (fulls M P.entries []) [] (M.cost (onto [] start)) q ≡ lst.is_open P start q
  opens_is start q h =
      ap₂ ◌&&◌ (leq_onto P q start)
      (all_ext _ _ (fulls M P.entries []) (All-weaker _ _ (λ f w. ap₂ (λ a b. not a || b) (before_precedes f q (omega (arith, w.0))) (leq_onto P q f)) _ (fulls_in M P.entries []))
      ∙ ap (list_all (λ f. not (precedes (take (length q) f) q) || at_most P.measure (nat.cost P q) (nat.cost P f))) (sym (done P.entries [] ∙ map_same (fulls M P.entries []))))

  due_is : (start q : List ℕ) → 0 < length q → length q ≤ P.entries → due_or_not P start q ≡ lst.is_due P start q
  due_is start [] h k = absurd (omega arith)
  due_is start (x ∷ []) h k = refl
  due_is start (x ∷ (y ∷ q)) h k =
      opens_is start (drop_last (x ∷ (y ∷ q))) (omega (arith, short (x ∷ (y ∷ q))))
      ∙ sym (ap (λ v. v || lst.is_open P start (drop_last (x ∷ (y ∷ q)))) (lt-leb (suc (suc (length q))) 1 (omega arith)))

  pub listing_is : (start : List ℕ) → walked P start ≡ lst.due_nodes P start
  listing_is start =
      kept_ext _ _ (nodes M P.entries []) (All-weaker _ _ (λ q w. due_is start q w.0 w.1) _ (nodes_are M P.entries []))
      ∙ ap (filter (lst.is_due P start)) (sym (begun P.entries [] ∙ map_same (nodes M P.entries [])))

  pub listing_due : (start : List ℕ) → nat.DueNodes P start (lst.due_nodes P start)
  listing_due start = subst (nat.DueNodes P start) (listing_is start) (dues_are P start)

pub listing_stands : (C : Type 0) → ListingStands C
listing_stands C = record { stands = λ P start. listing_due P start; alone = λ P start nodes d. one_list P start nodes (lst.due_nodes P start) d (listing_due P start) }
