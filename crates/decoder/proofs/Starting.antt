-- The start, as the code comes to it.
use Rattle.std.proofs.Common.{◌≡◌, ℕ, ◌+◌, ◌-◌, ◌≤◌, Bool, true, false, ◌&&◌, List, ◌++◌, length, get_or, take, drop, Some, None, Ordering, sym, ap, ◌∙◌, subst, ap₂, arith, append_assoc, zero-add}
use Rattle.std.specs.List.{copy_within}
use Rattle.std.specs.Option.{option_map}
use Rattle.std.specs.Ordering.{is_lt}
use Rattle.std.proofs.lemmas.List.{get_or-append_right, length-take-le, length-drop, take_all, take-append-le, drop-append-le}
use Rattle.std.proofs.lemmas.Bool.{eq-eqb}
use Rattle.decoder.specs.Sequences.{Problem, cost, cost_to}
use Rattle.decoder.specs.Guesses.{moved_on}
use Rattle.decoder.specs.Computed.{permitted_to, feasible, cheaper, rounded, start}
use Rattle.decoder.specs.Outcome.{Started}
use Rattle.decoder.specs.Tasks.{Holds}
use Rattle.decoder.specs.declared.guesses.Priced.{Priced}
use Rattle.decoder.proofs.Guess.{moved_long}
use Rattle.decoder.proofs.Starts.{permitted_cut, cost_cut, start_some, start_none}

-- an array whose first n entries were moved three places down, so that the last three stand twice, with zeros behind
module _ (n : ℕ) (q x z : List ℕ) (some : 3 ≤ n) (enough : n ≤ length q) (zeros : (k : ℕ) → ◌≡◌ {A = ℕ} (get_or z k 0) 0) (e : x ≡ copy_within (take n q ++ z) 3 n 0) where
  abbrev M : List ℕ
  M = take n q

  l : length M ≡ n
  l = length-take-le n q enough

  long : length (moved_on M) ≡ n
  long = moved_long M (omega (arith, l)) ∙ l

  low : take (n - 3) (drop 3 (M ++ z)) ≡ drop 3 M
  low = ap (take (n - 3)) (drop-append-le 3 M z (omega (arith, l))) ∙ take-append-le (n - 3) (drop 3 M) z (omega (arith, length-drop 3 M, l)) ∙ take_all (n - 3) (drop 3 M) (omega (arith, length-drop 3 M, l))

  high : drop (0 + (n - 3)) (M ++ z) ≡ drop (n - 3) M ++ z
  high = ap (λ i. drop i (M ++ z)) (zero-add (n - 3)) ∙ drop-append-le (n - 3) M z (omega (arith, l))

  joined : x ≡ moved_on M ++ z
  joined = e ∙ ap₂ ◌++◌ low high ∙ sym (append_assoc (drop 3 M) (drop (n - 3) M) z) ∙ ap (λ i. (drop 3 M ++ drop (i - 3) M) ++ z) (sym l)

  pub moved_holds : Holds n x (moved_on M)
  moved_holds = record {
    begins = ap (take n) joined ∙ take-append-le n (moved_on M) z (omega (arith, long)) ∙ take_all n (moved_on M) (omega (arith, long));
    rest = λ k h. ap (λ y. get_or y k 0) joined ∙ get_or-append_right (moved_on M) z n k 0 long h ∙ zeros (k - n);
  }

module _ {C : Type 0} (P : Problem C) where
  -- what an array costs, the sequence that it holds costs
  own_cost : (x : List ℕ) {t : List ℕ} {c : C} → P.entries ≤ length x → Holds P.entries x t → c ≡ cost_to P x P.entries → c ≡ cost P t
  own_cost x h k e = e ∙ cost_cut P x P.entries h ∙ ap (cost P) k.begins

  started : (s : Priced C) {x t : List ℕ} → P.entries ≤ length x → Holds P.entries x t → s.sequence ≡ x → s.cost ≡ cost_to P x P.entries → t ≡ start P → Started P s
  started s {x} {t} h k same e q = record { holds = subst (λ y. Holds P.entries y (start P)) (sym same) (subst (Holds P.entries x) q k); cost_is = own_cost x h k e ∙ ap (cost P) q }

  -- where r has the rounded guess
  module _ (r : Priced C) {w : List ℕ} (lw : P.entries ≤ length w) (hw : Holds P.entries w (rounded P)) (sw : r.sequence ≡ w) (ew : r.cost ≡ cost_to P w P.entries) where
    pub by_rounding : P.remembered ≡ None → Started P r
    by_rounding e = started r lw hw sw ew (start_none P (ap (option_map moved_on) e))

    -- and a remembered guess stands in x
    module _ {p : List ℕ} (e : P.remembered ≡ Some p) (lp : length p ≡ P.entries) (some : 3 ≤ P.entries) {x : List ℕ} (lx : P.entries ≤ length x) (hx : Holds P.entries x (moved_on p)) where
      remembered : option_map moved_on P.remembered ≡ Some (moved_on p)
      remembered = ap (option_map moved_on) e

      feasible_is : {y v : Bool} → y ≡ permitted_to P x P.entries → y ≡ v → feasible P (moved_on p) ≡ v
      feasible_is ey q = ap₂ ◌&&◌ (eq-eqb _ _ (moved_long p (omega (arith, lp, some)) ∙ lp)) (ap (λ l. permitted_to P l P.entries) (sym hx.begins) ∙ permitted_cut P x P.entries P.entries (omega arith) ∙ sym ey ∙ q)

      pub not_permitted : {y : Bool} → y ≡ permitted_to P x P.entries → y ≡ false → Started P r
      not_permitted ey q = started r lw hw sw ew (start_some P (moved_on p) false remembered (ap (λ v. v && cheaper P (moved_on p) (rounded P)) (feasible_is ey q)))

      module _ (m : Priced C) (sm : m.sequence ≡ x) (em : m.cost ≡ cost_to P x P.entries) {y z : Bool} {o : Ordering} (ey : y ≡ permitted_to P x P.entries) (yes : y ≡ true) (eo : o ≡ P.measure.compare m.cost r.cost) (ez : z ≡ is_lt o) where
        both : {v : Bool} → z ≡ v → (feasible P (moved_on p) && cheaper P (moved_on p) (rounded P)) ≡ v
        both q = ap₂ ◌&&◌ (feasible_is ey yes) (ap₂ (λ a b. is_lt (P.measure.compare a b)) (sym (own_cost x lx hx em)) (sym (own_cost w lw hw ew)) ∙ ap is_lt (sym eo) ∙ sym ez ∙ q)

        pub not_cheaper : z ≡ false → Started P r
        not_cheaper q = started r lw hw sw ew (start_some P (moved_on p) false remembered (both q))

        pub by_memory : z ≡ true → Started P m
        by_memory q = started m lx hx sm em (start_some P (moved_on p) true remembered (both q))
