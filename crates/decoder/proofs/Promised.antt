-- From the computed answer to the one that is defined, and to what is promised of it.
use Rattle.std.proofs.Common.{◌≡◌, ℕ, zero, suc, ◌≤◌, min, leb, List, [], ◌∷◌, length, take, sym, ap, ◌∙◌, subst, ap₂, inl, inr, ⊎_elim, arith}
use Rattle.std.proofs.lemmas.List.{take_all}
use Rattle.std.proofs.lemmas.Bool.{leb-true, le-leb}
use Rattle.decoder.specs.Sequences.{Problem, Sound, Feasible, DueNodes, In, precedes, cost}
use Rattle.decoder.specs.Guesses.{Placed, Start}
use Rattle.decoder.specs.Answers.{marked, Chosen, Decoded}
use Rattle.decoder.specs.Promise.{Counted, Optimal, Fair, Promise}
use Rattle.decoder.specs.Computed as computed
use Rattle.decoder.specs.Computed.{Computed, cheapest, due_nodes}
use Rattle.decoder.specs.Theorems.{AnswerStands}
use Rattle.decoder.specs.declared.Mark.{Mark}
use Rattle.decoder.specs.declared.Mark.TheVariants.{Certified}
use Rattle.decoder.proofs.Tree.{onto, Found}
use Rattle.decoder.proofs.Machine.{machine}
use Rattle.decoder.proofs.Best.{answer_optimal, certain}
use Rattle.decoder.proofs.Order.{asc_take}
use Rattle.decoder.proofs.Bridge.{walked, dues_are, one_list, answer_is, undo, leq_onto, cost_onto, before_precedes, whole_to, whole_from}
use Rattle.decoder.proofs.Enumerate.{listing_is, listing_due}
use Rattle.decoder.proofs.Reach.{lawful, no_dearer_trans}
use Rattle.decoder.proofs.Choice.{chosen, chosen_alone}
use Rattle.decoder.proofs.Starts.{start_alone, start_feasible, start_rounded, start_remembered, start_is}

in_take : (n : ℕ) (xs : List (List ℕ)) (q : List ℕ) → In q (take n xs) → In q xs
in_take zero xs q m = absurd m
in_take (suc n) [] q m = absurd m
in_take (suc n) (x ∷ xs) q m = ⊎_elim (λ e. inl e) (λ k. inr (in_take n xs q k)) m

-- what the search ends with is the computed answer
pub found_computed : {C : Type 0} (P : Problem C) (limit : ℕ) (s b : List ℕ) (paid : C) (count : ℕ) (mark : Mark) → Found (machine P) P.entries limit (onto [] s) (onto [] b) paid count mark → Computed P s limit b paid count mark
found_computed P limit s b paid count mark f =
    let l : walked P s ≡ due_nodes P s = listing_is P s in
    record {
      sequence_is = undo _ _ (f.best_is ∙ answer_is P limit s) ∙ ap (λ xs. cheapest P s (take limit xs)) l;
      paid_is = f.cost_is ∙ cost_onto P b;
      count_is = f.count_is ∙ ap (λ xs. min limit (length xs)) l;
      mark_is = f.mark_is ∙ ap (λ xs. marked (leb (length xs) limit)) l;
    }

module _ {C : Type 0} {P : Problem C} (o : Sound P) where
  pub decoded : Placed P → (limit : ℕ) (b : List ℕ) (paid : C) (count : ℕ) (mark : Mark) → Computed P (computed.start P) limit b paid count mark → Decoded P limit b paid count mark
  decoded pl limit b paid count mark c =
      let st = start_is o pl in
      let nodes = due_nodes P (computed.start P) in
      let due = listing_due P (computed.start P) in
      record {
        start = computed.start P;
        starts = st;
        nodes = nodes;
        due = due;
        chosen = subst (Chosen P (computed.start P) (take limit nodes)) (sym c.sequence_is) (chosen o (computed.start P) (take limit nodes) (start_feasible P _ st).full (asc_take limit nodes due.ascending));
        paid_is = c.paid_is;
        count_is = c.count_is;
        mark_is = c.mark_is;
      }

  module _ {limit : ℕ} {b : List ℕ} {paid : C} {count : ℕ} {mark : Mark} (d : Decoded P limit b paid count mark) where
    abbrev S : List ℕ
    S = d.start

    start_is_feasible : Feasible P S
    start_is_feasible = start_feasible P S d.starts

    pub feasible : Feasible P b
    feasible = ⊎_elim (λ e. subst (Feasible P) (sym e) start_is_feasible) (λ m. record { full = m.1; permitted = (d.due.each_due b (in_take limit d.nodes b m.0)).permitted }) d.chosen.among

    short : (f : List ℕ) → Feasible P f → length f ≤ 15
    short f h = omega (arith, h.full, o.few)

    pub fair : Fair P b
    fair = record {
      feasible = feasible;
      against_rounded = λ r h. no_dearer_trans o b S r (short b feasible) (short S start_is_feasible) (let e : length r ≡ P.entries = h.full in omega (arith, o.few)) d.chosen.against_start (start_rounded o S r d.starts h);
      against_remembered = λ g m h. no_dearer_trans o b S g (short b feasible) (short S start_is_feasible) (short g h) d.chosen.against_start (start_remembered o S g d.starts m h);
    }

    reckoned : b ≡ cheapest P S (take limit d.nodes)
    reckoned = chosen_alone o S (take limit d.nodes) start_is_feasible.full b (cheapest P S (take limit d.nodes)) d.chosen (chosen o S (take limit d.nodes) start_is_feasible.full (asc_take limit d.nodes d.due.ascending))

    covered : mark ≡ Certified → length d.nodes ≤ limit
    covered m = leb-true _ _ (certain _ (sym d.mark_is ∙ m))

    covers : length d.nodes ≤ limit → mark ≡ Certified
    covers h = d.mark_is ∙ ap marked (le-leb _ _ h)

    pub optimal : mark ≡ Certified → Optimal P b
    optimal m =
        let u : walked P S ≡ d.nodes = one_list P S _ _ (dues_are P S) d.due in
        let r = answer_optimal (machine P) (lawful o) P.entries limit S o.few (omega (arith, o.some)) (whole_to P S start_is_feasible) (subst (λ l. length l ≤ limit) (sym u) (covered m)) in
        let e : r.0 ≡ b = undo _ _ (sym r.1 ∙ answer_is P limit S ∙ ap (λ l. onto [] (cheapest P S (take limit l))) u ∙ ap (onto []) (sym reckoned)) in
        subst (Optimal P) e (record {
          feasible = whole_from P r.0 r.2.whole;
          cheapest = λ f h. sym (leq_onto P r.0 f) ∙ r.2.least f (whole_to P f h);
          last = λ f h c ne. ap (λ l. precedes l r.0) (sym (take_all (length r.0) f (omega (arith, h.full, r.2.whole.0)))) ∙ sym (before_precedes f r.0 (omega (arith, h.full, r.2.whole.0))) ∙ r.2.last f (whole_to P f h) (cost_onto P f ∙ c ∙ sym (cost_onto P r.0)) ne;
        })

    counted_own : Counted limit (length d.nodes) count mark
    counted_own = record { covered = covered; covers = covers; count_is = d.count_is }

    pub counted : (start : List ℕ) (nodes : List (List ℕ)) → Start P start → DueNodes P start nodes → Counted limit (length nodes) count mark
    counted start nodes st du =
        let e : start ≡ S = start_alone P start S st d.starts in
        let u : nodes ≡ d.nodes = one_list P S _ _ (subst (λ s. DueNodes P s nodes) e du) d.due in
        subst (λ l. Counted limit (length l) count mark) (sym u) counted_own

    pub promised : Promise P limit b paid count mark
    promised = record { certified = optimal; counted = counted; paid_is = d.paid_is; fair = fair }

  pub one_answer : (limit : ℕ) (s t : List ℕ) (c d : C) (m n : ℕ) (k l : Mark) → Decoded P limit s c m k → Decoded P limit t d n l → (s ≡ t) × (c ≡ d) × (m ≡ n) × (k ≡ l)
  one_answer limit s t c d m n k l x y =
      let e : y.start ≡ x.start = start_alone P y.start x.start y.starts x.starts in
      let u : y.nodes ≡ x.nodes = one_list P x.start _ _ (subst (λ s. DueNodes P s y.nodes) e y.due) x.due in
      let v : s ≡ t = reckoned x ∙ ap₂ (λ q xs. cheapest P q (take limit xs)) (sym e) (sym u) ∙ sym (reckoned y) in (
        v,
        x.paid_is ∙ ap (cost P) v ∙ sym y.paid_is,
        x.count_is ∙ ap (λ xs. min limit (length xs)) (sym u) ∙ sym y.count_is,
        x.mark_is ∙ ap (λ xs. marked (leb (length xs) limit)) (sym u) ∙ sym y.mark_is,
      )

-- a search that starts from the computed start
pub from_start : {C : Type 0} {P : Problem C} {s : List ℕ} → s ≡ computed.start P → {limit : ℕ} {b : List ℕ} {paid : C} {count : ℕ} {mark : Mark} → Computed P s limit b paid count mark → Computed P (computed.start P) limit b paid count mark
from_start {P = P} e {limit} {b} {paid} {count} {mark} c = subst (λ s. Computed P s limit b paid count mark) e c

pub answer_stands : (C : Type 0) → AnswerStands C
answer_stands C = record { stands = λ P o pl. decoded o pl; alone = λ P o. one_answer o }
