-- One call on the console's controller.
use Rattle.std.proofs.Common.{◌≡◌, ℕ, ◌-◌, ◌≤◌, List, [], ◌∷◌, length, get_or, take, drop, ℤ, pos, Some, None, Option, refl, ap, ◌∙◌, subst, arith, Bor}
use Rattle.std.proofs.lemmas.List.{length-drop, take_all}
use Rattle.std.specs.Option.{option_map}
use Rattle.fault.specs.declared.Fault.{Fault}
use Rattle.legs.specs.Kinds.{stepped}
use Rattle.legs.specs.Measures.{squared}
use Rattle.legs.specs.declared.leg.Leg.{Ghosts as LegGhosts}
use Rattle.legs.specs.declared.measure.Measure.{Ghosts as MeasureGhosts}
use Rattle.legs.specs.declared.squared.Squared.{Squared}
use Rattle.legs.specs.declared.stepped.Stepped.{Stepped}
use Rattle.controller.specs.Law.{Answered, AnsweredBy}
use Rattle.controller.specs.Logbook.{Logbook, refusal, step}
use Rattle.controller.specs.Problems.{Setup, built}
use Rattle.controller.specs.View.{Plans, Same, book_of, planned, reading_of}
use Rattle.controller.specs.declared.calls.Call.TheVariants.{Plan}
use Rattle.controller.specs.declared.calls.Reply.{Reply}
use Rattle.controller.specs.declared.calls.Reply.TheVariants.{Granted, Planned, Denied}
use Rattle.controller.specs.declared.sequence.Plan.{Plan as PlanOf}
use Rattle.console.specs.Ready.{Npc, Own, Took, granted_with}
use Rattle.controller.specs.declared.order.Closing.{Closing}
use Rattle.controller.specs.declared.order.Closing.TheVariants.{Fire as ToFire, Withdraw as ToWithdraw}
use Rattle.console.specs.Texts.{npc}
use Rattle.console.specs.Requests.{asked_with}
use Rattle.console.specs.Turns.{Performed, identity, lent, npc_setup}

-- what a controller is built with, by its legs
abbrev pub setup_by : {ghosts_m : MeasureGhosts Squared ℕ} {ghosts_a ghosts_b ghosts_c : LegGhosts Stepped} → Npc ghosts_m ghosts_a ghosts_b ghosts_c → Setup ℕ
setup_by c = built squared (stepped c.legs.a.below.reach c.legs.a.below.stride) (stepped c.legs.b.below.reach c.legs.b.below.stride) (stepped c.legs.c.below.reach c.legs.c.below.stride)

pub setup_is : {ghosts_m : MeasureGhosts Squared ℕ} {ghosts_a ghosts_b ghosts_c : LegGhosts Stepped} → (c : Npc ghosts_m ghosts_a ghosts_b ghosts_c) → Own c → setup_by c ≡ npc_setup
setup_is c o =
    let a : stepped c.legs.a.below.reach c.legs.a.below.stride ≡ npc = ap (λ r. stepped r c.legs.a.below.stride) o.leg_a.0 ∙ ap (stepped 1) o.leg_a.1 in
    let b : stepped c.legs.b.below.reach c.legs.b.below.stride ≡ npc = ap (λ r. stepped r c.legs.b.below.stride) o.leg_b.0 ∙ ap (stepped 1) o.leg_b.1 in
    let d : stepped c.legs.c.below.reach c.legs.c.below.stride ≡ npc = ap (λ r. stepped r c.legs.c.below.stride) o.leg_c.0 ∙ ap (stepped 1) o.leg_c.1 in
    cc

-- a call does not change whose controller it is
own_on : {ghosts_m : MeasureGhosts Squared ℕ} {ghosts_a ghosts_b ghosts_c : LegGhosts Stepped} → (c d : Npc ghosts_m ghosts_a ghosts_b ghosts_c) → Own c → Same c d → Own d
own_on c d o s = record {
  identity_is = s.identity ∙ o.identity_is;
  leg_a = (ap (λ l. l.reach) s.leg_a ∙ o.leg_a.0, ap (λ l. l.stride) s.leg_a ∙ o.leg_a.1);
  leg_b = (ap (λ l. l.reach) s.leg_b ∙ o.leg_b.0, ap (λ l. l.stride) s.leg_b ∙ o.leg_b.1);
  leg_c = (ap (λ l. l.reach) s.leg_c ∙ o.leg_c.0, ap (λ l. l.stride) s.leg_c ∙ o.leg_c.1);
}

-- plans of the same numbers are the same
module _ (b : Logbook) (i : List ℤ) (y : Bor (List ℤ)) where
  plan_alike : (r : Reply ℕ) (o : Option Fault) → AnsweredBy npc_setup b (Plan i y) r o → AnsweredBy npc_setup b (Plan i (lent y.now)) r o
  plan_alike r (Some f) a = a
  plan_alike r None a = a

  step_alike : (r : Reply ℕ) → step b (Plan i y) r ≡ step b (Plan i (lent y.now)) r
  step_alike Granted = refl
  step_alike (Planned p) = refl
  step_alike (Denied f) = refl

pub plan_took : {ghosts_m : MeasureGhosts Squared ℕ} {ghosts_a ghosts_b ghosts_c : LegGhosts Stepped} → (c d : Npc ghosts_m ghosts_a ghosts_b ghosts_c) (i : List ℤ) (y : Bor (List ℤ)) (r : Reply ℕ) (j ys : List ℤ) → Own c → i ≡ j → y.now ≡ ys → Plans (setup_by c) c (Plan i y) r d → Took c (Plan j (lent ys)) r d
plan_took c d i y r j ys o p q k =
    let s = setup_is c o in
    let b = book_of c in
    let told : Answered (setup_by c) c.identity b (Plan i y) r = k.answers in
    let here : Answered npc_setup identity b (Plan i y) r =
    subst (λ (n : ℕ). Answered npc_setup n b (Plan i y) r) o.identity_is (subst (λ (z : Setup ℕ). Answered z c.identity b (Plan i y) r) s told)
    in
    let lies : Answered npc_setup identity b (Plan i (lent y.now)) r = plan_alike b i y r (refusal identity b (Plan i y)) here in
    let an : Answered npc_setup identity b (Plan j (lent ys)) r =
    subst (λ (l : List ℤ). Answered npc_setup identity b (Plan l (lent ys)) r) p (subst (λ (l : List ℤ). Answered npc_setup identity b (Plan i (lent l)) r) q lies)
    in
    let aft : book_of d ≡ step b (Plan j (lent ys)) r =
    k.after ∙ step_alike b i y r ∙ ap (λ (l : List ℤ). step b (Plan i (lent l)) r) q ∙ ap (λ (l : List ℤ). step b (Plan l (lent ys)) r) p
    in
    record { answers = an; after = aft; own = own_on c d o k.same }

-- the first two of some numbers, and the others
pub first_two : (vs : List ℤ) → 2 ≤ length vs → get_or vs 0 (pos 0) ∷ (get_or vs 1 (pos 0) ∷ []) ≡ take 2 vs
first_two (x ∷ y ∷ vs) a = refl
first_two (x ∷ []) a = absurd (omega arith)
first_two [] a = absurd (omega arith)

pub numbers_took : {ghosts_m : MeasureGhosts Squared ℕ} {ghosts_a ghosts_b ghosts_c : LegGhosts Stepped} → (vs : List ℤ) (c d : Npc ghosts_m ghosts_a ghosts_b ghosts_c) (x y : ℤ) (refs : Bor (List ℤ)) (r : Reply ℕ) → 2 ≤ length vs → Own c → x ≡ get_or vs 0 (pos 0) → y ≡ get_or vs 1 (pos 0) → refs.now ≡ take (length vs - 2) (drop 2 vs) → Plans (setup_by c) c (Plan (x ∷ (y ∷ [])) refs) r d → Took c (Plan (take 2 vs) (lent (drop 2 vs))) r d
numbers_took vs c d x y refs r some o p q e k =
    let currents : x ∷ (y ∷ []) ≡ take 2 vs = ap (λ z. z ∷ (y ∷ [])) p ∙ ap (λ z. get_or vs 0 (pos 0) ∷ (z ∷ [])) q ∙ first_two vs some in
    let rest : take (length vs - 2) (drop 2 vs) ≡ drop 2 vs = take_all (length vs - 2) (drop 2 vs) (omega (arith, length-drop 2 vs)) in
    plan_took c d (x ∷ (y ∷ [])) refs r (take 2 vs) (drop 2 vs) o currents (e ∙ rest) k

pub as_read : (p : Option (PlanOf ℕ)) → planned p ≡ granted_with (option_map reading_of p)
as_read (Some p) = refl
as_read None = refl

-- a plan that is refused is all that was done, however its order would have been spent
pub plan_refused : {ghosts_m : MeasureGhosts Squared ℕ} {ghosts_a ghosts_b ghosts_c : LegGhosts Stepped} → (file : List ℕ) (how : Closing) (vs : List ℤ) (c d : Npc ghosts_m ghosts_a ghosts_b ghosts_c) (f : Fault) → Took c (Plan (take 2 vs) (lent (drop 2 vs))) (Denied f) d → Performed file (asked_with how vs) (book_of c) (Denied f) (book_of d)
plan_refused file ToFire vs c d f t = record { answers = t.answers; book = t.after }
plan_refused file ToWithdraw vs c d f t = record { answers = t.answers; book = t.after }
