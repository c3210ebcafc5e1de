-- A logbook that stands still does after the next call.
use Rattle.std.proofs.Common.{◌≡◌, ℕ, zero, suc, ◌*◌, ◌<◌, ◌≤◌, Bool, List, [], ◌∷◌, length, get_or, ℤ, Some, None, Ok, Option, refl, arith}
use Rattle.std.proofs.lemmas.List.{get_or-take}
use Rattle.fault.proofs.Answered.{granted as allowed, neither}
use Rattle.fault.specs.Refusals.{Answers}
use Rattle.fault.specs.declared.Fault.{Fault}
use Rattle.file.proofs.Accepted.{headed}
use Rattle.file.specs.File.{TableData, entries_refusal, file_refusal, header_refusal, horizon_of, offset}
use Rattle.file.specs.Layout as layout
use Rattle.controller.specs.Book.{plan_entries}
use Rattle.controller.specs.Law.{Answered, AnsweredBy, FullLength, LooksAhead, NextOnLegs, OnLegs, PlanKept, Stands}
use Rattle.controller.specs.Logbook.{Logbook, entered, entries_read, first_day, first_stage, granted, open_refusal, plan_refusal, refusal, step}
use Rattle.controller.specs.Problems.{Setup}
use Rattle.controller.specs.View.{reading_of}
use Rattle.controller.specs.declared.calls.Call.{Call}
use Rattle.controller.specs.declared.calls.Call.TheVariants.{Load, Limit, Bar, Free, Plan as PlanCall, Fire, Withdraw}
use Rattle.controller.specs.declared.calls.Reading.{Reading}
use Rattle.controller.specs.declared.calls.Reply.{Reply}
use Rattle.controller.specs.declared.calls.Reply.TheVariants.{Granted, Planned, Denied}
use Rattle.controller.specs.declared.sequence.Plan.{Plan}

module _ {K : Type 0} (s : Setup K) (b : Logbook) where
  -- a plan that was read: its first stage is on the legs, and it is of full length
  pub record Read (t : Option TableData) (q : List ℕ) : Type 0 where
    pub on_legs : OnLegs s q
    pub full : FullLength s t (Some q)

  three_inside : (q : List ℕ) → get_or q 0 0 < s.a.count → get_or q 1 0 < s.b.count → get_or q 2 0 < s.c.count → OnLegs s q
  three_inside q x y z zero h = x
  three_inside q x y z (suc zero) h = y
  three_inside q x y z (suc (suc zero)) h = z
  three_inside q x y z (suc (suc (suc n))) h = absurd (omega arith)

  kept_read : (p : Reading K) (i y : List ℤ) (t : Option TableData) → LooksAhead s t → PlanKept s b t i y (Planned p) → Read t (entries_read p)
  kept_read p i y (Some d) ahead k =
      let f = k.promised.fair.feasible in
      let long : length (entries_read p) ≡ 3 * d.horizon = f.full in
      record {
        on_legs = three_inside (entries_read p) (f.permitted 0 (omega arith)).exists (f.permitted 1 (omega arith)).exists (f.permitted 2 (omega arith)).exists;
        full = long;
      }
  kept_read p i y None ahead k = absurd k

  planned_read : (p : Reading K) (o : Option Fault) (c : Call) → LooksAhead s b.tables → AnsweredBy s b c (Planned p) o → Read b.tables (entries_read p)
  planned_read p (Some f) c ahead e = cc
  planned_read p None (Load t) ahead e = cc
  planned_read p None (Limit n) ahead e = cc
  planned_read p None (Bar n) ahead e = cc
  planned_read p None (Free n) ahead e = cc
  planned_read p None (PlanCall i y) ahead e = kept_read p i y.now b.tables ahead e
  planned_read p None (Fire o) ahead e = cc
  planned_read p None (Withdraw o) ahead e = cc

  stage_on_legs : (q : Option (List ℕ)) → NextOnLegs s q → OnLegs s b.applied → OnLegs s (first_stage q b.applied)
  stage_on_legs (Some q) next old j h = rw (get_or-take 3 q j 0 h) (next j h)
  stage_on_legs None next old j h = old j h

  -- nothing was refused
  not_refused : (o : Option Fault) (c : Call) → AnsweredBy s b c Granted o → o ≡ None
  not_refused (Some f) c e = cc
  not_refused None c e = refl

  -- tables that were taken look one stage ahead at least
  file_ahead : (f : List ℕ) → file_refusal f ≡ None → 1 ≤ horizon_of f
  file_ahead f e = (headed f (neither (header_refusal f) (entries_refusal (layout.cells (horizon_of f)) f (offset 0)) e).0).some

  -- bars, limit and an open order change nothing of it
  beside : {bars : List Bool} {limit : ℕ} {pending : Bool} → Stands s b → Stands s (record { applied = b.applied; bars = bars; limit = limit; tables = b.tables; plan = b.plan; remembered = b.remembered; pending = pending })
  beside st = record { applied = st.applied; next = st.next; plan_full = st.plan_full; remembered_full = st.remembered_full; ahead = st.ahead }

  granted_stands : (id : ℕ) (c : Call) → refusal id b c ≡ None → Stands s b → Stands s (granted b c)
  granted_stands id (Load f) e st = record {
    applied = st.applied;
    next = tt;
    plan_full = tt;
    remembered_full = tt;
    ahead = file_ahead f.now (neither (open_refusal b.pending) (file_refusal f.now) e).1;
  }
  granted_stands id (Limit n) e st = beside st
  granted_stands id (Bar n) e st = beside st
  granted_stands id (Free n) e st = beside st
  granted_stands id (PlanCall i y) e st = st
  granted_stands id (Fire o) e st = record {
    applied = stage_on_legs b.plan st.next st.applied;
    next = st.next;
    plan_full = st.plan_full;
    remembered_full = st.plan_full;
    ahead = st.ahead;
  }
  granted_stands id (Withdraw o) e st = beside st

  -- a plan that was granted is entered
  pub entered_stands : (i y : List ℤ) (p : Plan K) → Stands s b → Answers (plan_refusal b.tables i y) (λ q. PlanKept s b b.tables i y (Planned (reading_of q))) (Ok p) → Stands s (entered b (plan_entries p))
  entered_stands i y p st a =
      let k = allowed (plan_refusal b.tables i y) (λ q. PlanKept s b b.tables i y (Planned (reading_of q))) p a in
      let read = kept_read (reading_of p) i y b.tables st.ahead k.1 in
      record { applied = st.applied; next = read.on_legs; plan_full = read.full; remembered_full = st.remembered_full; ahead = st.ahead }

  pub stands_step : (id : ℕ) (c : Call) (r : Reply K) → Stands s b → Answered s id b c r → Stands s (step b c r)
  stands_step id c Granted st an = granted_stands id c (not_refused (refusal id b c) c an) st
  stands_step id c (Planned p) st an =
      let read = planned_read p (refusal id b c) c st.ahead an in
      record { applied = st.applied; next = read.on_legs; plan_full = read.full; remembered_full = st.remembered_full; ahead = st.ahead }
  stands_step id c (Denied f) st an = st

-- the first day stands, with each leg in a position that it has
pub first_day_stands : {K : Type 0} (s : Setup K) (x y z : ℕ) → x < s.a.count → y < s.b.count → z < s.c.count → Stands s (first_day (x ∷ (y ∷ (z ∷ []))))
first_day_stands s x y z a b c = record {
  applied = three_inside s (first_day []) (x ∷ (y ∷ (z ∷ []))) a b c;
  next = tt;
  plan_full = tt;
  remembered_full = tt;
  ahead = tt;
}
