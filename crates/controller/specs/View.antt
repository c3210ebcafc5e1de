-- A controller by its logbook, and what its calls promise.
use Rattle.std.specs.Prelude.{◌≡◌, ℕ, ◌-◌, Bool, true, cond, ◌&&◌, Some, None, Ok, Err, Option, Result, nat_le, slice_index}
use Rattle.std.specs.Option.{option_map}
use Rattle.fault.specs.declared.Fault.{Fault}
use Rattle.legs.specs.Measure.{MeasureModel}
use Rattle.legs.specs.Model.{LegModel}
use Rattle.legs.specs.declared.leg.Leg.{Ghosts as LegGhosts}
use Rattle.legs.specs.declared.measure.Measure.{Ghosts as MeasureGhosts}
use Rattle.controller.specs.Logbook.{Logbook, refusal, step}
use Rattle.controller.specs.Problems.{Setup, built}
use Rattle.controller.specs.Book.{book}
use Rattle.controller.specs.Law.{Answered}
use Rattle.controller.specs.declared.calls.Call.{Call}
use Rattle.controller.specs.declared.calls.Call.TheVariants.{Load, Limit, Bar, Free, Plan as PlanCall, Fire, Withdraw}
use Rattle.controller.specs.declared.calls.Reading.{Reading}
use Rattle.controller.specs.declared.calls.Reply.{Reply}
use Rattle.controller.specs.declared.calls.Reply.TheVariants.{Granted, Planned, Denied}
use Rattle.controller.specs.declared.order.Denied.{Denied as TurnedDown}
use Rattle.controller.specs.declared.order.Closing.{Closing}
use Rattle.controller.specs.declared.order.Closing.TheVariants.{Fire as ByFire, Withdraw as ByWithdraw}
use Rattle.controller.specs.declared.order.Order.{Order}
use Rattle.controller.specs.declared.sequence.Plan.{Plan}
use Rattle.controller.specs.declared.state.Controller.{Controller}
use Rattle.controller.specs.declared.state.Settings.{Settings}

-- a plan, as its readings show it
abbrev pub reading_of : {K : Type 0} → Plan K → Reading K
reading_of p = record { entries = p.sequence.entries; len = p.sequence.len; cost = p.cost; count = p.count; mark = p.mark }

-- entry i of a plan, from 1
abbrev pub entry_at : {K : Type 0} → Option (Plan K) → ℕ → Option ℕ
entry_at (Some p) i = cond (nat_le 1 i && nat_le i p.sequence.len) (Some (slice_index p.sequence.entries (i - 1))) None
entry_at None i = None

-- the answer to a call that owes this refusal, if any, and that is no plan
abbrev pub answer : {K : Type 0} → Option Fault → Reply K
answer (Some f) = Denied f
answer None = Granted

-- what a call answered, as a reply
abbrev pub reply : {K X : Type 0} → Result X Fault → Reply K
reply (Ok x) = Granted
reply (Err f) = Denied f

abbrev pub reply_back : {K X : Type 0} → Result X TurnedDown → Reply K
reply_back (Ok x) = Granted
reply_back (Err d) = Denied d.fault

-- a granted plan, with what is then read of it
abbrev pub planned : {K : Type 0} → Option (Plan K) → Reply K
planned (Some p) = Planned (reading_of p)
planned None = Granted

abbrev pub plan_reply : {K X : Type 0} → Result X Fault → Option (Plan K) → Reply K
plan_reply (Ok o) p = planned p
plan_reply (Err f) p = Denied f

-- why a call was denied, if it was
abbrev pub denial : {K : Type 0} → Reply K → Option Fault
denial Granted = None
denial (Planned p) = None
denial (Denied f) = Some f

-- which plan can be read after a call: a load takes the last one away, and a plan that is granted puts its own in place
abbrev pub left_by : {K : Type 0} → Call → Option (Plan K) → Option (Plan K)
left_by (Load f) p = None
left_by (Limit n) p = p
left_by (Bar n) p = p
left_by (Free n) p = p
left_by (PlanCall i y) p = p
left_by (Fire o) p = p
left_by (Withdraw o) p = p

abbrev pub left_after : {K : Type 0} → Call → Reply K → Option (Plan K) → Option (Plan K)
left_after c Granted p = left_by c p
left_after c (Planned r) p = p
left_after c (Denied f) p = p

-- what is denied alters nothing
abbrev pub Untouched : {K X : Type 0} → Reply K → X → X → Type 0
Untouched Granted before after = Unit {0}
Untouched (Planned p) before after = Unit {0}
Untouched (Denied f) before after = after ≡ before

-- the call that closes an order of this identity
abbrev pub closes : Closing → ℕ → Call
closes ByFire id = Fire id
closes ByWithdraw id = Withdraw id

-- an order that is turned down comes back
abbrev pub HandsBack : {X : Type 0} → Order → Result X TurnedDown → Type 0
HandsBack o (Ok x) = Unit {0}
HandsBack o (Err d) = d.order ≡ o

-- an order is taken where it owes no refusal, and else handed back with it
abbrev pub Redeems : {X : Type 0} → Option Fault → Order → Result X TurnedDown → Type 0
Redeems None o (Ok x) = Unit {0}
Redeems None o (Err d) = ⊥
Redeems (Some f) o (Ok x) = ⊥
Redeems (Some f) o (Err d) = (d.fault ≡ f) × (d.order ≡ o)

-- a granted plan opens an order of its controller
abbrev pub Bears : ℕ → Bool → Result Order Fault → Type 0
Bears id pending (Ok o) = (o.identity ≡ id) × (pending ≡ true)
Bears id pending (Err f) = Unit {0}

module _ {M A B C K : Type 0} {ghosts_m : MeasureGhosts M K} {ghosts_a : LegGhosts A} {ghosts_b : LegGhosts B} {ghosts_c : LegGhosts C} where
  -- what a controller knows, as a logbook
  abbrev pub book_of : Controller M A B C K ghosts_m ghosts_a ghosts_b ghosts_c → Logbook
  book_of c = book c.legs c.tables c.limit c.applied c.remembered c.plan c.pending

  -- what of a logbook its settings show
  abbrev pub settings_of : Controller M A B C K ghosts_m ghosts_a ghosts_b ghosts_c → Settings
  settings_of c = record {
    horizon = option_map (λ d. d.horizon) (book_of c).tables;
    limit = (book_of c).limit;
    barred = (book_of c).bars;
    applied = (book_of c).applied;
    order_is_open = (book_of c).pending;
  }

  -- what a controller is built with, by the meanings of its measure and legs
  abbrev pub setup_of : (M → MeasureModel K) → (A → LegModel) → (B → LegModel) → (C → LegModel) → Controller M A B C K ghosts_m ghosts_a ghosts_b ghosts_c → Setup K
  setup_of m a b c x = built (m x.measure) (a x.legs.a.below) (b x.legs.b.below) (c x.legs.c.below)

  -- what no call changes
  pub record Same (x y : Controller M A B C K ghosts_m ghosts_a ghosts_b ghosts_c) : Type 0 where
    pub identity : y.identity ≡ x.identity
    pub measure : y.measure ≡ x.measure
    pub leg_a : y.legs.a.below ≡ x.legs.a.below
    pub leg_b : y.legs.b.below ≡ x.legs.b.below
    pub leg_c : y.legs.c.below ≡ x.legs.c.below

  -- a call other than a plan: what it answers, and what it leaves behind
  pub record Does (c : Controller M A B C K ghosts_m ghosts_a ghosts_b ghosts_c) (call : Call) (r : Reply K) (d : Controller M A B C K ghosts_m ghosts_a ghosts_b ghosts_c) : Type 0 where
    pub answers : r ≡ answer (refusal c.identity (book_of c) call)
    pub after : book_of d ≡ step (book_of c) call r
    pub readable : d.plan ≡ left_after call r c.plan
    pub untouched : Untouched r c d
    pub same : Same c d

  -- a plan: when it is denied, what it answers, and what it leaves behind
  pub record Plans (s : Setup K) (c : Controller M A B C K ghosts_m ghosts_a ghosts_b ghosts_c) (call : Call) (r : Reply K) (d : Controller M A B C K ghosts_m ghosts_a ghosts_b ghosts_c) : Type 0 where
    pub owed : denial r ≡ refusal c.identity (book_of c) call
    pub answers : Answered s c.identity (book_of c) call r
    pub after : book_of d ≡ step (book_of c) call r
    pub untouched : Untouched r c d
    pub same : Same c d
