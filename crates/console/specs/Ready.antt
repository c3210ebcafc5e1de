-- The console's controller between two lines, and one call on it.
use Rattle.std.specs.Prelude.{◌≡◌, ℕ, ◌≤◌, true, false, Some, None, Ok, Err, Option, Result}
use Rattle.fault.specs.declared.Fault.{Fault}
use Rattle.legs.specs.declared.leg.Leg.{Ghosts as LegGhosts}
use Rattle.legs.specs.declared.measure.Measure.{Ghosts as MeasureGhosts}
use Rattle.legs.specs.declared.squared.Squared.{Squared}
use Rattle.legs.specs.declared.stepped.Stepped.{Stepped}
use Rattle.controller.specs.Law.{Answered}
use Rattle.controller.specs.Logbook.{step}
use Rattle.controller.specs.View.{book_of}
use Rattle.controller.specs.declared.calls.Call.{Call}
use Rattle.controller.specs.declared.calls.Reading.{Reading}
use Rattle.controller.specs.declared.calls.Reply.{Reply}
use Rattle.controller.specs.declared.calls.Reply.TheVariants.{Granted, Planned, Denied}
use Rattle.controller.specs.declared.order.Order.{Order}
use Rattle.controller.specs.declared.state.Controller.{Controller}
use Rattle.arrayvec.specs.ArrayVec.{array_vec_len}
use Rattle.console.specs.declared.requests.Request.{Request}
use Rattle.console.specs.declared.requests.Request.TheVariants.{Load as LoadRequest, Limit as LimitRequest, Bar as BarRequest, Free as FreeRequest, Plan as PlanRequest}
use Rattle.console.specs.Turns.{identity, npc_setup}

-- a controller of three legs of these kinds, by the ghost members of its measure and its legs
abbrev pub Npc : MeasureGhosts Squared ℕ → LegGhosts Stepped → LegGhosts Stepped → LegGhosts Stepped → Type 0
Npc m a b c = Controller Squared Stepped Stepped Stepped ℕ m a b c

abbrev pub IsNpc : Stepped → Type 0
IsNpc leg = (leg.reach ≡ 1) × (leg.stride ≡ 1)

-- it is the console's
pub record Own {ghosts_m : MeasureGhosts Squared ℕ} {ghosts_a ghosts_b ghosts_c : LegGhosts Stepped} (c : Npc ghosts_m ghosts_a ghosts_b ghosts_c) : Type 0 where
  pub identity_is : c.identity ≡ identity
  pub leg_a : IsNpc c.legs.a.below
  pub leg_b : IsNpc c.legs.b.below
  pub leg_c : IsNpc c.legs.c.below

-- and no order is open
pub record Ready {ghosts_m : MeasureGhosts Squared ℕ} {ghosts_a ghosts_b ghosts_c : LegGhosts Stepped} (c : Npc ghosts_m ghosts_a ghosts_b ghosts_c) : Type 0 where
  pub own : Own c
  pub idle : c.pending ≡ false

-- a call was answered by the law, and the logbook goes on with it
pub record Took {ghosts_m : MeasureGhosts Squared ℕ} {ghosts_a ghosts_b ghosts_c : LegGhosts Stepped} (c : Npc ghosts_m ghosts_a ghosts_b ghosts_c) (call : Call) (r : Reply ℕ) (d : Npc ghosts_m ghosts_a ghosts_b ghosts_c) : Type 0 where
  pub answers : Answered npc_setup identity (book_of c) call r
  pub after : book_of d ≡ step (book_of c) call r
  pub own : Own d

-- a plan that may have been made, as a reply
abbrev pub granted_with : Option (Reading ℕ) → Reply ℕ
granted_with (Some p) = Planned p
granted_with None = Granted

-- what was done, with the plan that was made, as a reply
abbrev pub reply_of : Result (Option (Reading ℕ)) Fault → Reply ℕ
reply_of (Ok p) = granted_with p
reply_of (Err f) = Denied f

-- a plan opens an order of its controller; one that is refused opens none
abbrev pub Opened : {ghosts_m : MeasureGhosts Squared ℕ} {ghosts_a ghosts_b ghosts_c : LegGhosts Stepped} → Npc ghosts_m ghosts_a ghosts_b ghosts_c → Call → Result (Order × Option (Reading ℕ)) Fault → Npc ghosts_m ghosts_a ghosts_b ghosts_c → Type 0
Opened c call (Ok x) d = Took c call (granted_with x.1) d × (d.pending ≡ true) × (x.0.identity ≡ d.identity)
Opened c call (Err f) d = Took c call (Denied f) d × (d.pending ≡ false)

-- a request that can be done: a plan has its two currents
abbrev pub Complete : Request → Type 0
Complete LoadRequest = Unit {0}
Complete (LimitRequest z) = Unit {0}
Complete (BarRequest p) = Unit {0}
Complete (FreeRequest p) = Unit {0}
Complete (PlanRequest n s) = 2 ≤ array_vec_len n
