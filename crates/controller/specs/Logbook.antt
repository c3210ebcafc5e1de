-- The logbook: what is known of a controller from its calls and what came of them, and which refusal it owes next.
use Rattle.std.specs.Prelude.{ℕ, Bool, true, false, not, ◌&&◌, List, [], ◌∷◌, take, ℤ, Some, None, Option, ◌==◌, nat_le, nat_lt, slice_set}
use Rattle.fault.specs.Refusals.{first_some, unless}
use Rattle.fault.specs.declared.Fault.{Fault}
use Rattle.file.specs.File.{TableData, file_refusal, tables_of}
use Rattle.period.specs.Inputs.{inputs_refusal}
use Rattle.controller.specs.declared.calls.Call.{Call}
use Rattle.controller.specs.declared.calls.Call.TheVariants.{Load, Limit, Bar, Free, Plan, Fire, Withdraw}
use Rattle.controller.specs.declared.calls.Event.{Event}
use Rattle.controller.specs.declared.calls.Reading.{Reading}
use Rattle.controller.specs.declared.calls.Reply.{Reply}
use Rattle.controller.specs.declared.calls.Reply.TheVariants.{Granted, Planned, Denied}
use Rattle.fault.specs.Rules.{refused}
use Rattle.fault.specs.declared.rule.Rule.TheVariants.{NoOpenOrder, LoadedTables, NodeLimit, PhaseNumber, OwnOrder, OpenOrder}

pub record Logbook : Type 0 where
  -- the position of each phase
  pub applied : List ℕ
  -- whether each phase is barred
  pub bars : List Bool
  -- the most nodes that a plan may visit
  pub limit : ℕ
  pub tables : Option TableData
  -- the entries of the last plan
  pub plan : Option (List ℕ)
  -- the entries of the plan that was fired last
  pub remembered : Option (List ℕ)
  -- an order is open
  pub pending : Bool

-- the limit before any other is set
abbrev pub first_limit : ℕ
first_limit = 130

-- before any call, with the legs in these positions
abbrev pub first_day : List ℕ → Logbook
first_day rests = record {
  applied = rests;
  bars = false ∷ (false ∷ (false ∷ []));
  limit = first_limit;
  tables = None;
  plan = None;
  remembered = None;
  pending = false;
}

-- what a plan applies when it is fired
abbrev pub first_stage : Option (List ℕ) → List ℕ → List ℕ
first_stage (Some q) before = take 3 q
first_stage None before = before

-- a granted call other than a plan
abbrev pub granted : Logbook → Call → Logbook
granted b (Load f) = record { applied = b.applied; bars = b.bars; limit = b.limit; tables = Some (tables_of f.now); plan = None; remembered = None; pending = b.pending }
granted b (Limit n) = record { applied = b.applied; bars = b.bars; limit = n; tables = b.tables; plan = b.plan; remembered = b.remembered; pending = b.pending }
granted b (Bar p) = record { applied = b.applied; bars = slice_set b.bars p true; limit = b.limit; tables = b.tables; plan = b.plan; remembered = b.remembered; pending = b.pending }
granted b (Free p) = record { applied = b.applied; bars = slice_set b.bars p false; limit = b.limit; tables = b.tables; plan = b.plan; remembered = b.remembered; pending = b.pending }
granted b (Plan i y) = b
granted b (Fire o) = record { applied = first_stage b.plan b.applied; bars = b.bars; limit = b.limit; tables = b.tables; plan = b.plan; remembered = b.plan; pending = false }
granted b (Withdraw o) = record { applied = b.applied; bars = b.bars; limit = b.limit; tables = b.tables; plan = b.plan; remembered = b.remembered; pending = false }

-- a granted plan, by the entries that were read of it
abbrev pub entered : Logbook → List ℕ → Logbook
entered b q = record { applied = b.applied; bars = b.bars; limit = b.limit; tables = b.tables; plan = Some q; remembered = b.remembered; pending = true }

-- the entries that count
abbrev pub entries_read : {K : Type 0} → Reading K → List ℕ
entries_read p = take p.len p.entries

-- one call more; what was denied leaves no trace
abbrev pub step : {K : Type 0} → Logbook → Call → Reply K → Logbook
step b c Granted = granted b c
step b c (Planned p) = entered b (entries_read p)
step b c (Denied f) = b

-- the logbook after some events
abbrev pub logbook : {K : Type 0} → Logbook → List (Event K) → Logbook
logbook b [] = b
logbook b (e ∷ es) = logbook (step b e.call e.reply) es

-- 21: an order is open
abbrev pub open_refusal : Bool → Option Fault
open_refusal pending = unless (not pending) (refused NoOpenOrder 0)

-- 22: there are no tables; then what is wrong with currents and references
abbrev pub plan_refusal : Option TableData → List ℤ → List ℤ → Option Fault
plan_refusal None currents references = Some (refused LoadedTables 0)
plan_refusal (Some d) currents references = inputs_refusal d.horizon currents references

-- 23: not 1 to 100,000 nodes
abbrev pub limit_refusal : ℕ → Option Fault
limit_refusal n = unless (nat_le 1 n && nat_le n 100000) (refused NodeLimit 0)

-- 24: not one of the phases 0, 1 and 2
abbrev pub phase_refusal : ℕ → Option Fault
phase_refusal p = unless (nat_lt p 3) (refused PhaseNumber 0)

-- 27: the order bears another identity than the controller's own; 28: no order is open
abbrev pub order_refusal : ℕ → Bool → ℕ → Option Fault
order_refusal id pending o = first_some (unless (o == id) (refused OwnOrder 0)) (unless pending (refused OpenOrder 0))

-- the refusal that a controller of this identity and logbook owes to a call, if any
abbrev pub refusal : ℕ → Logbook → Call → Option Fault
refusal id b (Load f) = first_some (open_refusal b.pending) (file_refusal f.now)
refusal id b (Limit n) = first_some (open_refusal b.pending) (limit_refusal n)
refusal id b (Bar p) = first_some (open_refusal b.pending) (phase_refusal p)
refusal id b (Free p) = first_some (open_refusal b.pending) (phase_refusal p)
refusal id b (Plan i y) = first_some (open_refusal b.pending) (plan_refusal b.tables i y.now)
refusal id b (Fire o) = order_refusal id b.pending o
refusal id b (Withdraw o) = order_refusal id b.pending o
