-- The law over runs: every reply is what the logbook of the calls before it says.
use Rattle.std.specs.Prelude.{◌≡◌, ℕ, ◌*◌, ◌<◌, ◌≤◌, List, map, length, take, ℤ, Some, None, Option, slice_index, slice_index_or}
use Rattle.fault.specs.declared.Fault.{Fault}
use Rattle.legs.specs.Phases.{by_phase}
use Rattle.file.specs.File.{TableData}
use Rattle.decoder.specs.Answers.{Decoded}
use Rattle.decoder.specs.Promise.{Promise}
use Rattle.controller.specs.Logbook.{Logbook, entries_read, first_day, logbook, refusal}
use Rattle.controller.specs.Problems.{Setup, problem}
use Rattle.controller.specs.declared.calls.Call.{Call}
use Rattle.controller.specs.declared.calls.Call.TheVariants.{Load, Limit, Bar, Free, Plan, Fire, Withdraw}
use Rattle.controller.specs.declared.calls.Event.{Event}
use Rattle.controller.specs.declared.calls.Reading.{Reading}
use Rattle.controller.specs.declared.calls.Reply.{Reply}
use Rattle.controller.specs.declared.calls.Reply.TheVariants.{Granted, Planned, Denied}

module _ {K : Type 0} (s : Setup K) where
  -- a plan, as it was read, is the decoder's answer to the problem that it was posed, and keeps the decoder's promise
  pub record Kept (b : Logbook) (d : TableData) (currents references : List ℤ) (p : Reading K) : Type 0 where
    pub decoded : Decoded (problem s b d currents references) b.limit (entries_read p) p.cost p.count p.mark
    pub promised : Promise (problem s b d currents references) b.limit (entries_read p) p.cost p.count p.mark

  -- a granted plan has tables, and was read
  abbrev pub PlanKept : Logbook → Option TableData → List ℤ → List ℤ → Reply K → Type 0
  PlanKept b (Some d) currents references (Planned p) = Kept b d currents references p
  PlanKept b (Some d) currents references Granted = ⊥
  PlanKept b (Some d) currents references (Denied f) = ⊥
  PlanKept b None currents references r = ⊥

  abbrev pub GrantedAs : Logbook → Call → Reply K → Type 0
  GrantedAs b (Load f) r = r ≡ Granted
  GrantedAs b (Limit n) r = r ≡ Granted
  GrantedAs b (Bar p) r = r ≡ Granted
  GrantedAs b (Free p) r = r ≡ Granted
  GrantedAs b (Plan i y) r = PlanKept b b.tables i y.now r
  GrantedAs b (Fire o) r = r ≡ Granted
  GrantedAs b (Withdraw o) r = r ≡ Granted

  abbrev pub AnsweredBy : Logbook → Call → Reply K → Option Fault → Type 0
  AnsweredBy b c r (Some f) = r ≡ Denied f
  AnsweredBy b c r None = GrantedAs b c r

  -- what a call is answered: the refusal that is owed, or else it is granted
  abbrev pub Answered : ℕ → Logbook → Call → Reply K → Type 0
  Answered id b c r = AnsweredBy b c r (refusal id b c)

  -- the first three entries are positions of the three legs
  abbrev pub OnLegs : List ℕ → Type 0
  OnLegs q = (phase : ℕ) → phase < 3 → slice_index q phase < (by_phase s.a s.b s.c phase).count

  abbrev pub NextOnLegs : Option (List ℕ) → Type 0
  NextOnLegs (Some q) = OnLegs q
  NextOnLegs None = Unit {0}

  -- as many entries as the tables plan
  abbrev pub FullLength : Option TableData → Option (List ℕ) → Type 0
  FullLength (Some d) (Some q) = length q ≡ 3 * d.horizon
  FullLength (Some d) None = Unit {0}
  FullLength None (Some q) = Unit {0}
  FullLength None None = Unit {0}

  abbrev pub LooksAhead : Option TableData → Type 0
  LooksAhead (Some d) = 1 ≤ d.horizon
  LooksAhead None = Unit {0}

  -- what holds of every logbook that a run comes to
  pub record Stands (b : Logbook) : Type 0 where
    pub applied : OnLegs b.applied
    pub next : NextOnLegs b.plan
    pub plan_full : FullLength b.tables b.plan
    pub remembered_full : FullLength b.tables b.remembered
    pub ahead : LooksAhead b.tables

  -- every call was answered as the logbook of the events before it says
  abbrev pub Lawful : ℕ → Logbook → List (Event K) → Type 0
  Lawful id b es = (k : ℕ) (d : Event K) → k < length es → Answered id (logbook b (take k es)) (slice_index_or es k d).call (slice_index_or es k d).reply

  -- a run from the first day: the calls that were asked for, each answered by the law
  pub record Run (id : ℕ) (rests : List ℕ) (calls : List Call) (es : List (Event K)) : Type 0 where
    pub asked : map (λ e. e.call) es ≡ calls
    pub lawful : Lawful id (first_day rests) es
