-- A controller's fields as a logbook, and that it stands in one way at most, as its type's invariant needs.
use Rattle.std.specs.Prelude.{ℕ, Bool, List, [], ◌∷◌, take, Some, None, Option}
use Rattle.std.specs.Option.{option_map}
use Rattle.std.specs.Coded.{Coded-set, coded_ℕ, Unit-prop, le_prop, Π_prop, →_prop}
use Rattle.legs.specs.declared.barred.Barred.{Barred}
use Rattle.legs.specs.declared.phases.Legs.{Legs}
use Rattle.file.specs.File.{TableData}
use Rattle.file.specs.Tables.{data_of}
use Rattle.file.specs.declared.tables.Tables.{Tables}
use Rattle.controller.specs.Law.{FullLength, LooksAhead, NextOnLegs, OnLegs, Stands}
use Rattle.controller.specs.Logbook.{Logbook}
use Rattle.controller.specs.Problems.{Setup}
use Rattle.controller.specs.declared.sequence.Plan.{Plan}
use Rattle.controller.specs.declared.sequence.Sequence.{Sequence}

-- the entries that count
abbrev pub entries_in : Sequence → List ℕ
entries_in q = take q.len q.entries

abbrev pub plan_entries : {K : Type 0} → Plan K → List ℕ
plan_entries p = entries_in p.sequence

-- the bars of three legs
abbrev pub bars_of : {A B C : Type 0} → Legs (Barred A) (Barred B) (Barred C) → List Bool
bars_of legs = legs.a.bar ∷ (legs.b.bar ∷ (legs.c.bar ∷ []))

-- what a controller knows, by its fields
abbrev pub book : {A B C K : Type 0} → Legs (Barred A) (Barred B) (Barred C) → Option Tables → ℕ → List ℕ → Option Sequence → Option (Plan K) → Bool → Logbook
book legs tables limit applied remembered plan pending = record {
  applied = applied;
  bars = bars_of legs;
  limit = limit;
  tables = option_map data_of tables;
  plan = option_map plan_entries plan;
  remembered = option_map entries_in remembered;
  pending = pending;
}

-- any two proofs that a logbook stands are the same
module _ {K : Type 0} (s : Setup K) where
  on_legs_prop : (q : List ℕ) → IsProp (OnLegs s q)
  on_legs_prop q = Π_prop (λ phase. →_prop le_prop)

  next_prop : (q : Option (List ℕ)) → IsProp (NextOnLegs s q)
  next_prop (Some q) = on_legs_prop q
  next_prop None = Unit-prop

  full_prop : (t : Option TableData) (q : Option (List ℕ)) → IsProp (FullLength s t q)
  full_prop (Some d) (Some q) = Coded-set coded_ℕ _ _
  full_prop (Some d) None = Unit-prop
  full_prop None (Some q) = Unit-prop
  full_prop None None = Unit-prop

  ahead_prop : (t : Option TableData) → IsProp (LooksAhead s t)
  ahead_prop (Some d) = le_prop
  ahead_prop None = Unit-prop

  pub Stands-prop : (b : Logbook) → IsProp (Stands s b)
  Stands-prop b x y = λ i. record {
    applied = on_legs_prop b.applied x.applied y.applied i;
    next = next_prop b.plan x.next y.next i;
    plan_full = full_prop b.tables b.plan x.plan_full y.plan_full i;
    remembered_full = full_prop b.tables b.remembered x.remembered_full y.remembered_full i;
    ahead = ahead_prop b.tables x.ahead y.ahead i;
  }
