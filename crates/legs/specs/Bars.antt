-- The bars of three barred legs.
use Rattle.std.specs.Prelude.{◌≡◌, ℕ, min, Bool, if◌then◌else◌, ◌==◌}
use Rattle.legs.specs.declared.barred.Barred.{Barred}
use Rattle.legs.specs.declared.phases.Legs.{Legs}
use Rattle.legs.specs.Phases.{by_phase}

-- whether a phase's bar is set
abbrev pub bars : {A B C : Type 0} → Legs (Barred A) (Barred B) (Barred C) → ℕ → Bool
bars legs = by_phase legs.a.bar legs.b.bar legs.c.bar

-- whether two numbers mean the same phase, as all past the second do
abbrev pub same_phase : ℕ → ℕ → Bool
same_phase p q = min p 2 == min q 2

-- one phase's bar has become `bar`; the other bars and the legs under all three are as they were
pub record OneBar {A B C : Type 0} (phase : ℕ) (bar : Bool) (before after : Legs (Barred A) (Barred B) (Barred C)) : Type 0 where
  pub set : (k : ℕ) → bars after k ≡ (if same_phase k phase then bar else bars before k)
  pub a_below : after.a.below ≡ before.a.below
  pub b_below : after.b.below ≡ before.b.below
  pub c_below : after.c.below ≡ before.c.below
