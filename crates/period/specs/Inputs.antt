-- What a controller may be handed for one period.
use Rattle.std.specs.Prelude.{ℕ, ◌*◌, Bool, List, [], ◌∷◌, ◌++◌, length, ℤ, pos, Option, ◌==◌, nat_le, slice_index, slice_index_or, unsigned_abs}
use Rattle.fault.specs.Refusals.{first_some, lowest_failing, refused_at, unless}
use Rattle.fault.specs.declared.Fault.{Fault}
use Rattle.legs.specs.Model.{LegModel}
use Rattle.fault.specs.Rules.{refused}
use Rattle.fault.specs.declared.rule.Rule.TheVariants.{InputRange, ReferenceCount}

-- a current or a reference may have this value
abbrev pub allowed : ℤ → Bool
allowed v = nat_le (unsigned_abs v) 8192

-- at this place of the currents, or of the references behind them, stands a value that is allowed
abbrev pub allowed_at : List ℤ → List ℤ → ℕ → Bool
allowed_at currents references k = allowed (slice_index_or (currents ++ references) k (pos 0))

-- where the first value stands that is not allowed
abbrev pub first_outside : List ℤ → List ℤ → Option ℕ
first_outside currents references = lowest_failing (allowed_at currents references) (length (currents ++ references))

-- 26: not two references for each of n stages, with how many there are; 25: a value that is not allowed, with its place
abbrev pub inputs_refusal : ℕ → List ℤ → List ℤ → Option Fault
inputs_refusal n currents references =
    first_some (unless (length references == 2 * n) (refused ReferenceCount (length references))) (refused_at (first_outside currents references) (refused InputRange))

-- the levels of the three applied positions
abbrev pub levels_of : (ℕ → LegModel) → List ℕ → List ℤ
levels_of legs applied = (legs 0).level (slice_index applied 0) ∷ ((legs 1).level (slice_index applied 1) ∷ ((legs 2).level (slice_index applied 2) ∷ []))
