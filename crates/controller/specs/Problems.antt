-- The problem that a plan poses to the decoder, from the logbook and the plan's own currents and references.
use Rattle.std.specs.Prelude.{ℕ, ◌-◌, ◌*◌, false, List, ◌++◌, map, length, replicate, ℤ, pos, slice_index_or}
use Rattle.std.specs.List.{range_with_len}
use Rattle.legs.specs.Kinds.{barred}
use Rattle.legs.specs.Measure.{MeasureModel}
use Rattle.legs.specs.Model.{LegModel}
use Rattle.legs.specs.Phases.{by_phase}
use Rattle.file.specs.File.{TableData, table_reading}
use Rattle.file.specs.declared.layout.Table.TheVariants.{Generator}
use Rattle.decoder.specs.Sequences.{Problem}
use Rattle.period.specs.Equations.{Given, given, target, unconstrained}
use Rattle.period.specs.Inputs.{levels_of}
use Rattle.controller.specs.Logbook.{Logbook}

-- What a controller is built with, and keeps: a leg for each phase, and a measure with costs of type K.
pub record Setup (K : Type 0) : Type 0 where
  pub a : LegModel
  pub b : LegModel
  pub c : LegModel
  pub measure : MeasureModel K

abbrev pub built : {K : Type 0} → MeasureModel K → LegModel → LegModel → LegModel → Setup K
built measure a b c = record { a = a; b = b; c = c; measure = measure }

-- a list followed by zeros, up to a length
abbrev pub padded : ℕ → List ℤ → List ℤ
padded size xs = xs ++ replicate (size - length xs) (pos 0)

-- the values of f below n, followed by zeros up to the rows of the longest horizon
abbrev pub rows_to : ℕ → (ℕ → ℤ) → List ℤ
rows_to n f = padded 15 (map f (range_with_len 0 n))

-- the generator's rows, followed by zeros up to those of the longest horizon
abbrev pub generator : TableData → List ℤ
generator d = padded 120 (table_reading d Generator)

module _ {K : Type 0} (s : Setup K) (b : Logbook) where
  -- the legs under their bars
  abbrev pub barred_legs : ℕ → LegModel
  barred_legs = by_phase (barred (slice_index_or b.bars 0 false) s.a) (barred (slice_index_or b.bars 1 false) s.b) (barred (slice_index_or b.bars 2 false) s.c)

  -- what the period's equations are given
  abbrev pub period_given : List ℤ → List ℤ → Given
  period_given currents references = given currents references (levels_of barred_legs b.applied)

  abbrev pub problem : TableData → List ℤ → List ℤ → Problem K
  problem d currents references = record {
    legs = barred_legs;
    measure = s.measure;
    entries = 3 * d.horizon;
    applied = b.applied;
    triangle = generator d;
    target = rows_to (3 * d.horizon) (target d (period_given currents references));
    unconstrained = rows_to (3 * d.horizon) (unconstrained d (period_given currents references));
    remembered = b.remembered;
  }
