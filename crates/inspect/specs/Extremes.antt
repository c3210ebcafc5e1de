-- The extreme entries of a table.
use Rattle.std.specs.Prelude.{List, [], ◌∷◌, ℤ, Some, None, fold, Option}
use Rattle.std.specs.Int.{int_min, int_max}
use Rattle.inspect.specs.declared.survey.Extremes.{Extremes}

-- the extremes with one value more
abbrev pub including : Extremes → ℤ → Extremes
including e z = record { least = int_min e.least z; greatest = int_max e.greatest z }

abbrev pub extremes_of : List ℤ → Option Extremes
extremes_of [] = None
extremes_of (x ∷ xs) = Some (fold including (record { least = x; greatest = x }) (x ∷ xs))
