-- The problem that a task poses to three legs under a measure.
use Rattle.std.specs.Prelude.{◌≡◌, ℕ, ◌*◌, ◌≤◌, List, take, slice_index}
use Rattle.std.specs.Option.{option_map}
use Rattle.legs.specs.Model.{LegModel}
use Rattle.legs.specs.Measure.{MeasureModel}
use Rattle.decoder.specs.Sequences.{Problem}
use Rattle.legs.specs.declared.measure.Measure as measure
use Rattle.legs.specs.declared.phases.Phases as phases
use Rattle.decoder.specs.declared.problem.Problem as code
use Rattle.decoder.specs.declared.task.Task.{Task}

abbrev pub entries_of : Task → ℕ
entries_of k = 3 * k.stages

abbrev pub posed : {C : Type 0} → (ℕ → LegModel) → MeasureModel C → Task → Problem C
posed legs measure k = record {
  legs = legs;
  measure = measure;
  entries = entries_of k;
  applied = k.applied;
  triangle = k.triangle;
  target = k.target;
  unconstrained = k.unconstrained;
  remembered = option_map (take (entries_of k)) k.remembered;
}

-- the problem that the code's struct poses, its legs and its measure being what their traits say they are
abbrev pub posed_by : {L M C : Type 0} → phases.Ghosts L → measure.Ghosts M C → code.Problem L M → Problem C
posed_by l m p = posed (l.models p.legs.now) (m.meaning p.measure.now) p.task.now

-- an array has only zeros past its first n entries
abbrev pub ZeroPast : ℕ → List ℕ → Type 0
ZeroPast n xs = (k : ℕ) → n ≤ k → slice_index xs k ≡ 0

-- an array holds a sequence of n entries, and zeros behind it
pub record Holds (n : ℕ) (xs sequence : List ℕ) : Type 0 where
  pub begins : take n xs ≡ sequence
  pub rest : ZeroPast n xs
