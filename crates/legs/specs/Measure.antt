-- What a measure means to everything above it.
use Rattle.std.specs.Prelude.{◌≡◌, ℕ, ◌*◌, ◌^◌, ◌<◌, ◌≤◌, Bool, true, List, [], ◌∷◌, length, ℤ, unsigned_abs}
use Rattle.std.specs.declared.cmp.Ordering.TheVariants.{Equal}
use Rattle.std.specs.declared.cmp.Ordering.{Ordering}
use denote.Param.{layout}
use Rattle.std.specs.Borrow.{RattleType}
use prog.Memory.{size}
use Rattle.std.specs.Ordering.{is_le, ordering_reverse}
use Rattle.std.specs.List.{AllByRecursion}

-- A measure: the cost before any row, the cost once a further row's difference is taken in, and a comparison of costs.
pub record MeasureModel (C : Type 0) : Type 0 where
  pub start : C
  pub after : C → ℤ → C
  pub compare : C → C → Ordering

-- a costs at most b
abbrev pub at_most : {C : Type 0} → MeasureModel C → C → C → Bool
at_most m a b = is_le (m.compare a b)

-- the most that a row's difference can be, in absolute value
abbrev pub most_difference : ℕ
most_difference = 161218560

abbrev pub Small : ℤ → Type 0
Small d = unsigned_abs d ≤ most_difference

-- the cost of the differences of some rows, the last row first
abbrev pub cost_of : {C : Type 0} → MeasureModel C → List ℤ → C
cost_of m [] = m.start
cost_of m (d ∷ ds) = m.after (cost_of m ds) d

-- c is the cost of at most k rows whose differences are small
pub record Reached {C : Type 0} (m : MeasureModel C) (k : ℕ) (c : C) : Type 0 where
  pub differences : List ℤ
  pub few : length differences ≤ k
  pub small : AllByRecursion Small differences
  pub is : c ≡ cost_of m differences

-- the laws that every measure shows, of the costs that at most fifteen rows can reach: the comparison is a total order in
-- which no two costs tie, and a further row never lowers a cost
pub record Lawful {C : Type 0} (m : MeasureModel C) : Type 0 where
  pub flips : (a b : C) → Reached m 15 a → Reached m 15 b → m.compare b a ≡ ordering_reverse (m.compare a b)
  pub trans : (a b c : C) → Reached m 15 a → Reached m 15 b → Reached m 15 c → at_most m a b ≡ true → at_most m b c ≡ true → at_most m a c ≡ true
  pub same : (a b : C) → Reached m 15 a → Reached m 15 b → m.compare a b ≡ Equal → a ≡ b
  pub grows : (c : C) (d : ℤ) → Reached m 14 c → Small d → at_most m c (m.after c d) ≡ true

-- sixteen costs fit side by side in memory, so that a search can keep one for each row
abbrev pub Room : RattleType → Type 0
Room C = 16 * size (layout C) < 2 ^ 63
