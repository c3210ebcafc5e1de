-- What a leg means to everything above it.
use Rattle.std.specs.Prelude.{◌≡◌, ℕ, ◌<◌, ◌≤◌, Bool, true, false, ℤ, pos, neg_ℤ, ◌≤ℤ◌, ◌<ℤ◌}

-- A leg: its positions, numbered from 0, the output level of each, the moves that it permits, and the position that it rests in.
pub record LegModel : Type 0 where
  pub count : ℕ
  pub level : ℕ → ℤ
  pub permits : ℕ → ℕ → Bool
  pub rest : ℕ

-- the most positions that a leg may have
abbrev pub most_positions : ℕ
most_positions = 5

-- the laws that every leg shows
pub record Lawful (m : LegModel) : Type 0 where
  pub some : 1 ≤ m.count
  pub few : m.count ≤ most_positions
  pub low : (p : ℕ) → neg_ℤ (pos 2) ≤ℤ m.level p
  pub high : (p : ℕ) → m.level p ≤ℤ pos 2
  pub rises : (p q : ℕ) → p < q → q < m.count → m.level p <ℤ m.level q
  pub rests : m.rest < m.count
  pub holds : (p : ℕ) → p < m.count → m.permits p p ≡ true
  -- a number that is no position of the leg has level 0, and no move leads from it or to it
  pub no_level : (p : ℕ) → m.count ≤ p → m.level p ≡ pos 0
  pub none_from : (p q : ℕ) → m.count ≤ p → m.permits p q ≡ false
  pub none_to : (p q : ℕ) → m.count ≤ q → m.permits p q ≡ false
