-- Worked rows: what the definitions come to for some tasks of one stage. Levels are shown, not positions.
use Rattle.std.specs.Prelude.{◌≡◌, ℕ, suc, min, true, List, [], ◌∷◌, length, take, ℤ, pos, neg_ℤ, None, nat_le}
use Rattle.legs.specs.Model.{LegModel}
use Rattle.legs.specs.Kinds.{stepped, listed, barred}
use Rattle.legs.specs.Measure.{MeasureModel}
use Rattle.legs.specs.Measures.{squared, peak_first}
use Rattle.legs.specs.Phases.{by_phase}
use Rattle.decoder.specs.Counts.{rounded_count}
use Rattle.decoder.specs.Sequences.{Problem, leg_of, cost}
use Rattle.decoder.specs.Answers.{marked}
use Rattle.decoder.specs.Computed.{start, due_nodes, cheapest}
use Rattle.decoder.specs.declared.Mark.{Mark}
use Rattle.decoder.specs.declared.Mark.TheVariants.{Certified, Stopped}

-- a value for each phase
abbrev pub row : {X : Type 0} → X → X → X → List X
row a b c = a ∷ (b ∷ (c ∷ []))

abbrev pub triangle : ℤ → ℤ → ℤ → ℤ → ℤ → ℤ → List ℤ
triangle v00 v10 v11 v20 v21 v22 = v00 ∷ (v10 ∷ (v11 ∷ (v20 ∷ (v21 ∷ (v22 ∷ [])))))

-- one unit on the diagonal
abbrev pub identity : List ℤ
identity = triangle (pos 4096) (pos 0) (pos 4096) (pos 0) (pos 0) (pos 4096)

-- the first two rows are coupled
abbrev pub skewed : List ℤ
skewed = triangle (pos 1000) (pos 2500) (pos 100000) (pos 0) (pos 0) (pos 4096)

-- three levels, one step at a time
abbrev pub npc : LegModel
npc = stepped 1 1

-- two levels, every move permitted
abbrev pub two_level : LegModel
two_level = listed (neg_ℤ (pos 1) ∷ (pos 1 ∷ [])) (3 ∷ (3 ∷ [])) 0

abbrev pub alike : LegModel → ℕ → LegModel
alike leg = by_phase leg leg leg

-- one stage, with nothing remembered
abbrev pub one_stage : {C : Type 0} → (ℕ → LegModel) → MeasureModel C → List ℕ → List ℤ → List ℤ → List ℤ → Problem C
one_stage legs measure applied v target unconstrained = record { legs = legs; measure = measure; entries = 3; applied = applied; triangle = v; target = target; unconstrained = unconstrained; remembered = None }

-- V is the identity, squared costs, and the target is what the unconstrained optimum is
abbrev pub usual : (ℕ → LegModel) → List ℕ → List ℤ → Problem ℕ
usual legs applied target = one_stage legs squared applied identity target target

module _ {C : Type 0} (P : Problem C) where
  abbrev pub levels_from : ℕ → List ℕ → List ℤ
  levels_from j [] = []
  levels_from j (p ∷ q) = (leg_of P j).level p ∷ levels_from (suc j) q

  -- levels, cost, nodes visited and mark
  abbrev pub shown : ℕ → List ℤ × C × ℕ × Mark
  shown limit = (
    levels_from 0 (cheapest P (start P) (take limit (due_nodes P (start P)))),
    cost P (cheapest P (start P) (take limit (due_nodes P (start P)))),
    min limit (length (due_nodes P (start P))),
    marked (nat_le (length (due_nodes P (start P))) limit),
  )

abbrev pub zeros : List ℤ
zeros = row (pos 0) (pos 0) (pos 0)

-- only the first row has a target
abbrev pub first : ℤ → List ℤ
first x = row x (pos 0) (pos 0)

-- every NPC leg at level 0
abbrev pub middle : List ℕ
middle = row 1 1 1

-- level 1 in phase a alone
abbrev pub up : List ℤ
up = row (pos 1) (pos 0) (pos 0)

pub record WorkedRows : Type 0 where
  pub a_target_that_is_met : shown (usual (alike npc) middle zeros) 130 ≡ (zeros, 0, 9, Certified)
  pub a_limit_one_node_short : shown (usual (alike npc) middle zeros) 8 ≡ (zeros, 0, 8, Stopped)
  pub a_limit_that_just_suffices : shown (usual (alike npc) middle zeros) 9 ≡ (zeros, 0, 9, Certified)
  pub of_two_as_cheap_the_later : shown (usual (alike npc) middle (first (pos 2048))) 130 ≡ (up, 4194304, 15, Certified)
  pub of_two_as_cheap_the_later_and_not_the_start : shown (usual (alike npc) middle (first (neg_ℤ (pos 2048)))) 130 ≡ (zeros, 4194304, 15, Certified)
  pub a_barred_phase : shown (usual (by_phase (barred true npc) npc npc) middle (first (pos 8192))) 130 ≡ (zeros, 67108864, 7, Certified)
  pub a_target_two_steps_away : shown (usual (alike npc) (row 0 1 1) (first (pos 4096))) 130 ≡ (zeros, 16777216, 8, Certified)
  pub coupled_rows_squared : shown (one_stage (alike npc) squared middle skewed (first (pos 3000)) zeros) 130 ≡ (zeros, 9000000, 12, Certified)
  pub coupled_rows_peak_first : shown (one_stage (alike npc) peak_first middle skewed (first (pos 3000)) zeros) 130 ≡ (up, (2500, 4500), 15, Certified)
  pub legs_without_level_zero : shown (usual (alike two_level) (row 0 0 0) zeros) 130 ≡ (row (pos 1) (pos 1) (pos 1), 50331648, 14, Certified)
  pub a_search_of_one_node : shown (usual (alike two_level) (row 0 0 0) zeros) 1 ≡ (row (neg_ℤ (pos 1)) (neg_ℤ (pos 1)) (neg_ℤ (pos 1)), 50331648, 1, Stopped)
  pub just_under_half_a_count : rounded_count (pos 2047) ≡ pos 0
  pub half_a_count : rounded_count (pos 2048) ≡ pos 1
  pub half_a_count_below : rounded_count (neg_ℤ (pos 2048)) ≡ pos 0
  pub just_past_half_a_count_below : rounded_count (neg_ℤ (pos 2049)) ≡ neg_ℤ (pos 1)
