-- A problem as a tree search, whose beginnings have their last entry first.
use Rattle.std.proofs.Common.{ℕ, cond, ltb, List, [], ◌∷◌, length, get_or, ℤ, pos, ◌+ℤ◌, ◌-ℤ◌}
use Rattle.legs.specs.Measure.{cost_of, at_most}
use Rattle.decoder.proofs.Tree.{Rules}
use Rattle.decoder.specs.Sequences.{Problem, leg_of, sum_below, term}

module _ {C : Type 0} (P : Problem C) where
  -- row j of V times the levels of the first k entries of q
  abbrev pub row_sum : List ℕ → ℕ → ℕ → ℤ
  row_sum q j k = sum_below (λ i. term P j i (get_or q i 0)) k

  -- row j of V times the levels of a beginning
  abbrev pub sum_back : ℕ → List ℕ → ℤ
  sum_back j [] = pos 0
  sum_back j (p ∷ s) = sum_back j s +ℤ term P j (length s) p

  abbrev pub difference_back : ℕ → List ℕ → ℤ
  difference_back j s = get_or P.target j (pos 0) -ℤ sum_back j s

  -- the differences of a beginning's rows, the last row first
  abbrev pub differences : List ℕ → List ℤ
  differences [] = []
  differences (p ∷ s) = difference_back (length s) (p ∷ s) ∷ differences s

  -- where the entry after s moves from
  abbrev pub previous : List ℕ → ℕ
  previous s = cond (ltb (length s) 3) (get_or P.applied (length s) 0) (get_or s 2 0)

  abbrev pub machine : Rules C
  machine = record { size = λ s. (leg_of P (length s)).count; permits = λ s p. (leg_of P (length s)).permits (previous s) p; cost = λ s. cost_of P.measure (differences s); leq = at_most P.measure }
