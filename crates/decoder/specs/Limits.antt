-- How large the numbers of a problem may be.
use Rattle.std.specs.Prelude.{ℕ, ◌≤◌, Bool, ◌&&◌, List, ℤ, nat_le, unsigned_abs}
use Rattle.std.specs.List.{list_all}

-- from -m to m
abbrev pub Within : ℕ → ℤ → Type 0
Within m z = unsigned_abs z ≤ m

-- the largest entry of V, in absolute value
abbrev pub most_coupling : ℕ
most_coupling = 1048576

-- the largest target of a row, in absolute value
abbrev pub most_target : ℕ
most_target = 129761280

-- the most entries of a sequence: three to a stage, and five stages
abbrev pub most_entries : ℕ
most_entries = 15

abbrev pub within : ℕ → ℤ → Bool
within m z = nat_le (unsigned_abs z) m

-- one to five stages, with V and the targets as small as they have to be
abbrev pub in_limits : ℕ → List ℤ → List ℤ → Bool
in_limits stages triangle target = nat_le 1 stages && (nat_le stages 5 && (list_all (within most_coupling) triangle && list_all (within most_target) target))
