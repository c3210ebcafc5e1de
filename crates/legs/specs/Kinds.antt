-- The kinds of leg.
use Rattle.std.specs.Prelude.{ℕ, ◌+◌, ◌*◌, ◌/◌, ◌%◌, ◌^◌, Bool, if◌then◌else◌, not, ◌&&◌, ◌||◌, List, length, ℤ, pos, ◌-ℤ◌, ◌==◌, nat_le, nat_lt, slice_index, slice_index_or}
use Rattle.legs.specs.Model.{LegModel}

-- one position for each level from -reach to reach; a move goes at most `stride` levels up or down; it rests at level 0
abbrev pub stepped : ℕ → ℕ → LegModel
stepped reach stride = record {
  count = 2 * reach + 1;
  level = λ p. if nat_lt p (2 * reach + 1) then pos p -ℤ pos reach else pos 0;
  permits = λ p q. nat_lt p (2 * reach + 1) && (nat_lt q (2 * reach + 1) && (nat_le p (q + stride) && nat_le q (p + stride)));
  rest = reach;
}

-- whether a bit of a mask is set, the lowest being bit 0
abbrev pub bit : ℕ → ℕ → Bool
bit mask k = mask / 2 ^ k % 2 == 1

-- one position for each level of a list, and for each a mask whose bit k permits the move to position k
abbrev pub listed : List ℤ → List ℕ → ℕ → LegModel
listed levels masks rest = record {
  count = length levels;
  level = λ p. slice_index_or levels p (pos 0);
  permits = λ p q. bit (slice_index masks p) q;
  rest = rest;
}

-- a leg under a bar: while it is set, of the moves below only those that hold are left
abbrev pub barred : Bool → LegModel → LegModel
barred bar m = record {
  count = m.count;
  level = m.level;
  permits = λ p q. m.permits p q && (not bar || p == q);
  rest = m.rest;
}
