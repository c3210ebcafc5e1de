-- Which descriptions of a leg are refused.
use Rattle.std.specs.Prelude.{ℕ, ◌-◌, ◌^◌, Bool, ◌&&◌, ◌||◌, List, length, ℤ, pos, neg_ℤ, Option, ◌==◌, int_le, int_lt, nat_le, nat_lt, slice_index, slice_index_or}
use Rattle.fault.specs.declared.Fault.{Fault}
use Rattle.fault.specs.Refusals.{first_some, lowest_failing, refused_at, unless}
use Rattle.legs.specs.Kinds.{bit}
use Rattle.fault.specs.Rules.{refused}
use Rattle.fault.specs.declared.rule.Rule.TheVariants.{LevelCount, RisingLevels, HoldingMasks, RestPosition, LegReach, LegStride}

-- from low to high, both included
abbrev pub within : ℕ → ℕ → ℕ → Bool
within low high n = nat_le low n && nat_le n high

-- of a stepped leg: its reach first, then its stride
abbrev pub stepped_refusal : ℕ → ℕ → Option Fault
stepped_refusal reach stride = first_some (unless (within 1 2 reach) (refused LegReach 0)) (unless (within 1 4 stride) (refused LegStride 0))

-- the level of p lies from -2 to 2, and above that of the position before
abbrev pub level_stands : List ℤ → ℕ → Bool
level_stands levels p = int_le (neg_ℤ (pos 2)) (slice_index_or levels p (pos 0)) && (int_le (slice_index_or levels p (pos 0)) (pos 2) && (p == 0 || int_lt (slice_index_or levels (p - 1) (pos 0)) (slice_index_or levels p (pos 0))))

-- the mask of p, one of n positions, has the bit of p itself, and none at n or above
abbrev pub mask_stands : ℕ → List ℕ → ℕ → Bool
mask_stands n masks p = bit (slice_index masks p) p && nat_lt (slice_index masks p) (2 ^ n)

-- of a listed leg: how many levels and masks there are, then the levels, then the masks, then the rest
abbrev pub listed_refusal : List ℤ → List ℕ → ℕ → Option Fault
listed_refusal levels masks rest =
    first_some (unless (within 2 5 (length levels) && length masks == length levels) (refused LevelCount 0))
    (first_some (refused_at (lowest_failing (level_stands levels) (length levels)) (refused RisingLevels))
    (first_some (refused_at (lowest_failing (mask_stands (length levels) masks) (length levels)) (refused HoldingMasks))
    (unless (nat_lt rest (length levels)) (refused RestPosition 0))))
