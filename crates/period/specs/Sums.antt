-- Sums of products in whole numbers, and how they are rounded.
use Rattle.std.specs.Prelude.{◌≡◌, ℕ, zero, suc, ◌<◌, ◌≤◌, List, length, ℤ, pos, ◌+ℤ◌, neg_ℤ, slice_index_or, unsigned_abs}
use Rattle.std.specs.Int.{int_div_euclid}

-- f 0 + f 1 + .., n terms
abbrev pub sum_to : ℕ → (ℕ → ℤ) → ℤ
sum_to zero f = pos 0
sum_to (suc n) f = sum_to n f +ℤ f n

-- A product of two numbers in counts is in 4096ths of a count. This brings a sum of products back to counts: to the nearest, and from
-- the middle upward, which is (a + 2048) / 4096 rounded down.
unfoldable pub rounded : ℤ → ℤ
rounded a = int_div_euclid (a +ℤ pos 2048) (pos 4096)

-- what becomes of sums beside the middle
pub record RoundingRows : Type 0 where
  pub under_half : rounded (pos 2047) ≡ pos 0
  pub half : rounded (pos 2048) ≡ pos 1
  pub half_below : rounded (neg_ℤ (pos 2048)) ≡ pos 0
  pub past_half_below : rounded (neg_ℤ (pos 2049)) ≡ neg_ℤ (pos 1)

-- of at most m in absolute value
abbrev pub Within : ℕ → ℤ → Type 0
Within m z = unsigned_abs z ≤ m

-- a list of such numbers
abbrev pub EachWithin : ℕ → List ℤ → Type 0
EachWithin m xs = (k : ℕ) → Within m (slice_index_or xs k (pos 0))

-- a list of so many numbers: the first n values of f, and 0 past them
pub record Filled (size n : ℕ) (f : ℕ → ℤ) (xs : List ℤ) : Type 0 where
  pub sized : length xs ≡ size
  pub value : (k : ℕ) → k < n → slice_index_or xs k (pos 0) ≡ f k
  pub rest : (k : ℕ) → n ≤ k → slice_index_or xs k (pos 0) ≡ pos 0
