-- How far the entries of a file are read.
use Rattle.std.specs.Prelude.{◌≡◌, ℕ, List, map, length, take, ℤ}
use Rattle.std.specs.List.{range_with_len}
use Rattle.file.specs.File.{offset, word}

-- the first k entries of the file b stand in the array es
pub record Entered (b : List ℕ) (n : ℕ) (es : List ℤ) (k : ℕ) : Type 0 where
  pub sized : length es ≡ 741
  pub read : take k es ≡ map (λ i. word b (offset i)) (range_with_len 0 k)
