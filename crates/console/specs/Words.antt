-- The words of a line, and what a single word may say.
use Rattle.std.specs.Prelude.{ℕ, ◌+◌, ◌-◌, ◌*◌, Bool, true, false, cond, not, ◌&&◌, List, [], ◌∷◌, length, ℤ, pos, neg_ℤ, Some, None, Option, ◌==◌, nat_le}
use Rattle.std.specs.Option.{option_map}

-- A word of a line: a longest run of bytes that are no spaces, with the column of its first byte, counted from 1.
pub record Word : Type 0 where
  pub column : ℕ
  pub bytes : List ℕ

abbrev pub is_space : ℕ → Bool
is_space b = b == 32

-- a word goes on here: a byte follows, and it is no space
abbrev pub goes_on : List ℕ → Bool
goes_on [] = false
goes_on (b ∷ bs) = not (is_space b)

-- a byte in front of the words behind it: it belongs to the first of them where that follows at once
abbrev pub put_before : ℕ → ℕ → Bool → List Word → List Word
put_before c b true (w ∷ ws) = record { column = c; bytes = b ∷ w.bytes } ∷ ws
put_before c b true [] = record { column = c; bytes = b ∷ [] } ∷ []
put_before c b false ws = record { column = c; bytes = b ∷ [] } ∷ ws

-- the words of some bytes, the first of which stands in column c
abbrev pub words_from : ℕ → List ℕ → List Word
words_from c [] = []
words_from c (b ∷ bs) = cond (is_space b) (words_from (c + 1) bs) (put_before c b (goes_on bs) (words_from (c + 1) bs))

abbrev pub words : List ℕ → List Word
words line = words_from 1 line

abbrev pub is_digit : ℕ → Bool
is_digit b = nat_le 48 b && nat_le b 57

-- the number that digits write behind those that wrote v
abbrev pub digits_after : ℕ → List ℕ → Option ℕ
digits_after v [] = Some v
digits_after v (b ∷ bs) = cond (is_digit b) (digits_after (v * 10 + (b - 48)) bs) None

-- one to seven digits
abbrev pub magnitude : List ℕ → Option ℕ
magnitude bs = cond (nat_le 1 (length bs) && nat_le (length bs) 7) (digits_after 0 bs) None

-- the number that a word writes: a minus, byte 45, or none, and then the digits
abbrev pub number : List ℕ → Option ℤ
number [] = None
number (b ∷ bs) = cond (b == 45) (option_map (λ n. neg_ℤ (pos n)) (magnitude bs)) (option_map (λ n. pos n) (magnitude (b ∷ bs)))

-- the phase that a word names: the letters a, b and c, bytes 97 to 99
abbrev pub phase : List ℕ → Option ℕ
phase [] = None
phase (b ∷ []) = cond (b == 97) (Some 0) (cond (b == 98) (Some 1) (cond (b == 99) (Some 2) None))
phase (b ∷ c ∷ bs) = None
