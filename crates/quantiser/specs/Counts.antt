-- How a real number becomes whole counts, of which 4096 make a unit: to the nearest, and from the middle upward.
use Rattle.std.specs.Prelude.{ℕ, ◌*◌, Bool, true, false, ℤ, pos, ◌+ℤ◌, ◌-ℤ◌, ◌*ℤ◌, neg_ℤ, ◌≤ℤ◌, ◌<ℤ◌, Float}
use Rattle.std.specs.Float.{nan, inf, fin}
use Rattle.std.specs.Float.Ieee.{up, down}
use Rattle.std.specs.Int.{int_div_euclid}

-- a quotient of whole numbers; the denominator is never 0
pub record Fraction : Type 0 where
  pub numerator : ℤ
  pub denominator : ℕ

-- r is the whole number nearest to half of f, from the middle upward: 2r − 1 ≤ f < 2r + 1
abbrev pub Nearest : Fraction → ℤ → Type 0
Nearest f r = ((((pos 2 *ℤ r) -ℤ pos 1) *ℤ pos f.denominator) ≤ℤ f.numerator) × (f.numerator <ℤ (((pos 2 *ℤ r) +ℤ pos 1) *ℤ pos f.denominator))

-- that number, worked out: (f + 1) / 2, rounded down
abbrev pub nearest : Fraction → ℤ
nearest f = int_div_euclid (f.numerator +ℤ pos f.denominator) (pos (2 * f.denominator))

-- n, with a minus sign where s is true
abbrev pub signed : Bool → ℕ → ℤ
signed false n = pos n
signed true n = neg_ℤ (pos n)

-- Twice the counts in x, which is 8192 · x, exactly.
-- A finite float is ±m · 2^e, and 2^e is up e / down e. The others are refused before their counts matter; 0 stands there.
abbrev pub twice_counts : Float → Fraction
twice_counts nan = record { numerator = pos 0; denominator = 1 }
twice_counts (inf s) = record { numerator = pos 0; denominator = 1 }
twice_counts (fin s m e) = record { numerator = signed s (m * up e * 8192); denominator = down e }
