-- Differences of rows in 64 bits.
use Rattle.std.proofs.Common.{◌≡◌, ℤ, ◌+ℤ◌, ◌-ℤ◌, arith, w64, SFits, to_z, of_z}
use borrow.Author.Differences.{ints}
use Rattle.decoder.specs.Limits.{Within}

-- a small number and its bits
pub small_bits : (a : ℤ) → Within 161218560 a → to_z w64 (of_z w64 a) ≡ a
small_bits a h = omega (arith, ints)

pub sub_fits : (x a b : ℤ) → x ≡ a → Within 161218560 a → Within 2097152 b → SFits w64 (x -ℤ to_z w64 (of_z w64 b))
sub_fits x a b e h k = omega (arith, ints)

pub sub_is : (x a b : ℤ) → x ≡ a → Within 161218560 a → Within 2097152 b → to_z w64 (of_z w64 (x -ℤ to_z w64 (of_z w64 b))) ≡ a -ℤ b
sub_is x a b e h k = omega (arith, ints)

-- one term more is taken off
pub take_off : (a b c : ℤ) → (a -ℤ b) -ℤ c ≡ a -ℤ (b +ℤ c)
take_off a b c = omega (arith, ints)
