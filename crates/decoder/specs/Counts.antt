-- Numbers in counts, of which a unit has 4096.
use Rattle.std.specs.Prelude.{ℤ, pos, ◌+ℤ◌}
use Rattle.std.specs.Int.{int_div_euclid}

-- a product of counts back in counts: the nearest whole number, and of two as near the higher
abbrev pub rounded_count : ℤ → ℤ
rounded_count a = int_div_euclid (a +ℤ pos 2048) (pos 4096)
