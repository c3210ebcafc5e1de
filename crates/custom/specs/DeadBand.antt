-- A measure with a dead band.
use Rattle.std.specs.Prelude.{ℕ, ◌+◌, ◌-◌, ◌%◌, ◌^◌, unsigned_abs}
use Rattle.legs.specs.Measure.{MeasureModel}
use Rattle.std.specs.Ordering.{nat_cmp}

-- the sum of what the differences exceed a width by, kept in 32 bits. Past them the sum begins again at 0 and the laws of a
-- measure break, but no cost of fifteen rows comes there
abbrev pub dead_band : ℕ → MeasureModel ℕ
dead_band width = record {
  start = 0;
  after = λ c d. (c + (unsigned_abs d - width)) % 2 ^ 32;
  compare = nat_cmp;
}
