-- The measures.
use Rattle.std.specs.Prelude.{ℕ, ◌+◌, ◌*◌, max, unsigned_abs}
use Rattle.std.specs.Ordering.{ordering_then, nat_cmp}
use Rattle.legs.specs.Measure.{MeasureModel}

-- the sum of the squared differences
abbrev pub squared : MeasureModel ℕ
squared = record {
  start = 0;
  after = λ c d. c + unsigned_abs d * unsigned_abs d;
  compare = nat_cmp;
}

-- the largest difference (the peak) and the sum of the differences, all without their signs; the lower peak is the lower
-- cost, and of equal peaks the lower sum
abbrev pub peak_first : MeasureModel (ℕ × ℕ)
peak_first = record {
  start = (0, 0);
  after = λ c d. (max c.0 (unsigned_abs d), c.1 + unsigned_abs d);
  compare = λ a b. ordering_then (nat_cmp a.0 b.0) (nat_cmp a.1 b.1);
}
