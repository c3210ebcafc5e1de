use Rattle.std.proofs.Common.{arith}
use Rattle.std.proofs.lemmas.Int.{ints}
use Rattle.legs.proofs.Bounds.{sum_bound}
use Rattle.legs.proofs.peak_first.PeakFirstMeasure.after.Goals as goal

-- fourteen differences and one more stay far below 2 ^ 64
pub overflow_add-result : goal.overflow_add-result
overflow_add-result c = record { fits = omega (arith, ints, c.requires.small, sum_bound 14 c.args.cost c.requires.reached) }
