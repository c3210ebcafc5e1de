use Rattle.std.proofs.Common.{◌≡◌, ◌*◌, nat_abs, ap, arith}
use Rattle.std.proofs.lemmas.Int.{ints}
use Rattle.legs.proofs.Bounds.{square_small, squared_bound}
use Rattle.legs.proofs.squared.SquaredMeasure.after.Goals as goal

-- fourteen squares and one more stay far below 2 ^ 64
pub overflow_add-result : goal.overflow_add-result
overflow_add-result c =
    let size : c.unsigned_abs-size.result ≡ nat_abs c.args.difference = omega (arith, ints) in
    record { fits = omega (arith, squared_bound 14 c.args.cost c.requires.reached, square_small c.args.difference c.requires.small, ap (λ x. x * x) size) }
