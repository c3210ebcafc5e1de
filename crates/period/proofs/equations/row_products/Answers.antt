use Rattle.std.proofs.Common.{arith, rules}
use Rattle.period.proofs.equations.row_products.Goals as goal

pub returns : goal.returns
returns c = record { sized = c.first_rows.ensures.sized; value = λ k h. let is = c.first_rows.ensures.value k (omega arith) in search rules; rest = λ k h. c.first_rows.ensures.rest k (omega arith) }
