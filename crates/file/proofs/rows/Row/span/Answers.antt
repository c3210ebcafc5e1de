use Rattle.std.proofs.Common.{arith}
use Rattle.file.proofs.Inside.{row_inside}
use Rattle.file.proofs.rows.Row.span.Goals as goal

pub overflow_add-start : goal.overflow_add-start
overflow_add-start c = omega (arith, row_inside c.args.self)

pub overflow_add-result : goal.overflow_add-result
overflow_add-result c = omega (arith, row_inside c.args.self)

pub returns-clause-inside : goal.returns-clause-inside
returns-clause-inside c = omega (arith, row_inside c.args.self)

pub returns-clause-bound : goal.returns-clause-bound
returns-clause-bound c = omega (arith, row_inside c.args.self)
