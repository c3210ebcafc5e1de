use Rattle.std.proofs.Common.{arith}
use Rattle.console.proofs.Reading.{seven_digits}
use Rattle.console.proofs.words.reading.unsigned.Goals as goal

pub overflow_mul-v : goal.overflow_mul-v
overflow_mul-v c = omega (arith, seven_digits c.loop-b.v c.loop-b.b-index c.loop-b.invariant.0 (omega arith))

pub overflow_add-v : goal.overflow_add-v
overflow_add-v c = omega (arith, seven_digits c.loop-b.v c.loop-b.b-index c.loop-b.invariant.0 (omega arith), c.in_ok-v.ensures)

pub returns-clause-small : goal.returns-clause-small
returns-clause-small c = seven_digits c.loop-b.v c.loop-b.b-index c.loop-b.invariant.0 (omega arith)
