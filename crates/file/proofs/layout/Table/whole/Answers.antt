use Rattle.std.proofs.Common.{arith}
use Rattle.file.proofs.Sizes.{count_bound}
use Rattle.file.proofs.Walk.{behind_others}
use Rattle.file.proofs.layout.Table.whole.Goals as goal

pub returns-in-Some : goal.returns-in-Some
returns-in-Some c =
    let h = c.args.horizon in
    let f = c.in-Some.ensures in
    let b = behind_others c.args.self c.in-Some.next h.stages f.0 f.1 in
    let m = count_bound h.stages h.some h.few in
    record { start = c.ahead-start.ensures; end = omega arith; inside = omega arith; bound = omega arith }
