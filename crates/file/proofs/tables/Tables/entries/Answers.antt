use Rattle.std.proofs.Common.{ℕ, ◌-◌, take, drop, ap, ◌∙◌, arith}
use Rattle.file.specs.Layout.{count, size}
use Rattle.file.specs.Tables.{data_of}
use Rattle.file.proofs.Inside.{part_value}
use Rattle.file.proofs.tables.Tables.entries.Goals as goal

pub returns : goal.returns
returns c =
    let t = c.args.self.now in
    let n = t.horizon.stages in
    let p = c.whole.result in
    part_value (count n) t.entries p.start (p.end - p.start) (size c.args.table n) (omega arith) (omega arith)
    ∙ ap (λ (i : ℕ). take (size c.args.table n) (drop i (data_of t).entries)) c.whole.ensures.start
