use Rattle.std.proofs.Common.{◌≡◌, ◌+◌, ◌-◌, ◌<◌, [], map, ltb, sym, ◌∙◌, arith}
use Rattle.std.specs.List.{range_with_len}
use Rattle.std.proofs.lemmas.Bool.{cond-true, lt-ltb}
use Rattle.file.specs.File.{entry}
use Rattle.file.specs.Layout.{above, ahead, columns, rows}
use Rattle.file.specs.Tables.{data_of}
use Rattle.file.proofs.Inside.{row_bound, row_value}
use Rattle.file.proofs.tables.Tables.row.Goals as goal
use Rattle.file.proofs.tables.Tables.row.Goals.{After-span}

module _ (c : After-span) where
  there : c.args.row < rows c.args.table c.args.self.now.horizon.stages
  there = let q = c.in-Some.ensures in rw (q.0, q.1, q.2) at c.in-Some.row.there

  starts : c.span.result.start ≡ ahead c.args.table c.args.self.now.horizon.stages + above c.args.table c.args.self.now.horizon.stages c.args.row
  starts = let q = c.in-Some.ensures in rw (q.0, q.1, q.2) at c.span.ensures.start

  wide : c.span.result.end - c.span.result.start ≡ columns c.args.table c.args.self.now.horizon.stages c.args.row
  wide = let q = c.in-Some.ensures in let e = rw (q.0, q.1, q.2) at c.span.ensures.end in omega (arith, starts, e)

pub returns-in-Some-clause-value : goal.returns-in-Some-clause-value
returns-in-Some-clause-value c =
    let t = c.args.self.now in
    let n = t.horizon.stages in
    let s = c.args.table in
    let r = c.args.row in
    let at = (goal.at.returns-in-Some-clause-value c).After-span in
    let p = c.span.result in
    row_value t s r p.start (p.end - p.start) (there at) (starts at) (wide at)
    ∙ sym (cond-true (ltb r (rows s n)) (map (entry (data_of t) s r) (range_with_len 0 (columns s n r))) [] (lt-ltb r (rows s n) (there at)))

pub returns-in-Some-clause-bound : goal.returns-in-Some-clause-bound
returns-in-Some-clause-bound c =
    let at = (goal.at.returns-in-Some-clause-bound c).After-span in
    let p = c.span.result in
    row_bound c.args.self.now c.args.table c.args.row p.start (p.end - p.start) (there at) (starts at) (wide at)
