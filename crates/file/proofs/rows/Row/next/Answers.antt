use Rattle.std.proofs.Common.{◌≡◌, ◌≢◌, ◌+◌, ◌≤◌, ◌∙◌, arith}
use Rattle.file.specs.Layout.{following, rows}
use Rattle.file.specs.declared.layout.Table.TheVariants.{Generator}
use Rattle.file.proofs.Places.{found, last_row, row_below}
use Rattle.file.proofs.Walk.{behind_others, some_row}
use Rattle.file.proofs.rows.Row.next.Goals as goal

pub returns-then-row-rows : goal.returns-then-row-rows
returns-then-row-rows c =
    let s = c.args.self in
    found s s.table (s.row + 1) (rw c.rows.ensures at c.if-row-rows.true) (row_below s) c.of.result c.of.ensures

pub returns-in_err-following : goal.returns-in_err-following
returns-in_err-following c =
    let s = c.args.self in
    let last : rows s.table s.horizon.stages ≤ s.row + 1 = rw c.rows.ensures at c.if-row-rows.false in
    let g : s.table ≡ Generator = c.in_err-following.ensures in
    rw c.from_residual.ensures (last_row s last ∙ rw g)

pub returns : goal.returns
returns c =
    let s = c.args.self in
    let n = s.horizon.stages in
    let t = c.in_ok-following.field-0 in
    let last : rows s.table n ≤ s.row + 1 = rw c.rows.ensures at c.if-row-rows.false in
    let f : (s.table ≢ Generator) × (t ≡ following s.table) = c.in_ok-following.ensures in
    let b = behind_others s.table t n f.0 f.1 in
    found s t 0 (some_row t n s.horizon.some) (omega (arith, b.0, last_row s last)) c.of-2.result c.of-2.ensures
