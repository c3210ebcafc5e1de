use Rattle.std.proofs.Common.{◌≡◌, ◌+◌, IfSome, Option, ap, ◌∙◌, subst, arith, w32, rules}
use Rattle.std.proofs.lemmas.Result.{err_from_is_err_and}
use Rattle.std.proofs.lemmas.Int.{to_z-of_z}
use Rattle.fault.proofs.Answered.{granted}
use Rattle.file.specs.declared.rows.Row.{Row}
use Rattle.file.proofs.Reading.{broken, complete, reached, reading_more}
use Rattle.file.proofs.Sizes.{count_bound}
use Rattle.file.proofs.tables.reading.Sheet.entries.Goals as goal
use Rattle.file.proofs.tables.reading.Sheet.entries.Goals.{In-Some}

planned : (c : In-Some) → c.in-Some.row.horizon.stages ≡ c.args.self.horizon.stages
planned c = ap (λ h. h.stages) (subst (λ (o : Option Row). IfSome o (λ r. r.horizon ≡ c.args.self.horizon)) c.in-Some.is c.loop-next.invariant.0)

pub returns-in_err-entries : goal.returns-in_err-entries
returns-in_err-entries c =
    let p = err_from_is_err_and c.from_residual.result c.from_residual.ensures.1 in
    rw (p.1, p.2)
    (broken _ _ _ c.in-Some.row _ _ (c.span-start.result.start + c.loop-column.column) _ _ (planned (goal.at.returns-in_err-entries c).In-Some) (search rules) (search rules) (search rules) (search rules) c.cell.ensures c.loop-column.invariant _ _ _ c.in_err-entries.ensures)

pub loop-column-preserved : goal.loop-column-preserved
loop-column-preserved c =
    let h = c.args.self.horizon in
    let got = granted _ _ c.in_ok-entries.field-0 c.in_ok-entries.ensures in
    reading_more _ _ _ c.in-Some.row _ _ _ _ _ (planned (goal.at.loop-column-preserved c).In-Some) (search rules) (search rules) (search rules) (search rules) c.cell.ensures c.loop-column.invariant _ _
    (count_bound h.stages h.some h.few) got.0 (to_z-of_z w32 c.in_ok-entries.field-0 (search rules) ∙ got.1) (omega arith)

pub returns : goal.returns
returns c = complete _ _ _ _ (ap (reached c.args.self.horizon.stages) c.in_default.is) c.loop-next.invariant.1
