use Rattle.std.proofs.lemmas.Result.{err_from_is_err_and}
use Rattle.fault.proofs.Answered.{still_refused}
use Rattle.fault.specs.Refusals.{first_some}
use Rattle.arrayvec.specs.ArrayVec.{array_vec_len}
use Rattle.std.proofs.Common.{◌≡◌, ◌≤◌}
use Rattle.console.specs.Lines.{count_refusal, numbers_refusal, values}
use Rattle.console.specs.Tokens.{end_column, left}
use Rattle.console.proofs.requests.one_number.Goals as goal

pub returns-in_err-found : goal.returns-in_err-found
returns-in_err-found c =
    let ws = left c.args.words.now in
    let p = err_from_is_err_and c.from_residual.result c.from_residual.ensures.1 in
    rw (p.1, p.2)
    (still_refused (first_some (numbers_refusal 1 ws) (count_refusal 1 1 (end_column c.args.words.now) ws)) (λ n. (1 ≤ array_vec_len n) × (n.items ≡ values ws)) _ c.in_err-found.field-0.0 c.in_err-found.ensures)
