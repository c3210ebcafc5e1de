use Rattle.std.proofs.lemmas.Result.{err_from_is_err_and}
use Rattle.console.proofs.Taking.{plan_refused}
use Rattle.console.proofs.state.Console.plan_and_spend.Goals as goal

pub returns-in_err-order-clause-done : goal.returns-in_err-order-clause-done
returns-in_err-order-clause-done c =
    let p = err_from_is_err_and c.from_residual.result c.from_residual.ensures.1 in
    rw (p.1, p.2) (plan_refused c.args.self.now.file.now c.args.how c.args.numbers.now c.args.self.now.controller c.plan.new.ctl c.in_err-order.field-0.0 c.in_err-order.ensures.0)
