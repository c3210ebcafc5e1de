use Rattle.std.proofs.Common.{get_or, take, drop, pos, sym, refl, ap, ◌∙◌, subst, w32, SFits, rules}
use Rattle.std.proofs.lemmas.Result.{err_from_is_err_and}
use Rattle.std.proofs.lemmas.Int.{to_z-of_z}
use Rattle.controller.specs.declared.calls.Call.TheVariants.{Plan}
use Rattle.console.specs.Ready.{Took, granted_with}
use Rattle.console.specs.Turns.{lent}
use Rattle.console.proofs.Taking.{as_read, numbers_took}
use Rattle.console.proofs.state.calls.plan.Goals as goal

pub returns-in_err-order : goal.returns-in_err-order
returns-in_err-order c =
    let vs = c.args.numbers.now in
    let f0 : SFits w32 (get_or vs 0 (pos 0)) = search rules in
    let f1 : SFits w32 (get_or vs 1 (pos 0)) = search rules in
    let k = c.in_err-order.ensures.plans in
    let t = numbers_took vs c.args.ctl.now c.plan.new.self _ _ _ _ c.requires.some c.requires.ready.own (to_z-of_z w32 _ f0) (to_z-of_z w32 _ f1) refl k in
    let p = err_from_is_err_and c.from_residual.result c.from_residual.ensures.1 in
    rw (p.1, p.2) (t, ap (λ x. x.pending) k.untouched ∙ c.requires.ready.idle)

pub returns : goal.returns
returns c =
    let vs = c.args.numbers.now in
    let f0 : SFits w32 (get_or vs 0 (pos 0)) = search rules in
    let f1 : SFits w32 (get_or vs 1 (pos 0)) = search rules in
    let k = c.in_ok-order.ensures in
    let d = c.plan.new.self in
    let t = numbers_took vs c.args.ctl.now d _ _ _ _ c.requires.some c.requires.ready.own (to_z-of_z w32 _ f0) (to_z-of_z w32 _ f1) refl k.plans in
    let read = as_read d.plan ∙ ap granted_with (sym c.reading.ensures) in
    (subst (λ r. Took c.args.ctl.now (Plan (take 2 vs) (lent (drop 2 vs))) r d) read t, k.bears.1, k.bears.0 ∙ sym k.plans.same.identity)
