use Rattle.std.proofs.Common.{Some, None, Ok, refl, subst}
use Rattle.std.proofs.lemmas.Result.{err_from_is_err_and}
use Rattle.fault.specs.Refusals.{Answers}
use Rattle.controller.specs.View.{book_of}
use Rattle.controller.specs.declared.calls.Reply.TheVariants.{Denied}
use Rattle.console.specs.Lines.{asked, line_refusal}
use Rattle.console.specs.Ready.{granted_with}
use Rattle.console.specs.Requests.{MeansMaybe}
use Rattle.console.specs.Said.{Responds}
use Rattle.console.specs.Texts.{reply_text}
use Rattle.console.specs.Turns.{Turn}
use Rattle.console.specs.Words.{words}
use Rattle.console.proofs.Responding.{asked_whole, carried_out, left_alone, turned, turned_down}
use Rattle.console.proofs.state.Console.respond.Goals as goal
use Rattle.console.proofs.state.Console.respond.Goals.{In_default, In_err-plan, In_ok-plan}

pub returns-in_err-request : goal.returns-in_err-request
returns-in_err-request c =
    let line = c.args.line.now in
    let before = c.args.self.now in
    let p = err_from_is_err_and c.from_residual.result c.from_residual.ensures.1 in
    let refused = turned_down before.file.now before.controller (line_refusal line) (asked (words line)) c.in_err-request.field-0.0 c.in_err-request.ensures in
    rw (p.1, p.2) (record { responds = refused; turn = turned before.file.now before.controller (line_refusal line) (asked (words line)) _ _ refused; file = refl })

pub perform-requires : goal.perform-requires
perform-requires c =
    let line = c.args.line.now in
    asked_whole (line_refusal line) (asked (words line)) c.in-Some.request (subst (λ x. Answers (line_refusal line) (λ q. MeansMaybe q (asked (words line))) (Ok x)) c.in-Some.is c.in_ok-request.ensures)

-- nothing is asked for
idle : (c : In_default) → Responds (line_refusal c.args.line.now) (asked (words c.args.line.now)) c.args.self.now.file.now c.args.self.now.controller None c.args.self.now.controller
idle c =
    let line = c.args.line.now in
    left_alone c.args.self.now.file.now c.args.self.now.controller (line_refusal line) (asked (words line))
    (subst (λ x. Answers (line_refusal line) (λ q. MeansMaybe q (asked (words line))) (Ok x)) c.in_default.is c.in_ok-request.ensures)

pub returns-in_default-clause-responds : goal.returns-in_default-clause-responds
returns-in_default-clause-responds c = idle c

pub returns-in_default-clause-turn : goal.returns-in_default-clause-turn
returns-in_default-clause-turn c = turned c.args.self.now.file.now c.args.self.now.controller _ _ None c.args.self.now.controller (idle c)

-- what is asked for is refused
denied : (c : In_err-plan) → Responds (line_refusal c.args.line.now) (asked (words c.args.line.now)) c.args.self.now.file.now c.args.self.now.controller (Some (Denied c.in_err-plan.field-0.0)) c.perform.new.self.controller
denied c =
    let line = c.args.line.now in
    carried_out c.args.self.now.file.now c.args.self.now.controller (line_refusal line) (asked (words line)) c.in-Some.request c.perform.new.self.controller (Denied c.in_err-plan.field-0.0)
    (subst (λ x. Answers (line_refusal line) (λ q. MeansMaybe q (asked (words line))) (Ok x)) c.in-Some.is c.in_ok-request.ensures) c.in_err-plan.ensures.done

pub returns-in_err-plan-clause-responds : goal.returns-in_err-plan-clause-responds
returns-in_err-plan-clause-responds c =
    let p = err_from_is_err_and c.from_residual-in_err-plan.result c.from_residual-in_err-plan.ensures.1 in
    rw (p.1, p.2) (denied (goal.at.returns-in_err-plan-clause-responds c).In_err-plan)

pub returns-in_err-plan-clause-turn : goal.returns-in_err-plan-clause-turn
returns-in_err-plan-clause-turn c =
    let p = err_from_is_err_and c.from_residual-in_err-plan.result c.from_residual-in_err-plan.ensures.1 in
    rw (p.1, p.2) (turned c.args.self.now.file.now c.args.self.now.controller _ _ (Some (Denied c.in_err-plan.field-0.0)) c.perform.new.self.controller (denied (goal.at.returns-in_err-plan-clause-turn c).In_err-plan))

-- what is asked for is done, whatever plan there is
done : (c : In_ok-plan) → Responds (line_refusal c.args.line.now) (asked (words c.args.line.now)) c.args.self.now.file.now c.args.self.now.controller (Some (granted_with c.in_ok-plan.field-0)) c.perform.new.self.controller
done c =
    let line = c.args.line.now in
    carried_out c.args.self.now.file.now c.args.self.now.controller (line_refusal line) (asked (words line)) c.in-Some.request c.perform.new.self.controller (granted_with c.in_ok-plan.field-0)
    (subst (λ x. Answers (line_refusal line) (λ q. MeansMaybe q (asked (words line))) (Ok x)) c.in-Some.is c.in_ok-request.ensures) c.in_ok-plan.ensures.done

text : (c : In_ok-plan) → Turn (line_refusal c.args.line.now) (asked (words c.args.line.now)) c.args.self.now.file.now (book_of c.args.self.now.controller) (reply_text (granted_with c.in_ok-plan.field-0)) (book_of c.perform.new.self.controller)
text c = turned c.args.self.now.file.now c.args.self.now.controller _ _ (Some (granted_with c.in_ok-plan.field-0)) c.perform.new.self.controller (done c)

pub returns-in-Some-2-clause-responds : goal.returns-in-Some-2-clause-responds
returns-in-Some-2-clause-responds c =
    subst (λ x. Responds (line_refusal c.args.line.now) (asked (words c.args.line.now)) c.args.self.now.file.now c.args.self.now.controller (Some (granted_with x)) c.perform.new.self.controller) c.in-Some-2.is (done (goal.at.returns-in-Some-2-clause-responds c).In_ok-plan)

pub returns-in-Some-2-clause-turn : goal.returns-in-Some-2-clause-turn
returns-in-Some-2-clause-turn c =
    subst (λ x. Turn (line_refusal c.args.line.now) (asked (words c.args.line.now)) c.args.self.now.file.now (book_of c.args.self.now.controller) (reply_text (granted_with x)) (book_of c.perform.new.self.controller)) c.in-Some-2.is (text (goal.at.returns-in-Some-2-clause-turn c).In_ok-plan)

pub returns-in-None-clause-responds : goal.returns-in-None-clause-responds
returns-in-None-clause-responds c =
    subst (λ x. Responds (line_refusal c.args.line.now) (asked (words c.args.line.now)) c.args.self.now.file.now c.args.self.now.controller (Some (granted_with x)) c.perform.new.self.controller) c.in-None.is (done (goal.at.returns-in-None-clause-responds c).In_ok-plan)

pub returns-in-None-clause-turn : goal.returns-in-None-clause-turn
returns-in-None-clause-turn c =
    subst (λ x. Turn (line_refusal c.args.line.now) (asked (words c.args.line.now)) c.args.self.now.file.now (book_of c.args.self.now.controller) (reply_text (granted_with x)) (book_of c.perform.new.self.controller)) c.in-None.is (text (goal.at.returns-in-None-clause-turn c).In_ok-plan)
