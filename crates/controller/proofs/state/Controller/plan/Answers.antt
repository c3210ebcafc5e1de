use Rattle.controller.specs.View.{book_of, setup_of}
use Rattle.controller.proofs.Standing.{entered_stands}
use Rattle.controller.proofs.state.Controller.plan.Goals as goal

pub invariant_of-self-clause-stands : goal.invariant_of-self-clause-stands
invariant_of-self-clause-stands g c =
    let x = c.args.self.now in
    let s = setup_of g.M.Measure.meaning g.A.Leg.model g.B.Leg.model g.C.Leg.model x in
    entered_stands s (book_of x) c.args.currents c.args.references.now c.in_ok-plan.plan x.stands c.in_ok-plan.ensures
