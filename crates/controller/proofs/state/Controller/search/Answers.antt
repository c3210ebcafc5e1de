use Rattle.std.proofs.Common.{refl, ap}
use Rattle.std.specs.Option.{option_map}
use Rattle.fault.proofs.Answered.{granted}
use Rattle.file.specs.Tables.{data_of}
use Rattle.period.specs.Inputs.{inputs_refusal}
use Rattle.period.specs.Solved.{Solved}
use Rattle.controller.specs.Problems.{period_given}
use Rattle.controller.specs.View.{book_of, setup_of}
use Rattle.controller.proofs.Posing.{keeps, plan_granted}
use Rattle.controller.proofs.state.Controller.search.Goals as goal

pub returns : goal.returns
returns g c =
    let x = c.args.self.now in
    let s = setup_of g.M.Measure.meaning g.A.Leg.model g.B.Leg.model g.C.Leg.model x in
    let b = book_of x in
    let t = c.in-Some.tables in
    let d = data_of t in
    let i = c.args.currents.now in
    let y = c.args.references.now in
    let got = granted (inputs_refusal d.horizon i y) (Solved d (period_given s b i y)) c.in_ok-period.period c.in_ok-period.ensures in
    let k = c.task-task.ensures in
    let q = c.new.ensures in
    plan_granted s b d i y (option_map data_of x.tables) _ (ap (option_map data_of) c.in-Some.is) got.0
    (keeps s b d i y {memory = x.remembered} {p = c.in_ok-period.period} {k = c.task-task.result} c.decode-answer.result _
    (record {
      few = t.horizon.few;
      loaded = ap (option_map data_of) c.in-Some.is;
      kept_in_mind = refl;
      stages = k.stages;
      applied = k.applied;
      triangle = k.triangle;
      target_is = k.rows.0;
      unconstrained_is = k.rows.1;
      remembered = k.remembered;
      solved = got.1;
    })
    c.decode-answer.ensures.defined c.decode-answer.ensures.promised q.entries q.len refl refl refl x.stands)
