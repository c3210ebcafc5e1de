use Rattle.std.proofs.Common.{take_all, rules}
use Rattle.std.proofs.lemmas.List.{take_more}
use Rattle.replay.proofs.Going.{begun, going_on, gone}
use Rattle.replay.proofs.run.Goals as goal

pub loop-call-init : goal.loop-call-init
loop-call-init g c = (search rules, search rules, search rules, begun g.M.Measure.meaning g.A.Leg.model g.B.Leg.model g.C.Leg.model c.new-session.result.controller _ (search rules))

pub loop-call-preserved : goal.loop-call-preserved
loop-call-preserved g c =
    let go = c.loop-call.invariant.3 in
    let asks = take_more c.args.calls.now c.loop-call.call-index _ c.loop-call-test.true in
    (search rules, search rules, search rules, going_on _ _ _ _ _ go c.perform-reply.ensures asks c.push_reserved.ensures.items)

pub returns : goal.returns
returns g c =
    let n = c.new.ensures in
    let e = c.new-session.ensures in
    gone _ _ _ _ c.new-session.result.controller c.loop-call.invariant.3 (cc) (rw e n.identity) (rw e n.book) (take_all _ _ c.loop-call-test.false)
