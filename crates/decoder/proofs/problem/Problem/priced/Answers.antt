use Rattle.std.proofs.Common.{arith}
use Rattle.decoder.proofs.Posed.{sound}
use Rattle.decoder.proofs.Reach.{reached_to}
use Rattle.decoder.proofs.problem.Problem.priced.Goals as goal

pub after-cost-requires-clause-reached : goal.after-cost-requires-clause-reached
after-cost-requires-clause-reached g c =
    let o = sound g.met.L.Phases.lawful g.met.M.Measure.lawful c.args.self.now in
    reached_to o 14 c.args.sequence c.loop-j.j (omega (arith, c.entries-j-end.ensures.few)) (omega arith) c.loop-j.cost c.loop-j.invariant
