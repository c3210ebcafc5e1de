use Rattle.std.proofs.Common.{arith}
use Rattle.decoder.proofs.Posed.{sound}
use Rattle.decoder.proofs.Reach.{bounded, left_bits, left_bits_small, row_bits, row_bits_small}
use Rattle.decoder.proofs.problem.Problem.difference_of.Goals as goal

pub difference-requires-clause-small : goal.difference-requires-clause-small
difference-requires-clause-small g c =
    let o = bounded (sound g.met.L.Phases.lawful g.met.M.Measure.lawful c.args.self.now) in
    left_bits_small o c.args.q.now c.args.j (omega (arith, c.requires)) c.remainder.ensures

pub returns : goal.returns
returns g c =
    let o = bounded (sound g.met.L.Phases.lawful g.met.M.Measure.lawful c.args.self.now) in
    let e = left_bits o c.args.q.now c.args.j (omega (arith, c.requires)) c.remainder.ensures in
    record { is = row_bits o c.args.q.now c.args.j c.requires e c.difference.ensures; low = row_bits_small o c.args.q.now c.args.j c.requires e c.difference.ensures }
