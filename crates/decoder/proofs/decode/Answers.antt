use Rattle.decoder.proofs.Posed.{sound}
use Rattle.decoder.proofs.Promised.{decoded, promised}
use Rattle.decoder.proofs.decode.Goals as goal

pub returns-clause-defined : goal.returns-clause-defined
returns-clause-defined g c pl = decoded (sound g.met.L.Phases.lawful g.met.M.Measure.lawful (record { legs = c.args.legs; measure = c.args.measure; task = c.args.task })) pl _ _ _ _ _ c.search_from.ensures.computed

pub returns-clause-promised : goal.returns-clause-promised
returns-clause-promised g c pl =
    let o = sound g.met.L.Phases.lawful g.met.M.Measure.lawful (record { legs = c.args.legs; measure = c.args.measure; task = c.args.task }) in
    promised o (decoded o pl _ _ _ _ _ c.search_from.ensures.computed)
