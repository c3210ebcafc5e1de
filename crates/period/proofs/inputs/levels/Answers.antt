use Rattle.period.proofs.Levels.{level_is, three_small}
use Rattle.period.proofs.inputs.levels.Goals as goal

pub invariant_of-result : goal.invariant_of-result
invariant_of-result g c =
    let law = g.met.L.Phases.lawful c.args.legs.now in
    record { within = three_small _ _ _ (level_is law 0 c.level.ensures c.from.ensures).1 (level_is law 1 c.level-2.ensures c.from-2.ensures).1 (level_is law 2 c.level-3.ensures c.from-3.ensures).1 }
