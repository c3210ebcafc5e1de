use Rattle.file.proofs.Sizes.{ahead_upsilon, ahead_unconstrained, ahead_target, ahead_generator}
use Rattle.file.proofs.layout.Table.ahead.Goals as goal

pub returns-in-Upsilon : goal.returns-in-Upsilon
returns-in-Upsilon c =
    rw (c.in-Upsilon.is, c.stages-n.ensures) (ahead_upsilon c.args.horizon.stages c.args.horizon.some c.args.horizon.few)

pub returns-in-Unconstrained : goal.returns-in-Unconstrained
returns-in-Unconstrained c =
    rw (c.in-Unconstrained.is, c.stages-n.ensures) (ahead_unconstrained c.args.horizon.stages c.args.horizon.some c.args.horizon.few)

pub returns-in-Target : goal.returns-in-Target
returns-in-Target c =
    rw (c.in-Target.is, c.stages-n.ensures) (ahead_target c.args.horizon.stages c.args.horizon.some c.args.horizon.few)

pub returns-in-Generator : goal.returns-in-Generator
returns-in-Generator c =
    rw (c.in-Generator.is, c.stages-n.ensures) (ahead_generator c.args.horizon.stages c.args.horizon.some c.args.horizon.few)
