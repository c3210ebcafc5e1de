use Rattle.std.proofs.Common.{◌^◌, ◌<◌, sym, ◌∙◌, arith}
use Rattle.std.proofs.lemmas.Bool.{le-ltb}
use Rattle.legs.specs.Masks.{no_high_bit}
use Rattle.legs.proofs.listed.has_bit.Goals as goal

-- a mask of eight bits has none past them
pub returns-else-k-lt8 : goal.returns-else-k-lt8
returns-else-k-lt8 c =
    let byte : c.args.mask < 2 ^ 8 = omega arith in
    le-ltb c.args.k 8 c.if-k-lt8.false ∙ sym (no_high_bit c.args.mask 8 c.args.k byte c.if-k-lt8.false)
