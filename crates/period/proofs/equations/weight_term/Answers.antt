use Rattle.std.proofs.Common.{get_or, pos, sym, ◌∙◌, arith}
use Rattle.std.proofs.lemmas.Int.{ints}
use Rattle.std.proofs.lemmas.Bool.{cond-false, cond-true, le-ltb, lt-ltb}
use Rattle.period.specs.Equations.{weight_term}
use Rattle.period.proofs.Bounds.{level_product_is}
use Rattle.period.proofs.equations.weight_term.Goals as goal

pub returns-then-j-lt3 : goal.returns-then-j-lt3
unfolding weight_term
returns-then-j-lt3 c =
    level_product_is c.weight.result (get_or c.args.levels.now.values c.args.j (pos 0)) (omega (arith, ints, c.weight.ensures.bound)) (c.args.levels.now.within c.args.j)
    ∙ simp c.weight.ensures.value (sym (cond-true _ _ _ (lt-ltb c.args.j 3 c.if-j-lt3.true)))

pub returns-else-j-lt3 : goal.returns-else-j-lt3
unfolding weight_term
returns-else-j-lt3 c = sym (cond-false _ _ _ (le-ltb c.args.j 3 c.if-j-lt3.false))
