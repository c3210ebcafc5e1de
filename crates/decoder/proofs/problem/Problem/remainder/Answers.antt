use Rattle.std.proofs.Common.{ℤ, ◌-ℤ◌, ap, ◌∙◌, arith}
use Rattle.legs.specs.Measure.{Small}
use Rattle.std.proofs.lemmas.List.{get_or-take}
use Rattle.decoder.specs.Sequences.{left_over, term}
use Rattle.decoder.specs.Tasks.{posed_by}
use Rattle.decoder.proofs.Posed.{sound}
use Rattle.decoder.proofs.Reach.{bounded, left_over_small, left_over_more}
use Rattle.decoder.proofs.Signs.{sub_fits, sub_is}
use Rattle.decoder.proofs.problem.Problem.remainder.Given as given
use Rattle.decoder.proofs.problem.Problem.remainder.Goals as goal

module _ (g : given.Over) (c : goal.After-term-left g) where
  -- what is left so far
  abbrev so_far : ℤ
  so_far = left_over (posed_by g.L.Phases g.M.Measure c.args.self.now) c.args.at.now c.args.j c.loop-k.k

  small : Small so_far
  small = left_over_small (bounded (sound g.met.L.Phases.lawful g.met.M.Measure.lawful c.args.self.now)) c.args.at.now c.args.j c.loop-k.k (omega (arith, c.requires))

pub overflow_sub-left : goal.overflow_sub-left
overflow_sub-left g c = sub_fits _ (so_far g c) c.term-left.result c.loop-k.invariant (small g c) c.term-left.ensures.low

pub loop-k-preserved : goal.loop-k-preserved
loop-k-preserved g c = left_over_more (bounded (sound g.met.L.Phases.lawful g.met.M.Measure.lawful c.args.self.now)) c.args.at.now c.args.j c.loop-k.k _ (sub_is _ (so_far g c) c.term-left.result c.loop-k.invariant (small g c) c.term-left.ensures.low ∙ ap (λ x. so_far g c -ℤ x) (c.term-left.ensures.is ∙ ap (λ p. term (posed_by g.L.Phases g.M.Measure c.args.self.now) c.args.j c.loop-k.k p) (get_or-take c.args.j c.args.at.now c.loop-k.k 0 (omega arith))))
