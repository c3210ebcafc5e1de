use Rattle.std.proofs.Common.{◌≡◌, ◌∙◌, w32, SFits}
use Rattle.std.proofs.lemmas.Int.{to_z-of_z}
use Rattle.period.proofs.Bounds.{Added, added, within_as, within_sum}
use Rattle.period.proofs.sums.add_product.Goals as goal

both : (c : goal.After-from-2) → Added c.args.sum c.from.result c.from-2.result × (c.from.result ≡ c.args.entry) × (c.from-2.result ≡ c.args.x)
both c =
    let a = c.from.ensures ∙ to_z-of_z w32 c.args.entry c.ranges.entry in
    let b = c.from-2.ensures ∙ to_z-of_z w32 c.args.x c.ranges.x in
    let f : SFits w32 c.from-2.result = rw b c.ranges.x in
    (added c.args.sum c.from.result c.from-2.result f (within_as _ _ _ a c.requires.limited) c.requires.room, a, b)

pub overflow_add-result : goal.overflow_add-result
overflow_add-result c = (both c).0.sum

pub returns : goal.returns
returns c =
    let k = both c in
    record { value = k.0.value ∙ simp (k.1, k.2); bound = λ m h. within_as _ _ _ k.0.value (within_sum c.args.sum _ m _ h k.0.small) }
