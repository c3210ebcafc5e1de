use Rattle.std.proofs.Common.{◌≡◌, ◌<◌, length, sym, arith, rules}
use Rattle.legs.specs.Refusals.{level_stands, mask_stands}
use Rattle.legs.proofs.Lowest.{none_fails}
use Rattle.legs.proofs.listed.Listed.new.Goals as goal

pub invariant_of-result : goal.invariant_of-result
invariant_of-result c =
    let ls = c.args.levels.now in
    let ms = c.args.masks.now in
    let e : length ls ≡ length ms = omega arith in
    record {
      sized = search rules;
      full = c.tabled.ensures.full;
      rests = omega arith;
      rising = λ p h. rw c.tabled.ensures.levels (none_fails (level_stands ls) (length ls) (sym c.in_default.ensures) p h);
      holding = λ p h. let k : p < length ms = omega arith in rw (c.tabled.ensures.masks, e) (none_fails (mask_stands (length ms) ms) (length ms) (sym c.in_default-first_bad_mask.ensures) p k);
    }
