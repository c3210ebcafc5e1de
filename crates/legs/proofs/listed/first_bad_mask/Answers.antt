use Rattle.std.proofs.Common.{◌≡◌, length, true, false, rules}
use Rattle.std.proofs.lemmas.Iterator.{first_from_Range}
use Rattle.legs.specs.Refusals.{mask_stands}
use Rattle.legs.proofs.Lowest.{searched}
use Rattle.legs.proofs.listed.first_bad_mask.Goals as goal

pub returns : goal.returns
returns c =
    let stands = mask_stands (length c.args.masks.now) c.args.masks.now in
    searched stands _ c.find.result
    (first_from_Range _ _ _ c.find.result (λ k. stands k ≡ false) (λ k. stands k ≡ true) c.find.ensures.ran (λ x q h. search rules) (λ x q h. search rules))
