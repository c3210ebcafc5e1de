use Rattle.std.proofs.Common.{◌∙◌, w64, SFits}
use Rattle.std.proofs.lemmas.Int.{to_z-of_z}
use Rattle.period.proofs.Rounding.{down_is, rows as rounding_rows, up_is}
use Rattle.period.proofs.sums.rounded.Goals as goal

pub returns-then-rem_euclid-lt-HALF : goal.returns-then-rem_euclid-lt-HALF
returns-then-rem_euclid-lt-HALF c =
    let fs = c.ranges.sum in
    let fq : SFits w64 c.div_euclid-whole.result = record { sfits = c.div_euclid-whole.type_inv } in
    let fr : SFits w64 c.rem_euclid.result = record { sfits = c.rem_euclid.type_inv } in
    let q = simp to_z-of_z at c.div_euclid-whole.ensures in
    let r = simp to_z-of_z at c.rem_euclid.ensures.value in
    record { value = to_z-of_z w64 _ fq ∙ down_is c.args.sum _ _ q r (simp to_z-of_z at c.if-rem_euclid-lt-HALF.true); rows = rounding_rows }

pub returns-else-rem_euclid-lt-HALF : goal.returns-else-rem_euclid-lt-HALF
returns-else-rem_euclid-lt-HALF c =
    let fs = c.ranges.sum in
    let fr : SFits w64 c.rem_euclid.result = record { sfits = c.rem_euclid.type_inv } in
    let q = simp to_z-of_z at c.div_euclid-whole.ensures in
    let r = simp to_z-of_z at c.rem_euclid.ensures.value in
    record { value = up_is c.args.sum _ _ fs q r (simp to_z-of_z at c.if-rem_euclid-lt-HALF.false); rows = rounding_rows }
