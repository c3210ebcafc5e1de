use Rattle.std.proofs.Common.{◌≡◌, pos, ◌+ℤ◌, sym, ap, ◌∙◌, arith, w64, to_z, of_z}
use lib.Ieee.{to_signed}
use Rattle.std.proofs.lemmas.Int.{ints, to_z-of_z}
use Rattle.quantiser.proofs.FarOut.{far_from}
use Rattle.quantiser.proofs.Steps.{counts_from, in_limits, meant_by_real, not_finite, too_far, twice_from}
use Rattle.quantiser.proofs.rounding.real_counts.Goals as goal

pub returns-then-not-is_finite : goal.returns-then-not-is_finite
returns-then-not-is_finite c =
    record {
      outcome = not_finite c.args.x c.args.table _ (sym c.is_finite.ensures.value ∙ c.if-not-is_finite.true) c.into.ensures;
      meaning = meant_by_real c.args.x;
    }

pub returns-then-size : goal.returns-then-size
returns-then-size c =
    let f = sym c.if-not-is_finite.ensures.value in
    record {
      outcome = too_far c.args.x c.args.table _ f (far_from c.args.x c.abs-size.result f c.abs-size.ensures.value c.if-size.true) c.into-then-size.ensures;
      meaning = meant_by_real c.args.x;
    }

pub overflow_add-next : goal.overflow_add-next
overflow_add-next c =
    let h = twice_from c.args.x c.abs-size.result _ c.well_formed.0.1 (sym c.if-not-is_finite.ensures.value) c.abs-size.ensures.value c.if-size.false (c.saturating_f64_to_i64-next.ensures ∙ ap (to_signed 63) c.floor.ensures) in
    omega (arith, ints, h.least, h.most)

pub returns : goal.returns
returns c =
    let z = c.saturating_f64_to_i64-next.result in
    let h = twice_from c.args.x c.abs-size.result z c.well_formed.0.1 (sym c.if-not-is_finite.ensures.value) c.abs-size.ensures.value c.if-size.false (c.saturating_f64_to_i64-next.ensures ∙ ap (to_signed 63) c.floor.ensures) in
    let sum : to_z w64 (of_z w64 (to_z w64 (of_z w64 z) +ℤ pos 1)) ≡ z +ℤ pos 1 = omega (arith, ints, h.least, h.most) in
    let same = to_z-of_z w64 c.div_euclid.result (record { sfits = c.div_euclid.type_inv }) in
    record {
      outcome =
          in_limits c.args.x c.args.table _ _ (sym c.if-not-is_finite.ensures.value) (same ∙ counts_from c.args.x _ z _ h sum c.div_euclid.ensures)
          c.limited_counts.ensures;
      meaning = meant_by_real c.args.x;
    }
