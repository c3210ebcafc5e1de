use Rattle.std.proofs.Common.{◌*◌, get_or, pos, arith, rules}
use Rattle.file.specs.Tables.{data_of}
use Rattle.file.proofs.Written.{sound_data}
use Rattle.period.specs.Equations.{theta}
use Rattle.period.proofs.Fill.{filled_within}
use Rattle.period.proofs.Limits.{theta_within}
use Rattle.period.proofs.equations.thetas.Goals as goal

pub invariant_of-result : goal.invariant_of-result
invariant_of-result c =
    let d = data_of c.args.tables.now in
    let e = c.args.errors.now in
    let u = c.args.levels.now in
    record {
      within = filled_within 15 (3 * d.horizon) 540672 (theta d (λ r. get_or e.values r (pos 0)) u.values) _ (record { sized = c.first_rows.ensures.sized; value = λ k h. let is = c.first_rows.ensures.value k (omega arith) in search rules; rest = λ k h. c.first_rows.ensures.rest k (omega arith) }) (λ j h. theta_within d (sound_data c.args.tables.now) (λ r. get_or e.values r (pos 0)) u.values j h (λ r l. e.within r) u.within);
    }

pub returns : goal.returns
returns c = record { sized = c.first_rows.ensures.sized; value = λ k h. let is = c.first_rows.ensures.value k (omega arith) in search rules; rest = λ k h. c.first_rows.ensures.rest k (omega arith) }
