use Rattle.std.proofs.Common.{◌*◌, arith, rules}
use Rattle.file.specs.Tables.{data_of}
use Rattle.file.proofs.Written.{sound_data}
use Rattle.period.specs.Equations.{error}
use Rattle.period.proofs.Fill.{filled_within}
use Rattle.period.proofs.Limits.{error_within}
use Rattle.period.proofs.equations.errors.Goals as goal

pub invariant_of-result : goal.invariant_of-result
invariant_of-result c =
    let i = c.args.inputs.now in
    let d = data_of i.tables.now in
    record {
      within = filled_within 10 (2 * d.horizon) 40960 (error d i.currents.now i.references.now) _ (record { sized = c.first_rows.ensures.sized; value = λ k h. let is = c.first_rows.ensures.value k (omega arith) in search rules; rest = λ k h. c.first_rows.ensures.rest k (omega arith) }) (λ r h. error_within d (sound_data i.tables.now) i.currents.now i.references.now r h i.currents_small i.references_small);
    }

pub returns : goal.returns
returns c = record { sized = c.first_rows.ensures.sized; value = λ k h. let is = c.first_rows.ensures.value k (omega arith) in search rules; rest = λ k h. c.first_rows.ensures.rest k (omega arith) }
