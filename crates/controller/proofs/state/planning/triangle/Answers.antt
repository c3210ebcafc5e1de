use Rattle.std.proofs.Common.{ap, ◌∙◌}
use Rattle.file.specs.File.{table_reading}
use Rattle.file.specs.Tables.{data_of}
use Rattle.file.specs.declared.layout.Table.TheVariants.{Generator}
use Rattle.controller.specs.Problems.{padded}
use Rattle.controller.proofs.Generators.{generator_fits, generator_within}
use Rattle.controller.proofs.Padding.{padded_length, padded_within}
use Rattle.controller.proofs.state.planning.triangle.Goals as goal

pub with_zeros-requires : goal.with_zeros-requires
with_zeros-requires c = rw c.entries.ensures (generator_fits c.args.tables.now)

pub returns : goal.returns
returns c =
    let t = c.args.tables.now in
    let part = table_reading (data_of t) Generator in
    let is = c.with_zeros.ensures ∙ ap (padded 120) c.entries.ensures in
    record {
      value = is;
      bound = rw is (padded_within 120 1048576 part (generator_within t));
      long = rw is (padded_length 120 part (generator_fits t));
    }
