use Rattle.std.proofs.Common.{◌≡◌, length, get_or, pos, ap, ◌∙◌, arith, w32, rules}
use Rattle.std.proofs.lemmas.Int.{to_z-of_z}
use Rattle.file.specs.Tables.{data_of}
use Rattle.period.specs.Equations.{row_product}
use Rattle.period.specs.Sums.{rounded}
use Rattle.period.proofs.Limits.{limited_wide}
use Rattle.period.proofs.RowSums.{row_length, row_sum}
use Rattle.period.proofs.equations.row_product.Goals as goal

pub rounded_dot-requires : goal.rounded_dot-requires
rounded_dot-requires c =
    let t = c.args.tables.now in
    let few = t.horizon.few in
    let long : length c.row.result.now ≡ _ = row_length (data_of t) c.args.table c.args.j c.row.result.now c.row.ensures.value c.requires.row ∙ c.requires.columns in
    record {
      few = omega arith;
      enough = search rules;
      limited = λ k h. limited_wide c.args.table _ (c.row.ensures.bound k h);
      small = λ k h. c.args.thetas.now.within k;
    }

pub returns : goal.returns
unfolding row_product
returns c =
    let t = c.args.tables.now in
    to_z-of_z w32 c.rounded_dot.result (record { sfits = c.rounded_dot.type_inv }) ∙ c.rounded_dot.ensures
    ∙ ap rounded (row_sum (data_of t) c.args.table c.args.j c.row.result.now c.row.ensures.value c.requires.row (λ k. get_or c.args.thetas.now.values k (pos 0)) _ c.requires.columns)
