use Rattle.std.proofs.Common.{◌^◌, get_or, pos, arith}
use Rattle.file.specs.Tables.{data_of}
use Rattle.file.proofs.Written.{sound_data}
use Rattle.period.specs.Sums.{Within}
use Rattle.period.proofs.Bounds.{difference_fits, difference_is}
use Rattle.period.proofs.Limits.{error_term_within, weight_term_within}
use Rattle.period.proofs.equations.theta.Goals as goal

-- both parts are small
parts : (c : goal.After-weight_term) → Within (2 ^ 29) c.error_term.result × Within (2 ^ 29) c.weight_term.result
parts c =
    let t = c.args.tables.now in
    let a : Within 409600 c.error_term.result = rw c.error_term.ensures (error_term_within (data_of t) (sound_data t) (λ r. get_or c.args.errors.now.values r (pos 0)) c.args.j c.requires (λ r h. c.args.errors.now.within r)) in
    let b : Within 131072 c.weight_term.result = rw c.weight_term.ensures (weight_term_within (data_of t) (sound_data t) c.args.levels.now.values c.args.j c.args.levels.now.within) in
    (omega arith, omega arith)

pub overflow_sub-result : goal.overflow_sub-result
overflow_sub-result c = difference_fits c.error_term.result c.weight_term.result (parts c).0 (parts c).1

pub returns : goal.returns
returns c =
    let a = c.error_term.ensures in
    let b = c.weight_term.ensures in
    let e = difference_is c.error_term.result c.weight_term.result (parts c).0 (parts c).1 in
    cc
