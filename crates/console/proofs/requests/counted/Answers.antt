use Rattle.std.proofs.Common.{◌≡◌, drop, None, sym, ap, ◌∙◌, arith}
use Rattle.arrayvec.specs.ArrayVec.{array_vec_len}
use Rattle.fault.proofs.Answered.{granted}
use Rattle.console.specs.Lines.{left_over, numbers_refusal, values}
use Rattle.console.specs.Requests.{NumbersRead}
use Rattle.console.specs.Tokens.{end_column, left}
use Rattle.console.proofs.Gathering.{all_taken, just_right}
use Rattle.console.proofs.requests.counted.Goals as goal

pub returns : goal.returns
returns c =
    let ws = left c.args.words.now in
    let end = end_column c.args.words.now in
    let got = granted (numbers_refusal c.args.most ws) (λ n. NumbersRead c.args.most c.args.words.now n c.numbers.new.words) c.in_ok-found.found c.in_ok-found.ensures in
    let none : left_over (drop c.args.most ws) ≡ None = ap left_over (sym got.1.left_are) ∙ (granted (left_over (left c.numbers.new.words)) (λ _. Unit {0}) c.in_ok-ended.field-0 c.in_ok-ended.ensures).0 in
    let e = just_right c.args.least c.args.most end ws got.0 (array_vec_len c.in_ok-found.found) got.1.count_is (omega (arith, c.len.ensures.value)) none in
    rw e (omega (arith, c.len.ensures.value), got.1.values_are ∙ ap values (all_taken c.args.most ws none))
