use Rattle.std.proofs.Common.{ℕ, List, replicate, arith, ◌+◌, ◌∙◌, ap, subst, drop, ◌++◌, take, get_or-drop}
use Rattle.std.specs.List.{copy_within}
use Rattle.decoder.specs.Guesses.{moved_on}
use Rattle.decoder.specs.Tasks.{Holds}
use Rattle.decoder.proofs.Searching.{all_zero}
use Rattle.decoder.proofs.Starting.{moved_holds}
use Rattle.decoder.proofs.problem.Problem.moved_on.Goals as goal

pub returns-clause-moved : goal.returns-clause-moved
returns-clause-moved g c =
    let n = c.entries-n.result in
    let q = c.args.q.now in
    let z : List ℕ = drop n (replicate 15 0) in
    subst (λ i. Holds i c.copy_within.new.self (moved_on (take i q))) c.entries-n.ensures.is
    (moved_holds n q c.copy_within.new.self z (omega (arith, c.entries-n.ensures.some)) (omega (arith, c.entries-n.ensures.few)) (λ k. get_or-drop n (replicate 15 0) k 0 ∙ all_zero 15 (n + k)) (c.copy_within.ensures.after ∙ ap (λ x. copy_within (x ++ z) 3 n 0) c.copy_from_slice.ensures.after))
