use Rattle.console.proofs.Gathering.{SoFar}
use Rattle.console.proofs.requests.numbers.Given as goal

abbrev pub invariant-loop-i : goal.invariant-loop-i
invariant-loop-i l = SoFar l.most l.initial.words l.found.items l._i l.words
