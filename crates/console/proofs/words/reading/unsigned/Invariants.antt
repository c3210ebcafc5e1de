use Rattle.std.proofs.Common.{◌≡◌, ◌^◌, ◌<◌, drop}
use Rattle.console.specs.Words.{digits_after}
use Rattle.console.proofs.words.reading.unsigned.Given as goal

abbrev pub invariant-loop-b : goal.invariant-loop-b
invariant-loop-b l = (l.v < 10 ^ l.b-index) × (digits_after l.v (drop l.b-index l.digits) ≡ digits_after 0 l.digits)
