use Rattle.decoder.proofs.Choice.{choice_stands}
use Rattle.decoder.proofs.Enumerate.{listing_stands}
use Rattle.decoder.proofs.Promised.{answer_stands}
use Rattle.decoder.proofs.Reach.{differences_small}
use Rattle.decoder.proofs.Starts.{start_stands}
use Rattle.decoder.proofs.theorems.definitions_stand.Goals as goal

pub returns : goal.returns
returns g c = record { listing = listing_stands _; start = start_stands _; choice = choice_stands _; answer = answer_stands _; differences = differences_small _ }
