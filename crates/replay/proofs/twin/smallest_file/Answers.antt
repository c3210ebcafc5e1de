use Rattle.std.proofs.Common.{refl}
use Rattle.file.specs.Layout.{cells}
use Rattle.replay.proofs.twin.smallest_file.Goals as goal

pub returns : goal.returns
unfolding cells
returns c = record { taken = refl; stage = refl }
