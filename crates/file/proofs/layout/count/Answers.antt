use Rattle.file.proofs.Sizes.{count_closed}
use Rattle.file.proofs.layout.count.Goals as goal

pub returns-clause-value : goal.returns-clause-value
returns-clause-value c = let h = c.args.horizon in rw c.stages-n.ensures (count_closed h.stages h.some h.few)
