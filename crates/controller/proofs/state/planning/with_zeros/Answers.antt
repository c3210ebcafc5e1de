use Rattle.std.proofs.lemmas.List.{drop-replicate}
use Rattle.controller.proofs.state.planning.with_zeros.Goals as goal

pub returns : goal.returns
returns c = simp (c.copy_from_slice.ensures.after, drop-replicate)
