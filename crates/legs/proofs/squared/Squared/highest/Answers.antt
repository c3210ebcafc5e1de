use Rattle.std.proofs.Common.{lit<}
use Rattle.legs.proofs.Bounds.{squared_bound, squared_reached}
use Rattle.legs.proofs.squared.Squared.highest.Goals as goal

pub returns : goal.returns
returns c = record { reached = squared_reached; highest = squared_bound 15; below = lit< tt }
