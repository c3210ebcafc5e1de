use Rattle.legs.proofs.Bounds.{peak_bound, peak_first_reached, sum_bound}
use Rattle.legs.proofs.peak_first.PeakFirst.highest.Goals as goal

pub returns : goal.returns
returns c = record { reached = peak_first_reached; peak = peak_bound 15; sum = sum_bound 15 }
