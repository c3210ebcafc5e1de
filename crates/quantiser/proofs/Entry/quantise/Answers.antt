use Rattle.quantiser.proofs.Entry.quantise.Goals as goal

pub returns-in-Real-clause-outcome : goal.returns-in-Real-clause-outcome
returns-in-Real-clause-outcome c = rw c.in-Real.is c.real_counts.ensures.outcome
