use Rattle.std.proofs.Common.{◌≡◌, ◌*◌, ◌^◌, get_or, pos, ◌*ℤ◌}
use Rattle.file.specs.File.{entry}
use Rattle.file.specs.Tables.{data_of}
use Rattle.file.specs.declared.layout.Table.TheVariants.{Upsilon}
use Rattle.period.specs.Sums.{Within, sum_to}
use Rattle.period.proofs.equations.error_term.Given as goal

abbrev pub invariant-loop-r : goal.invariant-loop-r
invariant-loop-r l = (l.sum ≡ sum_to l.r (λ r. entry (data_of l.tables) Upsilon r l.j *ℤ get_or l.errors.values r (pos 0))) × Within (l.r * 2 ^ 51) l.sum
