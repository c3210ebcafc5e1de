-- What is promised of one period.
use Rattle.std.specs.Prelude.{◌≡◌, ℕ, ◌*◌, ◌<◌, length}
use Rattle.file.specs.File.{TableData}
use Rattle.period.specs.Equations.{Given, error, period_theta, target, unconstrained}
use Rattle.period.specs.Sums.{EachWithin, Filled, Within}
use Rattle.period.specs.declared.Period.{Period}

-- everything given is in its range: two references for each of n stages, values of at most 8192 counts in size, levels of legs
pub record Fair (n : ℕ) (g : Given) : Type 0 where
  pub staged : length g.references ≡ 2 * n
  pub currents_small : EachWithin 8192 g.currents
  pub references_small : EachWithin 8192 g.references
  pub levels_small : EachWithin 2 g.levels

-- how large everything on the way can be
pub record Bounded (d : TableData) (g : Given) : Type 0 where
  pub errors : (r : ℕ) → r < 2 * d.horizon → Within 40960 (error d g.currents g.references r)
  pub thetas : (j : ℕ) → j < 3 * d.horizon → Within 540672 (period_theta d g j)
  pub unconstrained_entries : (j : ℕ) → j < 3 * d.horizon → Within 2076180480 (unconstrained d g j)
  pub targets : (j : ℕ) → j < 3 * d.horizon → Within 129761280 (target d g j)

-- a period's numbers are those of the equations, and 0 past the last row; nothing on the way is larger than it may be
pub record Solved (d : TableData) (g : Given) (p : Period) : Type 0 where
  pub unconstrained_is : Filled 15 (3 * d.horizon) (unconstrained d g) p.unconstrained
  pub target_is : Filled 15 (3 * d.horizon) (target d g) p.target
  pub target_small : EachWithin 129761280 p.target
  pub bounded : Bounded d g
