-- One period's equations, in counts: from currents, references and applied levels to the unconstrained entries and the target.
-- Rows, columns and phases are numbered from 0. Later layers go by these names and do not look into them.
use Rattle.std.specs.Prelude.{ℕ, ◌*◌, cond, List, ℤ, pos, ◌-ℤ◌, ◌*ℤ◌, nat_lt, slice_index_or}
use Rattle.file.specs.File.{TableData, entry}
use Rattle.file.specs.declared.layout.Table.{Table}
use Rattle.file.specs.declared.layout.Table.TheVariants.{Weight, Gamma, Upsilon, Unconstrained, Target}
use Rattle.period.specs.Sums.{rounded, sum_to}

-- What a period is given: the currents at its beginning, the references of every stage, and the levels that are applied.
pub record Given : Type 0 where
  pub currents : List ℤ
  pub references : List ℤ
  pub levels : List ℤ

-- e: by how much the currents would miss reference r if nothing switched
unfoldable pub error : TableData → List ℤ → List ℤ → ℕ → ℤ
error d currents references r =
    rounded (sum_to 2 (λ c. entry d Gamma r c *ℤ slice_index_or currents c (pos 0))) -ℤ slice_index_or references r (pos 0)

-- the part of Θ that the errors make
unfoldable pub error_term : TableData → (ℕ → ℤ) → ℕ → ℤ
error_term d e j = rounded (sum_to (2 * d.horizon) (λ r. entry d Upsilon r j *ℤ e r))

-- the part of Θ that the weight on switching makes: it draws the first stage towards the applied levels
unfoldable pub weight_term : TableData → List ℤ → ℕ → ℤ
weight_term d levels j = cond (nat_lt j 3) (entry d Weight 0 0 *ℤ slice_index_or levels j (pos 0)) (pos 0)

-- Θ, the linear part of the cost to be lowered
abbrev pub theta : TableData → (ℕ → ℤ) → List ℤ → ℕ → ℤ
theta d e levels j = error_term d e j -ℤ weight_term d levels j

-- row j of a table times Θ
unfoldable pub row_product : TableData → Table → (ℕ → ℤ) → ℕ → ℤ
row_product d t th j = rounded (sum_to (3 * d.horizon) (λ k. entry d t j k *ℤ th k))

-- one period's Θ
unfoldable pub period_theta : TableData → Given → ℕ → ℤ
period_theta d g = theta d (error d g.currents g.references) g.levels

-- the unconstrained entry j, in counts of a level: what would be best if levels were real numbers
unfoldable pub unconstrained : TableData → Given → ℕ → ℤ
unconstrained d g = row_product d Unconstrained (period_theta d g)

-- the target of row j: the same, in the coordinates of the generator
unfoldable pub target : TableData → Given → ℕ → ℤ
target d g = row_product d Target (period_theta d g)

abbrev pub given : List ℤ → List ℤ → List ℤ → Given
given currents references levels = record { currents = currents; references = references; levels = levels }
