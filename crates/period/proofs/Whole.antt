-- The equations, one after the other, through the arrays that hold their values.
use Rattle.std.proofs.Common.{◌≡◌, ℕ, ◌*◌, ◌<◌, List, get_or, ℤ, pos, ◌-ℤ◌, ◌*ℤ◌, ap}
use Rattle.file.specs.File.{Sound, TableData, entry}
use Rattle.file.specs.declared.layout.Table.{Table}
use Rattle.file.specs.declared.layout.Table.TheVariants.{Upsilon, Unconstrained, Target}
use Rattle.period.specs.Equations.{Given, error, error_term, period_theta, row_product, target, theta, unconstrained, weight_term}
use Rattle.period.specs.Solved.{Fair, Solved}
use Rattle.period.specs.Sums.{Filled, rounded}
use Rattle.period.specs.declared.Period.{Period}
use Rattle.period.proofs.Bounds.{sum_to_same}
use Rattle.period.proofs.Fill.{filled_as, filled_within}
use Rattle.period.proofs.Limits.{bounded}

-- the equations ask only for the rows that there are
theta_same : (d : TableData) (e f : ℕ → ℤ) (u : List ℤ) (j : ℕ) → ((r : ℕ) → r < 2 * d.horizon → e r ≡ f r) → theta d e u j ≡ theta d f u j
unfolding error_term
theta_same d e f u j h =
    ap (λ z. rounded z -ℤ weight_term d u j)
    (sum_to_same (λ r. entry d Upsilon r j *ℤ e r) (λ r. entry d Upsilon r j *ℤ f r) (2 * d.horizon) (λ r l. ap (λ z. entry d Upsilon r j *ℤ z) (h r l)))

row_product_same : (d : TableData) (t : Table) (e f : ℕ → ℤ) (j : ℕ) → ((k : ℕ) → k < 3 * d.horizon → e k ≡ f k) → row_product d t e j ≡ row_product d t f j
unfolding row_product
row_product_same d t e f j h =
    ap rounded (sum_to_same (λ k. entry d t j k *ℤ e k) (λ k. entry d t j k *ℤ f k) (3 * d.horizon) (λ k l. ap (λ z. entry d t j k *ℤ z) (h k l)))

module _ (d : TableData) (s : Sound d) (g : Given) (fair : Fair d.horizon g) (es : List ℤ) (errors : Filled 10 (2 * d.horizon) (error d g.currents g.references) es) where
  module _ (ts : List ℤ) (thetas : Filled 15 (3 * d.horizon) (theta d (λ r. get_or es r (pos 0)) g.levels) ts) where
    thetas_are : Filled 15 (3 * d.horizon) (period_theta d g) ts
    unfolding period_theta
    thetas_are = filled_as 15 (3 * d.horizon) _ _ ts (λ j h. theta_same d (λ r. get_or es r (pos 0)) (error d g.currents g.references) g.levels j errors.value) thetas

    products_are : (t : Table) (zs : List ℤ) → Filled 15 (3 * d.horizon) (row_product d t (λ k. get_or ts k (pos 0))) zs → Filled 15 (3 * d.horizon) (row_product d t (period_theta d g)) zs
    products_are t zs p = filled_as 15 (3 * d.horizon) _ _ zs (λ j h. row_product_same d t (λ k. get_or ts k (pos 0)) (period_theta d g) j thetas_are.value) p

    pub all_solved : (p : Period) → Filled 15 (3 * d.horizon) (row_product d Unconstrained (λ k. get_or ts k (pos 0))) p.unconstrained → Filled 15 (3 * d.horizon) (row_product d Target (λ k. get_or ts k (pos 0))) p.target → Solved d g p
    unfolding unconstrained target
    all_solved p u t =
        let b = bounded d s g fair in
        let aim = products_are Target p.target t in
        record {
          unconstrained_is = products_are Unconstrained p.unconstrained u;
          target_is = aim;
          target_small = filled_within 15 (3 * d.horizon) 129761280 _ p.target aim b.targets;
          bounded = b;
        }
