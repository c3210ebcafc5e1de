-- How large the numbers of a period are, from the limits of the tables.
use Rattle.std.proofs.Common.{ℕ, ◌*◌, ◌<◌, Bool, true, false, cond, ltb, List, get_or, ℤ, pos, ◌*ℤ◌, zero-le, arith, lit≤}
use Rattle.std.proofs.lemmas.Int.{ints}
use Rattle.file.specs.File.{Sound, TableData, entry}
use Rattle.file.specs.Layout.{Limited, columns, rows}
use Rattle.file.specs.declared.layout.Table.{Table}
use Rattle.file.specs.declared.layout.Table.TheVariants.{Weight, Gamma, Upsilon, Unconstrained, Target, Generator}
use Rattle.period.specs.Equations.{Given, error, error_term, period_theta, row_product, target, theta, unconstrained, weight_term}
use Rattle.period.specs.Solved.{Bounded, Fair}
use Rattle.period.specs.Sums.{EachWithin, Within, rounded, sum_to}
use Rattle.period.proofs.Bounds.{rounded_products_within, within_difference, within_product}

-- the widest that a table's limits are
abbrev width : Table → ℕ
width Weight = 65536
width Gamma = 8192
width Upsilon = 4096
width Unconstrained = 1048576
width Target = 65536
width Generator = 1048576

limited_within : (t : Table) (z : ℤ) → Limited t z → Within (width t) z
limited_within Weight z h = omega (arith, ints)
limited_within Gamma z h = omega (arith, ints)
limited_within Upsilon z h = omega (arith, ints)
limited_within Unconstrained z h = omega (arith, ints)
limited_within Target z h = omega (arith, ints)
limited_within Generator z h = omega (arith, ints)

pub limited_wide : (t : Table) (z : ℤ) → Limited t z → Within 1048576 z
limited_wide Weight z h = omega (arith, ints)
limited_wide Gamma z h = omega (arith, ints)
limited_wide Upsilon z h = omega (arith, ints)
limited_wide Unconstrained z h = omega (arith, ints)
limited_wide Target z h = omega (arith, ints)
limited_wide Generator z h = omega (arith, ints)

where_chosen : (b : Bool) (m : ℕ) (z : ℤ) → Within m z → Within m (cond b z (pos 0))
where_chosen true m z h = h
where_chosen false m z h = zero-le

module _ (d : TableData) (s : Sound d) where
  entry_within : (t : Table) (r c : ℕ) → r < rows t d.horizon → c < columns t d.horizon r → Within (width t) (entry d t r c)
  entry_within t r c h k = limited_within t (entry d t r c) (s.limited t r c h k)

  pub free_within : (i : List ℤ) (r : ℕ) → r < 2 * d.horizon → EachWithin 8192 i → Within 32768 (rounded (sum_to 2 (λ c. entry d Gamma r c *ℤ get_or i c (pos 0))))
  free_within i r h small =
      rounded_products_within (entry d Gamma r) (λ c. get_or i c (pos 0)) 2 2 8192 8192 32768 (lit≤ tt) (lit≤ tt) (λ c k. entry_within Gamma r c h k) (λ c k. small c)

  pub error_within : (i y : List ℤ) (r : ℕ) → r < 2 * d.horizon → EachWithin 8192 i → EachWithin 8192 y → Within 40960 (error d i y r)
  unfolding error
  error_within i y r h si sy = within_difference _ (get_or y r (pos 0)) 32768 8192 (free_within i r h si) (sy r)

  pub error_term_within : (e : ℕ → ℤ) (j : ℕ) → j < 3 * d.horizon → ((r : ℕ) → r < 2 * d.horizon → Within 40960 (e r)) → Within 409600 (error_term d e j)
  unfolding error_term
  error_term_within e j h small =
      rounded_products_within (λ r. entry d Upsilon r j) e (2 * d.horizon) 10 4096 40960 409600 (omega (arith, s.few)) (lit≤ tt) (λ r k. entry_within Upsilon r j k h) small

  pub weight_product_within : (u : List ℤ) (j : ℕ) → EachWithin 2 u → Within 131072 (entry d Weight 0 0 *ℤ get_or u j (pos 0))
  weight_product_within u j small = within_product (entry d Weight 0 0) (get_or u j (pos 0)) 65536 2 (entry_within Weight 0 0 (omega arith) (omega arith)) (small j)

  pub weight_term_within : (u : List ℤ) (j : ℕ) → EachWithin 2 u → Within 131072 (weight_term d u j)
  unfolding weight_term
  weight_term_within u j small = where_chosen (ltb j 3) _ (entry d Weight 0 0 *ℤ get_or u j (pos 0)) (weight_product_within u j small)

  pub theta_within : (e : ℕ → ℤ) (u : List ℤ) (j : ℕ) → j < 3 * d.horizon → ((r : ℕ) → r < 2 * d.horizon → Within 40960 (e r)) → EachWithin 2 u → Within 540672 (theta d e u j)
  theta_within e u j h se su = within_difference (error_term d e j) (weight_term d u j) 409600 131072 (error_term_within e j h se) (weight_term_within u j su)

  pub unconstrained_within : (th : ℕ → ℤ) (j : ℕ) → j < 3 * d.horizon → ((k : ℕ) → k < 3 * d.horizon → Within 540672 (th k)) → Within 2076180480 (row_product d Unconstrained th j)
  unfolding row_product
  unconstrained_within th j h small =
      rounded_products_within (entry d Unconstrained j) th (3 * d.horizon) 15 1048576 540672 2076180480 (omega (arith, s.few)) (lit≤ tt) (λ k l. entry_within Unconstrained j k h l) small

  pub target_within : (th : ℕ → ℤ) (j : ℕ) → j < 3 * d.horizon → ((k : ℕ) → k < 3 * d.horizon → Within 540672 (th k)) → Within 129761280 (row_product d Target th j)
  unfolding row_product
  target_within th j h small =
      rounded_products_within (entry d Target j) th (3 * d.horizon) 15 65536 540672 129761280 (omega (arith, s.few)) (lit≤ tt) (λ k l. entry_within Target j k h l) small

  module _ (g : Given) (fair : Fair d.horizon g) where
    pub given_error_within : (r : ℕ) → r < 2 * d.horizon → Within 40960 (error d g.currents g.references r)
    given_error_within r h = error_within g.currents g.references r h fair.currents_small fair.references_small

    pub given_theta_within : (j : ℕ) → j < 3 * d.horizon → Within 540672 (period_theta d g j)
    unfolding period_theta
    given_theta_within j h = theta_within _ g.levels j h given_error_within fair.levels_small

    pub bounded : Bounded d g
    unfolding unconstrained target
    bounded =
        record {
          errors = given_error_within;
          thetas = given_theta_within;
          unconstrained_entries = λ j h. unconstrained_within (period_theta d g) j h given_theta_within;
          targets = λ j h. target_within (period_theta d g) j h given_theta_within;
        }
