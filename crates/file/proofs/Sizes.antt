-- How many entries tables have, for each horizon and in front of each row.
use Rattle.std.proofs.Common.{◌≡◌, ℕ, zero, suc, ◌+◌, ◌*◌, ◌/◌, ◌≤◌, sym, refl, subst, add-mul, one-mul, mul-one, mul-add, arith, lit≤}
use Rattle.file.specs.Layout.{columns, above, ahead, count}
use Rattle.file.specs.declared.layout.Table.{Table}
use Rattle.file.specs.declared.layout.Table.TheVariants.{Weight, Gamma, Upsilon, Unconstrained, Target, Generator}

-- what holds of each horizon
pub by_horizon : (P : ℕ → Type 0) → P 1 → P 2 → P 3 → P 4 → P 5 → (n : ℕ) → 1 ≤ n → n ≤ 5 → P n
by_horizon P a b c d e zero h k = absurd (omega arith)
by_horizon P a b c d e (suc zero) h k = a
by_horizon P a b c d e (suc (suc zero)) h k = b
by_horizon P a b c d e (suc (suc (suc zero))) h k = c
by_horizon P a b c d e (suc (suc (suc (suc zero)))) h k = d
by_horizon P a b c d e (suc (suc (suc (suc (suc zero))))) h k = e
by_horizon P a b c d e (suc (suc (suc (suc (suc (suc n)))))) h k = absurd (omega arith)

-- a table whose rows are all as long
pub above_even : (t : Table) (n w : ℕ) → ((r : ℕ) → columns t n r ≡ w) → (r : ℕ) → above t n r ≡ r * w
above_even t n w same zero = omega arith
above_even t n w same (suc r) = omega (arith, above_even t n w same r, same r, add-mul r 1 w, one-mul w)

-- the generator's rows grow by one
pub above_triangle : (n r : ℕ) → 2 * above Generator n r ≡ r * (r + 1)
above_triangle n zero = refl
above_triangle n (suc r) = omega (arith, above_triangle n r, mul-add (r + 1) (r + 1) 1, add-mul r 1 (r + 1), one-mul (r + 1), mul-one (r + 1))

-- what stands in front of each table, and how many entries there are in all
pub ahead_upsilon : (n : ℕ) → 1 ≤ n → n ≤ 5 → 1 + 4 * n ≡ ahead Upsilon n
ahead_upsilon = by_horizon (λ n. 1 + 4 * n ≡ ahead Upsilon n) refl refl refl refl refl

pub ahead_unconstrained : (n : ℕ) → 1 ≤ n → n ≤ 5 → 1 + 4 * n + 6 * n * n ≡ ahead Unconstrained n
ahead_unconstrained = by_horizon (λ n. 1 + 4 * n + 6 * n * n ≡ ahead Unconstrained n) refl refl refl refl refl

pub ahead_target : (n : ℕ) → 1 ≤ n → n ≤ 5 → 1 + 4 * n + 15 * n * n ≡ ahead Target n
ahead_target = by_horizon (λ n. 1 + 4 * n + 15 * n * n ≡ ahead Target n) refl refl refl refl refl

pub ahead_generator : (n : ℕ) → 1 ≤ n → n ≤ 5 → 1 + 4 * n + 24 * n * n ≡ ahead Generator n
ahead_generator = by_horizon (λ n. 1 + 4 * n + 24 * n * n ≡ ahead Generator n) refl refl refl refl refl

pub count_closed : (n : ℕ) → 1 ≤ n → n ≤ 5 → 1 + 4 * n + 24 * n * n + 3 * n * (3 * n + 1) / 2 ≡ count n
count_closed = by_horizon (λ n. 1 + 4 * n + 24 * n * n + 3 * n * (3 * n + 1) / 2 ≡ count n) refl refl refl refl refl

pub count_bound : (n : ℕ) → 1 ≤ n → n ≤ 5 → count n ≤ 741
count_bound = by_horizon (λ n. count n ≤ 741) (lit≤ tt) (lit≤ tt) (lit≤ tt) (lit≤ tt) (lit≤ tt)

-- what stands above a row
pub above_generator : (t : Table) → t ≡ Generator → (n r : ℕ) → r * (r + 1) / 2 ≡ above t n r
above_generator t e n r = subst (λ (x : Table). r * (r + 1) / 2 ≡ above x n r) (sym e) (omega (arith, above_triangle n r))

pub above_others : (t : Table) → (t ≡ Generator → ⊥) → (n r : ℕ) → r * columns t n r ≡ above t n r
above_others Weight h n r = sym (above_even Weight n 1 (λ _. refl) r)
above_others Gamma h n r = sym (above_even Gamma n 2 (λ _. refl) r)
above_others Upsilon h n r = sym (above_even Upsilon n (3 * n) (λ _. refl) r)
above_others Unconstrained h n r = sym (above_even Unconstrained n (3 * n) (λ _. refl) r)
above_others Target h n r = sym (above_even Target n (3 * n) (λ _. refl) r)
above_others Generator h n r = absurd (h refl)
