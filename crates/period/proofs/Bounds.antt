-- How large sums of products are, and what they come to in the machine's widths.
use Rattle.std.proofs.Common.{◌≡◌, ℕ, zero, suc, ◌+◌, ◌-◌, ◌*◌, ◌^◌, ◌<◌, ◌≤◌, ℤ, ◌+ℤ◌, ◌-ℤ◌, ◌*ℤ◌, nat_abs, refl, ap, le_refl, suc-mul, add-one, arith, w32, w64, SFits, to_z, of_z}
use Rattle.std.proofs.lemmas.Nat.{mul-le}
use Rattle.std.proofs.lemmas.Int.{ints, to_z-of_z, unsigned_abs-mul}
use Rattle.period.specs.Sums.{Within, rounded, sum_to}
use Rattle.period.proofs.Rounding.{rounded_within}

pub within_sum : (a b : ℤ) (p q : ℕ) → Within p a → Within q b → Within (p + q) (a +ℤ b)
within_sum a b p q h k = omega (arith, ints)

pub within_difference : (a b : ℤ) (p q : ℕ) → Within p a → Within q b → Within (p + q) (a -ℤ b)
within_difference a b p q h k = omega (arith, ints)

pub within_product : (a b : ℤ) (p q : ℕ) → Within p a → Within q b → Within (p * q) (a *ℤ b)
within_product a b p q h k = rw (unsigned_abs-mul a b) (mul-le (nat_abs a) (nat_abs b) p q h k)

within_sum_to : (f : ℕ → ℤ) (n m : ℕ) → ((k : ℕ) → k < n → Within m (f k)) → Within (n * m) (sum_to n f)
within_sum_to f zero m h = omega arith
within_sum_to f (suc n) m h =
    let before : Within (n * m) (sum_to n f) = within_sum_to f n m (λ k l. h k (omega arith)) in
    let last : Within m (f n) = h n (omega arith) in
    rw (suc-mul n m) (within_sum (sum_to n f) (f n) (n * m) m before last)

-- at most c products, of factors within p and q, where c · p · q is at most m units
pub products_within : (f g : ℕ → ℤ) (n c p q m : ℕ) → n ≤ c → c * (p * q) ≤ m * 4096 → ((k : ℕ) → k < n → Within p (f k)) → ((k : ℕ) → k < n → Within q (g k)) → Within (m * 4096) (sum_to n (λ k. f k *ℤ g k))
products_within f g n c p q m few fits hf hg =
    let all = within_sum_to (λ k. f k *ℤ g k) n (p * q) (λ k h. within_product (f k) (g k) p q (hf k h) (hg k h)) in
    omega (arith, mul-le n (p * q) c (p * q) few (le_refl (p * q)))

pub rounded_products_within : (f g : ℕ → ℤ) (n c p q m : ℕ) → n ≤ c → c * (p * q) ≤ m * 4096 → ((k : ℕ) → k < n → Within p (f k)) → ((k : ℕ) → k < n → Within q (g k)) → Within m (rounded (sum_to n (λ k. f k *ℤ g k)))
rounded_products_within f g n c p q m few fits hf hg = rounded_within m _ (products_within f g n c p q m few fits hf hg)

pub sum_to_more : (f : ℕ → ℤ) (n : ℕ) → sum_to (n + 1) f ≡ sum_to n f +ℤ f n
sum_to_more f n = ap (λ m. sum_to m f) (add-one n)

pub sum_to_same : (f g : ℕ → ℤ) (n : ℕ) → ((k : ℕ) → k < n → f k ≡ g k) → sum_to n f ≡ sum_to n g
sum_to_same f g zero h = refl
sum_to_same f g (suc n) h =
    let before = sum_to_same f g n (λ k l. h k (omega arith)) in
    let last = h n (omega arith) in
    cc

pub within_as : (m : ℕ) (a b : ℤ) → a ≡ b → Within m b → Within m a
within_as m a b e h = rw e h

-- a sum of products with one product more, which grows by 2 ^ 51 at most
pub one_more : (f g : ℕ → ℤ) (n m : ℕ) (s r a x : ℤ) → m ≡ n + 1 → (s ≡ sum_to n (λ k. f k *ℤ g k)) × Within (n * 2 ^ 51) s → a ≡ f n → x ≡ g n → r ≡ s +ℤ a *ℤ x → ((b : ℕ) → Within b s → Within (b + 2 ^ 51) r) → (r ≡ sum_to m (λ k. f k *ℤ g k)) × Within (m * 2 ^ 51) r
one_more f g n m s r a x e so_far ea ex is grows =
    let more = sum_to_more (λ k. f k *ℤ g k) n in
    let sum = so_far.0 in
    (rw e (cc), omega (arith, grows (n * 2 ^ 51) so_far.1))

-- one product more, in 64 bits
pub record Added (s a b : ℤ) : Type 0 where
  pub sum : SFits w64 (to_z w64 (of_z w64 s) +ℤ to_z w64 (of_z w64 (to_z w64 (of_z w64 a) *ℤ to_z w64 (of_z w64 b))))
  pub value : to_z w64 (of_z w64 (to_z w64 (of_z w64 s) +ℤ to_z w64 (of_z w64 (to_z w64 (of_z w64 a) *ℤ to_z w64 (of_z w64 b))))) ≡ s +ℤ a *ℤ b
  pub small : Within (2 ^ 51) (a *ℤ b)

sum_fits : (s p q : ℤ) → p ≡ q → Within (2 ^ 51) q → Within (2 ^ 62 - 2 ^ 51) s → SFits w64 (to_z w64 (of_z w64 s) +ℤ p)
sum_fits s p q e hq hs = omega (arith, ints)

sum_is : (s p q : ℤ) → p ≡ q → Within (2 ^ 51) q → Within (2 ^ 62 - 2 ^ 51) s → to_z w64 (of_z w64 (to_z w64 (of_z w64 s) +ℤ p)) ≡ s +ℤ q
sum_is s p q e hq hs = let f : SFits w64 (to_z w64 (of_z w64 s) +ℤ p) = sum_fits s p q e hq hs in omega (arith, ints)

pub added : (s a b : ℤ) → SFits w32 b → Within (2 ^ 20) a → Within (2 ^ 62 - 2 ^ 51) s → Added s a b
added s a b fb ha hs =
    let fa64 : SFits w64 a = omega (arith, ints) in
    let fb64 : SFits w64 b = omega (arith, ints) in
    let bb : Within (2 ^ 31) b = omega (arith, ints) in
    let p : Within (2 ^ 51) (a *ℤ b) = within_product a b (2 ^ 20) (2 ^ 31) ha bb in
    let fp : SFits w64 (a *ℤ b) = omega (arith, ints) in
    let e : to_z w64 (of_z w64 (to_z w64 (of_z w64 a) *ℤ to_z w64 (of_z w64 b))) ≡ a *ℤ b = simp to_z-of_z in
    record { sum = sum_fits s _ (a *ℤ b) e p hs; value = sum_is s _ (a *ℤ b) e p hs; small = p }

-- a number of 32 bits that comes in 64
pub narrowed : (r : ℤ) → SFits w32 r → to_z w32 (of_z w32 (to_z w64 (of_z w64 r))) ≡ r
narrowed r f = let g : SFits w64 r = omega (arith, ints) in simp to_z-of_z

-- a difference of two numbers, in 32 bits
pub difference_fits : (a b : ℤ) → Within (2 ^ 29) a → Within (2 ^ 29) b → SFits w32 (to_z w32 (of_z w32 a) -ℤ to_z w32 (of_z w32 b))
difference_fits a b ha hb = omega (arith, ints)

pub difference_is : (a b : ℤ) → Within (2 ^ 29) a → Within (2 ^ 29) b → to_z w32 (of_z w32 (to_z w32 (of_z w32 a) -ℤ to_z w32 (of_z w32 b))) ≡ a -ℤ b
difference_is a b ha hb = let f = difference_fits a b ha hb in omega (arith, ints)

-- a product of the weight and a level, in 32 bits
pub level_product_is : (w u : ℤ) → Within 65536 w → Within 2 u → to_z w32 (of_z w32 (to_z w32 (of_z w32 w) *ℤ to_z w32 (of_z w32 u))) ≡ w *ℤ u
level_product_is w u hw hu =
    let fw : SFits w32 w = omega (arith, ints) in
    let fu : SFits w32 u = omega (arith, ints) in
    let p : Within (65536 * 2) (w *ℤ u) = within_product w u 65536 2 hw hu in
    let f : SFits w32 (w *ℤ u) = omega (arith, ints) in
    simp to_z-of_z
