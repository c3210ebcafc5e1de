-- What `floor` and then the cast make of a float whose value is ±a / b.
use Rattle.std.proofs.Common.{◌≡◌, ℕ, ◌+◌, ◌-◌, ◌*◌, ◌/◌, ◌^◌, ◌<◌, ◌≤◌, min, Bool, true, false, cond, ℤ, pos, neg_ℤ, sym, ap, ◌∙◌, mul_comm, add-mul, lt_of_mul-lt-mul_right, mul-one, div-mul-le_self, mul-div_cancel, arith}
use native.Mathlib.Nat.{lt-div-mul-add}
use lib.Ieee.{Float, nan, inf, fin, binary64, up, down, round, to_signed}
use lib.Ieee.Back.{round_whole}
use lib.Ieee.Exact.{HasValue}
use lib.Ieee.Fits.{down_pos}
use Rattle.std.specs.Float.{floor, round_with, ratio_ceil}
use Rattle.quantiser.specs.Counts.{signed}
use Rattle.quantiser.proofs.Ratios.{above, at_least, at_most, below}

quotient_high : (a d : ℕ) → 0 < d → a < (a / d + 1) * d
quotient_high a d h = let k = lt-div-mul-add {a = a} h in let e = add-mul (a / d) 1 d in omega arith

-- ±n is ±a / b rounded down, the sign being minus where the flag is true
abbrev pub Down : Bool → ℕ → ℕ → ℕ → Type 0
Down false n a b = (n * b ≤ a) × (a < (n + 1) * b)
Down true n a b = (a ≤ n * b) × (n * b < a + b)

cast_by_sign : (t s : Bool) (k n : ℕ) → t ≡ s → k ≡ n → n < 2 ^ 53 → cond t (neg_ℤ (pos (min k (2 ^ 63)))) (pos (min k (2 ^ 63 - 1))) ≡ signed s n
cast_by_sign true true k n p e h = let q : min k (2 ^ 63) ≡ n = omega arith in ap (λ j. neg_ℤ (pos j)) q
cast_by_sign false false k n p e h = let q : min k (2 ^ 63 - 1) ≡ n = omega arith in ap (λ j. pos j) q
cast_by_sign true false k n p e h = cc
cast_by_sign false true k n p e h = cc

-- the cast of a float that holds a whole number
cast : (w : Float) (s : Bool) (n : ℕ) → n < 2 ^ 53 → HasValue w s n 1 → to_signed 63 w ≡ signed s n
unfolding to_signed
cast nan s n h v = absurd v
cast (inf t) s n h v = absurd v
cast (fin t m e) s n h v =
    let q : m * up e / down e ≡ n = ap (λ a. a / down e) (sym (mul-one (m * up e)) ∙ v.1) ∙ mul-div_cancel n (down_pos e) in
    cast_by_sign t s (m * up e / down e) n v.0 q h

module _ (m : ℕ) (e : ℤ) (a b : ℕ) (bp : 0 < b) (bound : a ≤ 4194304 * b) (same : m * up e * b ≡ a * down e) where
  small : (n : ℕ) → n * b < a + b → n ≤ 4194304
  small n h =
      let k : n * b < 4194305 * b = omega (arith, add-mul 4194304 1 b) in
      omega (arith, lt_of_mul-lt-mul_right b k)

  from_above : (n : ℕ) × (to_signed 63 (floor binary64 (fin false m e)) ≡ signed false n) × Down false n a b × (n ≤ 4194304)
  unfolding round_with
  from_above =
      let n = m * up e / down e in
      let low = at_least n (m * up e) (down e) a b (down_pos e) same (div-mul-le_self (m * up e) (down e)) in
      let high = below (n + 1) (m * up e) (down e) a b (down_pos e) same bp (quotient_high (m * up e) (down e) (down_pos e)) in
      let fit : n ≤ 4194304 = small n (omega arith) in
      (n, cast (round binary64 false n 1) false n (omega arith) (round_whole binary64 false n (omega arith)), (low, high), fit)

  from_below : (n : ℕ) × (to_signed 63 (floor binary64 (fin true m e)) ≡ signed true n) × Down true n a b × (n ≤ 4194304)
  unfolding round_with
  from_below =
      let x = m * up e in
      let d = down e in
      let n = ratio_ceil x d in
      let dp = down_pos e in
      let c1 : n * d ≤ x + d - 1 = div-mul-le_self (x + d - 1) d in
      let c2 : x + d - 1 < (n + 1) * d = quotient_high (x + d - 1) d dp in
      let c3 = add-mul n 1 d in
      let wide : (x + d) * b ≡ (a + b) * d = add-mul x d b ∙ ap (λ y. y + d * b) same ∙ ap (λ y. a * d + y) (mul_comm d b) ∙ sym (add-mul a b d) in
      let low = at_most n x d a b dp same (omega arith) in
      let high = above n (x + d) d (a + b) b dp wide bp (omega arith) in
      let fit : n ≤ 4194304 = small n high in
      (n, cast (round binary64 true n 1) true n (omega arith) (round_whole binary64 true n (omega arith)), (low, high), fit)

pub floored : (y : Float) (s : Bool) (a b : ℕ) → 0 < b → a ≤ 4194304 * b → HasValue y s a b → (n : ℕ) × (to_signed 63 (floor binary64 y) ≡ signed s n) × Down s n a b × (n ≤ 4194304)
floored nan s a b bp bound v = absurd v
floored (inf t) s a b bp bound v = absurd v
floored (fin true m e) true a b bp bound v = from_below m e a b bp bound v.1
floored (fin false m e) false a b bp bound v = from_above m e a b bp bound v.1
floored (fin true m e) false a b bp bound v = cc
floored (fin false m e) true a b bp bound v = cc
