-- Every fraction has one nearest whole number to its half, and `nearest` is that number.
use Rattle.std.proofs.Common.{◌≡◌, ◌*◌, ◌%◌, ◌<◌, ◌⊎◌, ℤ, pos, negsuc, ◌+ℤ◌, ◌-ℤ◌, ◌*ℤ◌, ◌≤ℤ◌, ◌<ℤ◌, ap, inl, inr, ⊎_elim, arith}
use Rattle.std.proofs.str.Laws.{order}
use Rattle.std.proofs.lemmas.Int.{ints}
use Rattle.std.specs.Int.{int_div_euclid}
use Rattle.quantiser.specs.Counts.{Fraction, Nearest, nearest}
use Rattle.quantiser.proofs.Products.{more, less, doubled, cancel, quotient_low, quotient_high}

between : (a b z : ℤ) → a ≤ℤ z → z <ℤ b → a <ℤ b
between a b z h k = omega (arith, ints)

pub one_nearest : (f : Fraction) (r v : ℤ) → Nearest f r → Nearest f v → v ≡ r
one_nearest f r v h k =
    let p = cancel _ _ f.denominator (between _ _ _ h.0 k.1) in
    let q = cancel _ _ f.denominator (between _ _ _ k.0 h.1) in
    omega (arith, ints)

pub nearest_is_nearest : (f : Fraction) → 0 < f.denominator → Nearest f (nearest f)
nearest_is_nearest f h =
    let d = f.denominator in
    let z = f.numerator +ℤ pos d in
    let r = nearest f in
    let two : 0 < 2 * d = omega arith in
    let low = quotient_low z (2 * d) two in
    let high = quotient_high z (2 * d) two in
    let w = doubled r d in
    let a = more (pos 2 *ℤ r) d in
    let b = less (pos 2 *ℤ r) d in
    let s = more r (2 * d) in
    (omega (arith, ints), omega (arith, ints))

-- from f rounded down: z ≤ f < z + 1
pub halves : (y z r : ℤ) → y ≡ z +ℤ pos 1 → r ≡ int_div_euclid y (pos 2) → (z ≡ pos 2 *ℤ r) ⊎ (z ≡ (pos 2 *ℤ r) -ℤ pos 1)
halves (pos a) z r e f = ⊎_elim (λ h. inr (omega (arith, ints))) (λ h. inl (omega (arith, ints))) (order (a % 2) 1)
halves (negsuc a) z r e f = ⊎_elim (λ h. inl (omega (arith, ints))) (λ h. inr (omega (arith, ints))) (order (a % 2) 1)

pub nearest_from_below : (f : Fraction) (z r : ℤ) → (z ≡ pos 2 *ℤ r) ⊎ (z ≡ (pos 2 *ℤ r) -ℤ pos 1) → (z *ℤ pos f.denominator) ≤ℤ f.numerator → f.numerator <ℤ ((z +ℤ pos 1) *ℤ pos f.denominator) → Nearest f r
nearest_from_below f z r (inl e) low high =
    let d = f.denominator in
    let a = ap (λ y. y *ℤ pos d) e in
    let b = more z d in
    let c = more (pos 2 *ℤ r) d in
    let k = less (pos 2 *ℤ r) d in
    (omega (arith, ints), omega (arith, ints))
nearest_from_below f z r (inr e) low high =
    let d = f.denominator in
    let a = ap (λ y. y *ℤ pos d) e in
    let b = more z d in
    let c = more (pos 2 *ℤ r) d in
    let k = less (pos 2 *ℤ r) d in
    (omega (arith, ints), omega (arith, ints))
