-- Whole numbers times a natural one: what a step of 1 adds, and how order carries over.
use Rattle.std.proofs.Common.{◌≡◌, ℕ, zero, suc, ◌*◌, ◌/◌, ◌<◌, ℤ, pos, negsuc, ◌+ℤ◌, ◌-ℤ◌, ◌*ℤ◌, neg_ℤ, nat_abs, ◌≤ℤ◌, ◌<ℤ◌, sym, refl, ap, ◌∙◌, subst, suc-mul, zero-mul, div-mul-le_self, arith}
use native.Mathlib.Nat.{lt-div-mul-add}
use lib.IntN.{+ℤ_one, -ℤ_one, +ℤ_idr, suc_ℤ-*ℤ, pred_ℤ-*ℤ, pos-*ℤ-pos, negsuc-*ℤ-pos}
use Rattle.std.specs.Int.{int_div_euclid}
use Rattle.std.proofs.lemmas.Int.{ints, by_lt_z}

pub more : (z : ℤ) (d : ℕ) → (z +ℤ pos 1) *ℤ pos d ≡ (z *ℤ pos d) +ℤ pos d
more z d = ap (λ y. y *ℤ pos d) (+ℤ_one z) ∙ suc_ℤ-*ℤ z (pos d)

pub less : (z : ℤ) (d : ℕ) → (z -ℤ pos 1) *ℤ pos d ≡ (z *ℤ pos d) -ℤ pos d
less z d = ap (λ y. y *ℤ pos d) (-ℤ_one z) ∙ pred_ℤ-*ℤ z (pos d)

pub negated : (n d : ℕ) → neg_ℤ (pos n) *ℤ pos d ≡ neg_ℤ (pos (n * d))
negated zero d = subst (λ n. pos n ≡ neg_ℤ (pos n)) (sym (zero-mul d)) refl
negated (suc n) d = negsuc-*ℤ-pos n d

swapped : (n d : ℕ) → 2 * n * d ≡ n * (2 * d)
swapped n d = omega arith

-- 2 · z · d, grouped either way
pub doubled : (z : ℤ) (d : ℕ) → (pos 2 *ℤ z) *ℤ pos d ≡ z *ℤ pos (2 * d)
doubled (pos n) d = ap pos (swapped n d)
doubled (negsuc n) d = negated (2 * suc n) d ∙ ap (λ k. neg_ℤ (pos k)) (swapped (suc n) d)

grow : (k : ℕ) (b : ℤ) (d : ℕ) → (b *ℤ pos d) ≤ℤ ((b +ℤ pos k) *ℤ pos d)
grow zero b d = let e = ap (λ y. y *ℤ pos d) (+ℤ_idr b) in omega (arith, ints)
grow (suc k) b d =
    let h = grow k b d in
    let s : b +ℤ pos (suc k) ≡ (b +ℤ pos k) +ℤ pos 1 = omega (arith, ints) in
    let e = ap (λ y. y *ℤ pos d) s ∙ more (b +ℤ pos k) d in
    omega (arith, ints)

pub mono : (a b : ℤ) (d : ℕ) → a ≤ℤ b → (a *ℤ pos d) ≤ℤ (b *ℤ pos d)
mono a b d h =
    let s : a +ℤ pos (nat_abs (b -ℤ a)) ≡ b = omega (arith, ints) in
    subst (λ y. (a *ℤ pos d) ≤ℤ (y *ℤ pos d)) s (grow (nat_abs (b -ℤ a)) a d)

pub cancel : (a b : ℤ) (d : ℕ) → (a *ℤ pos d) <ℤ (b *ℤ pos d) → a <ℤ b
cancel a b d h = by_lt_z a b (λ lt. lt) (λ le. absurd (let k = mono b a d le in omega (arith, ints)))

-- a quotient rounded down
pub quotient_low : (z : ℤ) (d : ℕ) → 0 < d → (int_div_euclid z (pos d) *ℤ pos d) ≤ℤ z
quotient_low (pos a) d h = let e = pos-*ℤ-pos (a / d) d in let l = div-mul-le_self a d in omega (arith, ints)
quotient_low (negsuc a) d h =
    let e = negsuc-*ℤ-pos (a / d) d in
    let l = lt-div-mul-add {a = a} h in
    let s = suc-mul (a / d) d in
    omega (arith, ints)

pub quotient_high : (z : ℤ) (d : ℕ) → 0 < d → z <ℤ ((int_div_euclid z (pos d) +ℤ pos 1) *ℤ pos d)
quotient_high (pos a) d h =
    let e = pos-*ℤ-pos (a / d) d in
    let m = more (pos (a / d)) d in
    let l = lt-div-mul-add {a = a} h in
    omega (arith, ints)
quotient_high (negsuc a) d h =
    let e = negsuc-*ℤ-pos (a / d) d in
    let m = more (negsuc (a / d)) d in
    let l = div-mul-le_self a d in
    let s = suc-mul (a / d) d in
    omega (arith, ints)
