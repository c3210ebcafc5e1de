-- A float of at most 512 in size, times 4096 and then times 2: neither product loses anything.
use Rattle.std.proofs.Common.{◌≡◌, ℕ, zero, suc, ◌+◌, ◌-◌, ◌*◌, ◌%◌, ◌^◌, ◌<◌, ◌≤◌, Bool, true, false, ◌&&◌, T as Holds, eqb, ltb, leb, ℤ, pos, negsuc, sym, refl, ap, ◌∙◌, subst, ⊎_elim, le_trans, lt_irrefl, mul-le-mul_right, mul_assoc, mul_comm, zero-mul, mul-one, mul_right_comm, arith, lit<, lit≤, pow_pos, pow-add, ltb-true, leb-true}
use native.Mathlib.Nat.{eq_of_mul-eq-mul_right}
use lib.Pow.{pow-lt}
use lib.Ieee.{Float, nan, inf, fin, binary64, up, down, mul, round, fits, of_bits, unlike}
use lib.Ieee.Bits.{is_true}
use lib.Ieee.Exact.{HasValue, round_exact}
use lib.Ieee.Fits.{down_pos, mul-fits}
use Rattle.std.proofs.str.Laws.{order}
use Rattle.quantiser.proofs.Ratios.{at_most}

pub four_thousand : of_bits binary64 4661225614328463360 ≡ fin false 1 (pos 12)
unfolding of_bits
four_thousand = refl

pub two : of_bits binary64 4611686018427387904 ≡ fin false 1 (pos 1)
unfolding of_bits
two = refl

middle : (a b c d : Bool) → Holds (a && b && c && d) → Holds b × Holds c
middle true true true d h = (tt, tt)
middle true true false d h = absurd h
middle true false c d h = absurd h
middle false b c d h = absurd h

-- a double's significand has at most 53 digits, and its exponent is at least -1074
in_format : (s : Bool) (m : ℕ) (e : ℤ) → Holds (fits binary64 (fin s (suc m) e)) → (suc m < 2 ^ 53) × (down e ≤ 2 ^ 1074)
unfolding fits
in_format s m e h =
    let k = middle (eqb (suc m % 2) 1) (ltb (suc m) (2 ^ 53)) (leb (down e) (2 ^ 1074)) (ltb (suc m * up e) (2 ^ 1024 * down e)) h in
    (ltb-true (suc m) (2 ^ 53) (is_true _ k.0), leb-true (down e) (2 ^ 1074) (is_true _ k.1))

positive_keeps : (s : Bool) → unlike s false ≡ s
positive_keeps true = refl
positive_keeps false = refl

zero_is_exact : (s : Bool) (d : ℕ) → 0 < d → HasValue (round binary64 s 0 d) s 0 d
zero_is_exact s d h = round_exact binary64 s 0 d 0 0 h (lit< tt) (lit< tt) (zero-mul (2 ^ 1074) ∙ sym (zero-mul d))

exponent : (k : ℕ) → 2 ^ suc k ≤ 2 ^ 1074 → suc k ≤ 1074
exponent k h = ⊎_elim (λ g. absurd (lt_irrefl _ (le_trans (pow-lt {i = 1074} {j = suc k} g) h))) (λ g. g) (order 1074 (suc k))

back : (k l : ℕ) → suc k ≤ 1074 → 1074 ≤ l → l - suc k + suc k ≡ l
back k l h g = omega arith

-- The powers stand as variables from here on: written out, they are longer than `omega` reads.
scaled_bound : (w a b c : ℕ) → a ≤ w → w * b < c → a * b < c
scaled_bound w a b c h k = let m = mul-le-mul_right b h in omega arith

regrouped : (a t l b : ℕ) → t * l ≡ b → a * t * l ≡ a * b
regrouped a t l b e = mul_assoc a t l ∙ ap (λ n. a * n) e

divided_bound : (w q p d b c : ℕ) → q ≤ w * d → p * d ≡ b → w * b < c → q * p < c
divided_bound w q p d b c h e k =
    let m = mul-le-mul_right p h in
    let v : w * d * p ≡ w * b = mul_assoc w d p ∙ ap (λ n. w * n) (mul_comm d p ∙ e) in
    omega arith

-- times t, which is 2 ^ i, of a float of at most w in size; l is 1074 + i
module _ (i t w l : ℕ) (is : 1 * 2 ^ i ≡ t) (from : 1074 ≤ l) (deeper : t * 2 ^ 1074 ≡ 2 ^ l) (room : w * 2 ^ l < 2 ^ 2098) where
  whole : (s : Bool) (q k : ℕ) → q < 2 ^ 53 → q * 2 ^ k ≤ w → HasValue (round binary64 s (q * 2 ^ k * t) 1) s (q * 2 ^ k * t) 1
  whole s q k small bound =
      let e : q * 2 ^ (k + l) ≡ q * 2 ^ k * 2 ^ l = ap (λ n. q * n) (pow-add 2 k l) ∙ sym (mul_assoc q (2 ^ k) (2 ^ l)) in
      round_exact binary64 s (q * 2 ^ k * t) 1 q (k + l) (lit< tt) small
      (subst (λ n. n < 2 ^ 2098) (sym e) (scaled_bound w (q * 2 ^ k) (2 ^ l) (2 ^ 2098) bound room))
      (regrouped (q * 2 ^ k) t (2 ^ 1074) (2 ^ l) deeper ∙ sym e ∙ sym (mul-one (q * 2 ^ (k + l))))

  broken : (s : Bool) (q k : ℕ) → q < 2 ^ 53 → 2 ^ suc k ≤ 2 ^ 1074 → q ≤ w * 2 ^ suc k → HasValue (round binary64 s (q * t) (2 ^ suc k)) s (q * t) (2 ^ suc k)
  broken s q k small deep bound =
      let e : 2 ^ (l - suc k) * 2 ^ suc k ≡ 2 ^ l = sym (pow-add 2 (l - suc k) (suc k)) ∙ ap (λ n. 2 ^ n) (back k l (exponent k deep) from) in
      round_exact binary64 s (q * t) (2 ^ suc k) q (l - suc k) (pow_pos (suc k)) small
      (divided_bound w q (2 ^ (l - suc k)) (2 ^ suc k) (2 ^ l) (2 ^ 2098) bound e room)
      (regrouped q t (2 ^ 1074) (2 ^ l) deeper ∙ sym (mul_assoc q (2 ^ (l - suc k)) (2 ^ suc k) ∙ ap (λ n. q * n) e))

  by_exponent : (s : Bool) (m : ℕ) (e : ℤ) → Holds (fits binary64 (fin s m e)) → m * up e ≤ w * down e → HasValue (round binary64 s (m * up e * t) (down e)) s (m * up e * t) (down e)
  by_exponent s zero e fit bound =
      let z : 0 ≡ 0 * up e * t = sym (zero-mul t) ∙ ap (λ n. n * t) (sym (zero-mul (up e))) in
      subst (λ n. HasValue (round binary64 s n (down e)) s n (down e)) z (zero_is_exact s (down e) (down_pos e))
  by_exponent s (suc m) (pos k) fit bound = whole s (suc m) k (in_format s m (pos k) fit).0 (subst (λ n. suc m * 2 ^ k ≤ n) (mul-one w) bound)
  by_exponent s (suc m) (negsuc k) fit bound =
      let f = in_format s m (negsuc k) fit in
      subst (λ n. HasValue (round binary64 s (n * t) (2 ^ suc k)) s (n * t) (2 ^ suc k)) (sym (mul-one (suc m)))
      (broken s (suc m) k f.0 f.1 (subst (λ n. n ≤ w * 2 ^ suc k) (mul-one (suc m)) bound))

  scaled : (s : Bool) (m : ℕ) (e : ℤ) → Holds (fits binary64 (fin s m e)) → m * up e ≤ w * down e → HasValue (mul binary64 (fin s m e) (fin false 1 (pos i))) s (m * up e * t) (down e)
  unfolding mul
  scaled s m e fit bound =
      subst (λ b. HasValue (round binary64 b (m * up e * (1 * 2 ^ i)) (down e * 1)) s (m * up e * t) (down e)) (sym (positive_keeps s))
      (subst (λ d. HasValue (round binary64 s (m * up e * (1 * 2 ^ i)) d) s (m * up e * t) (down e)) (sym (mul-one (down e)))
      (subst (λ n. HasValue (round binary64 s (m * up e * n) (down e)) s (m * up e * t) (down e)) (sym is) (by_exponent s m e fit bound)))

crossed : (x y a d b e : ℕ) → 0 < d → a * e ≡ b * d → x * d ≡ a * 2 * y → x * e ≡ b * 2 * y
crossed x y a d b e dp same h =
    eq_of_mul-eq-mul_right d dp (x * e) (b * 2 * y)
    (mul_right_comm x e d ∙ ap (λ n. n * e) h ∙ mul_right_comm (a * 2) y e ∙ ap (λ n. n * y) (mul_right_comm a 2 e ∙ ap (λ n. n * 2) same ∙ mul_right_comm b d 2) ∙ mul_right_comm (b * 2) d y)

-- the double of a / d, read as the double of the same value b / e
same_double : (v : Float) (s t : Bool) (a d b e : ℕ) → 0 < d → s ≡ t → a * e ≡ b * d → HasValue v s (a * 2) d → HasValue v t (b * 2) e
same_double nan s t a d b e dp p same v = v
same_double (inf u) s t a d b e dp p same v = v
same_double (fin u m x) s t a d b e dp p same v = (v.0 ∙ p, crossed (m * up x) (down x) a d b e dp same v.1)

times_two : (y : Float) (s : Bool) (a d : ℕ) → 0 < d → Holds (fits binary64 y) → a ≤ 2097152 * d → HasValue y s a d → HasValue (mul binary64 y (fin false 1 (pos 1))) s (a * 2) d
times_two nan s a d dp fit bound v = absurd v
times_two (inf b) s a d dp fit bound v = absurd v
times_two (fin b m e) s a d dp fit bound v =
    let near = at_most 2097152 a d (m * up e) (down e) dp (sym v.1) bound in
    let twice = scaled 1 2 2097152 1075 refl (lit≤ tt) refl (lit< tt) b m e fit near in
    same_double (mul binary64 (fin b m e) (fin false 1 (pos 1))) b s (m * up e) (down e) a d (down_pos e) v.0 v.1 twice

pub twice_4096 : (s : Bool) (m : ℕ) (e : ℤ) → Holds (fits binary64 (fin s m e)) → m * up e ≤ 512 * down e → HasValue (mul binary64 (mul binary64 (fin s m e) (fin false 1 (pos 12))) (fin false 1 (pos 1))) s (m * up e * 8192) (down e)
twice_4096 s m e fit bound =
    let once = scaled 12 4096 512 1086 refl (lit≤ tt) refl (lit< tt) s m e fit bound in
    let twice = times_two (mul binary64 (fin s m e) (fin false 1 (pos 12))) s (m * up e * 4096) (down e) (down_pos e) (mul-fits binary64 (fin s m e) (fin false 1 (pos 12))) (omega arith) once in
    subst (λ n. HasValue (mul binary64 (mul binary64 (fin s m e) (fin false 1 (pos 12))) (fin false 1 (pos 1))) s n (down e)) (mul_assoc (m * up e) 4096 2) twice
