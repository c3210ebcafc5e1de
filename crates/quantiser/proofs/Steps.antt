-- What the floats on the way come to, and what is answered at each exit.
use Rattle.std.proofs.Common.{◌≡◌, ℕ, ◌*◌, ◌<◌, ◌≤◌, Bool, true, false, T, ℤ, pos, negsuc, ◌+ℤ◌, ◌*ℤ◌, neg_ℤ, ◌≤ℤ◌, ◌<ℤ◌, Err, Option, Result, sym, ◌∙◌, subst, arith, lit<}
use lib.IntN.{pos-*ℤ-pos}
use lib.Ieee.{Float, nan, inf, fin, binary64, up, down, mul, fits, of_bits, lt, to_signed}
use lib.Ieee.Fits.{down_pos}
use Rattle.std.specs.Float.{float_is_finite, floor, float_with_sign}
use Rattle.std.specs.Int.{int_div_euclid}
use Rattle.std.proofs.lemmas.Int.{ints}
use Rattle.fault.specs.Refusals.{Answers, first_some, unless}
use Rattle.fault.specs.declared.Fault.{Fault}
use Rattle.file.specs.Layout.{limited}
use Rattle.file.specs.declared.layout.Table.{Table}
use Rattle.quantiser.specs.Counts.{nearest, signed, twice_counts}
use Rattle.quantiser.specs.Quantised.{CountsAreMeant, counts, quantise_refusal}
use Rattle.quantiser.specs.declared.Entry.TheVariants.{Real}
use Rattle.quantiser.proofs.Exact.{four_thousand, twice_4096, two}
use Rattle.quantiser.proofs.FarOut.{Near, Far, far_is_refused, near_from}
use Rattle.quantiser.proofs.OneNearest.{halves, nearest_from_below, nearest_is_nearest, one_nearest}
use Rattle.quantiser.proofs.Products.{more, negated}
use Rattle.quantiser.proofs.RoundedDown.{Down, floored}
use Rattle.fault.specs.Rules.{refused}
use Rattle.fault.specs.declared.rule.Rule.TheVariants.{FiniteNumber, CountLimits}

positive : (x : Float) → 0 < (twice_counts x).denominator
positive nan = lit< tt
positive (inf s) = lit< tt
positive (fin s m e) = down_pos e

pub meant_by_real : (x : Float) → CountsAreMeant (Real x)
meant_by_real x = record { meant = nearest_is_nearest (twice_counts x) (positive x); only = λ r h. one_nearest (twice_counts x) _ r (nearest_is_nearest (twice_counts x) (positive x)) h }

-- a whole number that is rounded down, with its sign
by_sign : (s : Bool) (n a d : ℕ) → Down s n a d → ((signed s n *ℤ pos d) ≤ℤ signed s a) × (signed s a <ℤ ((signed s n +ℤ pos 1) *ℤ pos d))
by_sign false n a d h = let p = pos-*ℤ-pos n d in let q = more (pos n) d in (omega (arith, ints), omega (arith, ints))
by_sign true n a d h = let p = negated n d in let q = more (neg_ℤ (pos n)) d in (omega (arith, ints), omega (arith, ints))

in_range : (s : Bool) (n : ℕ) → n ≤ 4194304 → (negsuc 4194303 ≤ℤ signed s n) × (signed s n ≤ℤ pos 4194304)
in_range true n h = (omega (arith, ints), omega (arith, ints))
in_range false n h = (omega (arith, ints), omega (arith, ints))

-- z is 8192 · x rounded down
pub record RoundedDown (x : Float) (z : ℤ) : Type 0 where
  pub low : (z *ℤ pos (twice_counts x).denominator) ≤ℤ (twice_counts x).numerator
  pub high : (twice_counts x).numerator <ℤ ((z +ℤ pos 1) *ℤ pos (twice_counts x).denominator)
  pub least : negsuc 4194303 ≤ℤ z
  pub most : z ≤ℤ pos 4194304

rounded_down : (x : Float) → T (fits binary64 x) → Near x → (z : ℤ) → z ≡ to_signed 63 (floor binary64 (mul binary64 (mul binary64 x (of_bits binary64 4661225614328463360)) (of_bits binary64 4611686018427387904))) → RoundedDown x z
rounded_down nan fit near z e = absurd near
rounded_down (inf s) fit near z e = absurd near
rounded_down (fin s m x) fit near z e =
    let y = mul binary64 (mul binary64 (fin s m x) (fin false 1 (pos 12))) (fin false 1 (pos 1)) in
    let k = floored y s (m * up x * 8192) (down x) (down_pos x) (omega arith) (twice_4096 s m x fit near) in
    let is : z ≡ signed s k.0 = e ∙ (λ i. to_signed 63 (floor binary64 (mul binary64 (mul binary64 (fin s m x) (four_thousand i)) (two i)))) ∙ k.1 in
    let b = by_sign s k.0 (m * up x * 8192) (down x) k.2 in
    let r = in_range s k.0 k.3 in
    subst (RoundedDown (fin s m x)) (sym is) (record { low = b.0; high = b.1; least = r.0; most = r.1 })

passed : (b : Bool) → b ≡ true → T b
passed true e = tt
passed false e = cc

pub twice_from : (x size : Float) (z : ℤ) → fits binary64 x ≡ true → float_is_finite x ≡ true → size ≡ float_with_sign false x → lt (of_bits binary64 4647714815446351872) size ≡ false → z ≡ to_signed 63 (floor binary64 (mul binary64 (mul binary64 x (of_bits binary64 4661225614328463360)) (of_bits binary64 4611686018427387904))) → RoundedDown x z
twice_from x size z fit f e near is = rounded_down x (passed _ fit) (near_from x size f e near) z is

pub counts_from : (x : Float) (y z r : ℤ) → RoundedDown x z → y ≡ z +ℤ pos 1 → r ≡ int_div_euclid y (pos 2) → r ≡ nearest (twice_counts x)
counts_from x y z r h e q =
    one_nearest (twice_counts x) _ r (nearest_is_nearest (twice_counts x) (positive x)) (nearest_from_below (twice_counts x) z r (halves y z r e q) h.low h.high)

-- the three exits
unmet : {V : Type 0} (b : Bool) (f g : Fault) (o : Option Fault) (P : V → Type 0) → b ≡ false → g ≡ f → Answers (first_some (unless b f) o) P (Err g)
unmet false f g o P e h = h
unmet true f g o P e h = cc

met : {V : Type 0} (b : Bool) (f : Fault) (o : Option Fault) (P : V → Type 0) (r : Result V Fault) → b ≡ true → Answers o P r → Answers (first_some (unless b f) o) P r
met true f o P r e h = h
met false f o P r e h = cc

pub not_finite : (x : Float) (t : Table) (g : Fault) → float_is_finite x ≡ false → g ≡ refused FiniteNumber 0 → Answers (quantise_refusal (Real x) t) (λ v. v ≡ counts (Real x)) (Err g)
not_finite x t g e h = unmet (float_is_finite x) _ g _ _ e h

pub too_far : (x : Float) (t : Table) (g : Fault) → float_is_finite x ≡ true → Far x → g ≡ refused CountLimits 0 → Answers (quantise_refusal (Real x) t) (λ v. v ≡ counts (Real x)) (Err g)
too_far x t g e far h =
    let out = far_is_refused x t (nearest (twice_counts x)) far (nearest_is_nearest (twice_counts x) (positive x)) in
    met (float_is_finite x) _ _ _ (Err g) e (rw out h)

pub in_limits : (x : Float) (t : Table) (v : ℤ) (r : Result ℤ Fault) → float_is_finite x ≡ true → v ≡ counts (Real x) → Answers (unless (limited t v) (refused CountLimits 0)) (λ w. w ≡ v) r → Answers (quantise_refusal (Real x) t) (λ w. w ≡ counts (Real x)) r
in_limits x t v r e is h = met (float_is_finite x) _ _ _ r e (subst (λ y. Answers (unless (limited t y) (refused CountLimits 0)) (λ w. w ≡ y) r) is h)
