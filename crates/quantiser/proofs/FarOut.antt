-- Floats of more than 512 in size: their counts pass the limits of every table.
use Rattle.std.proofs.Common.{◌≡◌, ◌*◌, ◌<◌, ◌≤◌, Bool, true, false, ◌&&◌, ◌⊎◌, ℤ, pos, negsuc, ◌+ℤ◌, ◌-ℤ◌, ◌*ℤ◌, ◌≤ℤ◌, ◌<ℤ◌, sym, refl, ap, ◌∙◌, inl, inr, arith, ltb-false, ltb-true}
use lib.IntN.{pos-*ℤ-pos, negsuc-*ℤ-pos}
use lib.Signed.{le_z}
use lib.Ieee.{Float, nan, inf, fin, binary64, up, down, of_bits, lt}
use Rattle.std.specs.Float.{float_is_finite, float_with_sign}
use Rattle.std.proofs.lemmas.Int.{ints, by_lt_z}
use Rattle.file.specs.Layout.{greatest, least, limited}
use Rattle.file.specs.declared.layout.Table.{Table}
use Rattle.file.specs.declared.layout.Table.TheVariants.{Weight, Gamma, Upsilon, Unconstrained, Target, Generator}
use Rattle.quantiser.specs.Counts.{Nearest, twice_counts}
use Rattle.quantiser.proofs.Products.{mono}

-- of at most 512 in size, and of more
abbrev pub Near : Float → Type 0
Near nan = ⊥
Near (inf s) = ⊥
Near (fin s m e) = m * up e ≤ 512 * down e

abbrev pub Far : Float → Type 0
Far nan = ⊥
Far (inf s) = ⊥
Far (fin s m e) = 512 * down e < m * up e

five_hundred_twelve : of_bits binary64 4647714815446351872 ≡ fin false 1 (pos 9)
unfolding of_bits
five_hundred_twelve = refl

clash : {X : Type 0} (b : Bool) → b ≡ true → b ≡ false → X
clash b p q = cc

-- what the test on the absolute value says
pub far_from : (x y : Float) → float_is_finite x ≡ true → y ≡ float_with_sign false x → lt (of_bits binary64 4647714815446351872) y ≡ true → Far x
unfolding float_is_finite float_with_sign lt
far_from nan y f e h = clash false f refl
far_from (inf s) y f e h = clash false f refl
far_from (fin s m x) y f e h =
    let g : lt (fin false 1 (pos 9)) (fin false m x) ≡ true = ap (lt (fin false 1 (pos 9))) (sym e) ∙ ap (λ w. lt w y) (sym five_hundred_twelve) ∙ h in
    omega (arith, ltb-true _ _ g)

pub near_from : (x y : Float) → float_is_finite x ≡ true → y ≡ float_with_sign false x → lt (of_bits binary64 4647714815446351872) y ≡ false → Near x
unfolding float_is_finite float_with_sign lt
near_from nan y f e h = clash false f refl
near_from (inf s) y f e h = clash false f refl
near_from (fin s m x) y f e h =
    let g : lt (fin false 1 (pos 9)) (fin false m x) ≡ false = ap (lt (fin false 1 (pos 9))) (sym e) ∙ ap (λ w. lt w y) (sym five_hundred_twelve) ∙ h in
    omega (arith, ltb-false _ _ g)

-- beyond the widest limits that a table has
abbrev Outside : ℤ → Type 0
Outside r = (r <ℤ negsuc 1048575) ⊎ (pos 1048576 <ℤ r)

passes_all : (x : Float) (r : ℤ) → Far x → Nearest (twice_counts x) r → Outside r
passes_all nan r far h = absurd far
passes_all (inf s) r far h = absurd far
passes_all (fin false m e) r far h =
    by_lt_z (pos 1048576) r inr
    (λ le. absurd (let top : ((pos 2 *ℤ r) +ℤ pos 1) ≤ℤ pos 2097153 = omega (arith, ints) in let k = mono _ _ (down e) top in let p = pos-*ℤ-pos 2097153 (down e) in omega (arith, ints)))
passes_all (fin true m e) r far h =
    by_lt_z r (negsuc 1048575) inl
    (λ le. absurd (let low : negsuc 2097152 ≤ℤ ((pos 2 *ℤ r) -ℤ pos 1) = omega (arith, ints) in let k = mono _ _ (down e) low in let p = negsuc-*ℤ-pos 2097152 (down e) in omega (arith, ints)))

widest : (t : Table) → (negsuc 1048575 ≤ℤ least t) × (greatest t ≤ℤ pos 1048576)
widest Weight = (omega (arith, ints), omega (arith, ints))
widest Gamma = (omega (arith, ints), omega (arith, ints))
widest Upsilon = (omega (arith, ints), omega (arith, ints))
widest Unconstrained = (omega (arith, ints), omega (arith, ints))
widest Target = (omega (arith, ints), omega (arith, ints))
widest Generator = (omega (arith, ints), omega (arith, ints))

beyond : (l g r : ℤ) → negsuc 1048575 ≤ℤ l → g ≤ℤ pos 1048576 → Outside r → le_z l r && le_z r g ≡ false
beyond l g r a b (inl h) = grind (arith, ints)
beyond l g r a b (inr h) = grind (arith, ints)

pub far_is_refused : (x : Float) (t : Table) (r : ℤ) → Far x → Nearest (twice_counts x) r → limited t r ≡ false
far_is_refused x t r far h = beyond (least t) (greatest t) r (widest t).0 (widest t).1 (passes_all x r far h)
