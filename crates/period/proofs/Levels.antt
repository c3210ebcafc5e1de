-- The levels of the three applied positions.
use Rattle.std.proofs.Common.{◌≡◌, ℕ, zero, suc, [], ◌∷◌, ℤ, pos, neg_ℤ, ◌≤ℤ◌, ap, ◌∙◌, zero-le, arith, w8, w32, SFits, to_z, of_z}
use Rattle.std.proofs.lemmas.Int.{ints, to_z-of_z}
use Rattle.legs.specs.Model.{Lawful, LegModel}
use Rattle.period.specs.Sums.{EachWithin, Within}
use Rattle.period.proofs.Bounds.{within_as}

-- three numbers of at most 2 in size
pub three_small : (a b c : ℤ) → Within 2 a → Within 2 b → Within 2 c → EachWithin 2 (a ∷ (b ∷ (c ∷ [])))
three_small a b c ha hb hc zero = ha
three_small a b c ha hb hc (suc zero) = hb
three_small a b c ha hb hc (suc (suc zero)) = hc
three_small a b c ha hb hc (suc (suc (suc k))) = zero-le

-- a leg's level, which it answers in 8 bits, in 32
pub level_is : {m : ℕ → LegModel} (law : (k : ℕ) → Lawful (m k)) (k : ℕ) {p : ℕ} {r w : ℤ} → r ≡ (m k).level p → w ≡ to_z w8 (of_z w8 r) → (to_z w32 (of_z w32 w) ≡ (m k).level p) × Within 2 (to_z w32 (of_z w32 w))
level_is {m} law k {p} {r} {w} e wide =
    let z = (m k).level p in
    let low : neg_ℤ (pos 2) ≤ℤ z = (law k).low p in
    let high : z ≤ℤ pos 2 = (law k).high p in
    let f : SFits w8 r = omega (arith, ints) in
    let g : SFits w32 r = omega (arith, ints) in
    let same : w ≡ r = wide ∙ to_z-of_z w8 r f in
    let is : to_z w32 (of_z w32 w) ≡ z = ap (λ y. to_z w32 (of_z w32 y)) same ∙ to_z-of_z w32 r g ∙ e in
    (is, within_as 2 _ z is (omega (arith, ints)))
