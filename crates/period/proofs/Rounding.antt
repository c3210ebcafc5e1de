-- The rounding rule: what the program does comes to it, its rows, and how large a rounded number is.
use Rattle.std.proofs.Common.{◌≡◌, ℕ, ◌+◌, ◌-◌, ◌*◌, ◌/◌, ◌%◌, ◌^◌, ◌<◌, ◌≤◌, true, false, ℤ, pos, negsuc, ◌+ℤ◌, ◌≤ℤ◌, ◌<ℤ◌, refl, ap, ◌∙◌, ⊎_elim, arith, w64, SFits, to_z, of_z}
use borrow.Author.Differences.{up, down}
use lib.Signed.{lt_z}
use Rattle.std.specs.Int.{int_div_euclid, int_rem_euclid}
use Rattle.std.proofs.lemmas.Int.{ints}
use Rattle.std.proofs.str.Laws.{order}
use Rattle.period.specs.Sums.{RoundingRows, Within, rounded}

pub rows : RoundingRows
unfolding rounded
rows = record { under_half = refl; half = refl; half_below = refl; past_half_below = refl }

above : (a : ℕ) → 2048 ≤ a → negsuc a +ℤ pos 2048 ≡ negsuc (a - 2048)
above a h = omega (arith, ints)

below : (a : ℕ) → a < 2048 → negsuc a +ℤ pos 2048 ≡ pos (2047 - a)
below a h = omega (arith, ints)

-- the quotient, and one more from half on
pub from_quotient : (a : ℤ) → int_rem_euclid a (pos 4096) <ℤ pos 2048 → int_div_euclid a (pos 4096) ≡ rounded a
unfolding rounded
from_quotient (pos a) h = omega (arith, ints)
from_quotient (negsuc a) h =
    let big : 2048 ≤ a % 4096 = omega (arith, ints) in
    rw (above a (omega arith)) (ap negsuc (omega arith))

pub from_next : (a : ℤ) → pos 2048 ≤ℤ int_rem_euclid a (pos 4096) → int_div_euclid a (pos 4096) +ℤ pos 1 ≡ rounded a
unfolding rounded
from_next (pos a) h = omega (arith, ints)
from_next (negsuc a) h =
    let small : a % 4096 < 2048 = omega (arith, ints) in
    ⊎_elim
    (λ k. let q : a / 4096 ≡ 0 = omega arith in let r : (2047 - a) / 4096 ≡ 0 = omega arith in rw (below a k, q, r))
    (λ k. rw (above a k) (let q : a / 4096 ≡ (a - 2048) / 4096 + 1 = omega arith in omega (arith, ints)))
    (order a 2048)

quotient_within : (m : ℕ) (a : ℤ) → (up a ≤ down a + m * 4096 + 2048) × (down a ≤ up a + m * 4096) → Within m (int_div_euclid a (pos 4096))
quotient_within m (pos a) h = omega arith
quotient_within m (negsuc a) h = omega arith

pub rounded_within : (m : ℕ) (a : ℤ) → Within (m * 4096) a → Within m (rounded a)
unfolding rounded
rounded_within m a h = quotient_within m (a +ℤ pos 2048) (omega (arith, ints), omega (arith, ints))

small_quotient : (a q : ℤ) → SFits w64 a → q ≡ int_div_euclid a (pos 4096) → Within (2 ^ 51) q
small_quotient (pos a) q f e = rw e (omega (arith, ints))
small_quotient (negsuc a) q f e = rw e (omega (arith, ints))

-- the same, in the words of the code's steps
pub down_is : (a q r : ℤ) → q ≡ int_div_euclid a (pos 4096) → r ≡ int_rem_euclid a (pos 4096) → lt_z r (pos 2048) ≡ true → q ≡ rounded a
down_is a q r eq er h = let k : r <ℤ pos 2048 = grind (arith, ints) in eq ∙ from_quotient a (rw er at k)

pub up_is : (a q r : ℤ) → SFits w64 a → q ≡ int_div_euclid a (pos 4096) → r ≡ int_rem_euclid a (pos 4096) → lt_z r (pos 2048) ≡ false → to_z w64 (of_z w64 (to_z w64 (of_z w64 q) +ℤ pos 1)) ≡ rounded a
up_is a q r f eq er h =
    let k : pos 2048 ≤ℤ r = grind (arith, ints) in
    let b = small_quotient a q f eq in
    let e : to_z w64 (of_z w64 (to_z w64 (of_z w64 q) +ℤ pos 1)) ≡ q +ℤ pos 1 = omega (arith, ints) in
    e ∙ ap (λ y. y +ℤ pos 1) eq ∙ from_next a (rw er at k)
