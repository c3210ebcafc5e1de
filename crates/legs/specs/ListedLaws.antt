-- A listed leg that nothing refuses is lawful.
use Rattle.std.specs.Prelude.{◌≡◌, ℕ, zero, suc, ◌-◌, ◌^◌, ◌<◌, ◌≤◌, true, false, List, length, get_or, ℤ, pos, neg_ℤ, ◌≤ℤ◌, ◌<ℤ◌, nat_lt, slice_index, slice_index_or}
use Rattle.std.proofs.Common.{inl, inr, arith, lit<}
use Rattle.std.proofs.Math.ListN.{get_or-eq_default}
use Rattle.std.proofs.lemmas.Int.{ints}
use Rattle.std.proofs.lemmas.Bool.Decides.{nat_tests}
use Rattle.std.proofs.lemmas.Bool.{and_parts, cases_eq, cases_lt, ltb-true}
use Rattle.legs.specs.Model.{Lawful}
use Rattle.legs.specs.Kinds.{bit, listed}
use Rattle.legs.specs.Refusals.{level_stands, mask_stands}
use Rattle.legs.specs.Masks.{no_high_bit}

level_range : (ls : List ℤ) (p : ℕ) → level_stands ls p ≡ true → (neg_ℤ (pos 2) ≤ℤ slice_index_or ls p (pos 0)) × (slice_index_or ls p (pos 0) ≤ℤ pos 2)
level_range ls p stands = (grind (arith, ints, nat_tests), grind (arith, ints, nat_tests))

level_step : (ls : List ℤ) (p : ℕ) → level_stands ls (suc p) ≡ true → slice_index_or ls p (pos 0) <ℤ slice_index_or ls (suc p) (pos 0)
level_step ls p stands =
    let e : suc p - 1 ≡ p = omega arith in
    grind (arith, ints, nat_tests)

module _ (ls : List ℤ) (ms : List ℕ) (rest : ℕ)
    (some : 2 ≤ length ls) (few : length ls ≤ 5) (each : length ms ≡ length ls) (rests : rest < length ls)
    (levels : (p : ℕ) → p < length ls → level_stands ls p ≡ true)
    (masks : (p : ℕ) → p < length ls → mask_stands (length ls) ms p ≡ true) where
  rising : (p q : ℕ) → p < q → q < length ls → slice_index_or ls p (pos 0) <ℤ slice_index_or ls q (pos 0)
  rising p zero h k = absurd (omega arith)
  rising p (suc q) h k =
      let step = level_step ls q (levels (suc q) k) in
      elim (cases_eq p q) [
        | inl e ↦ rw e step
        | inr ne ↦ (let lower : get_or ls p (pos 0) <ℤ get_or ls q (pos 0) = rising p q (omega arith) (omega arith) in omega (arith, ints))
      ]

  mask_parts : (p : ℕ) → p < length ls → (bit (slice_index ms p) p ≡ true) × (slice_index ms p < 2 ^ length ls)
  mask_parts p h =
      let parts = and_parts (bit (slice_index ms p) p) (nat_lt (slice_index ms p) (2 ^ length ls)) (masks p h) in
      (parts.0, ltb-true _ _ parts.1)

  no_level : (p : ℕ) → length ls ≤ p → slice_index_or ls p (pos 0) ≡ pos 0
  no_level p h = get_or-eq_default ls (pos 0) h

  range : (p : ℕ) → (neg_ℤ (pos 2) ≤ℤ slice_index_or ls p (pos 0)) × (slice_index_or ls p (pos 0) ≤ℤ pos 2)
  range p =
      elim (cases_lt p (length ls)) [
        | inl h ↦ level_range ls p (levels p h)
        | inr h ↦ (let z = no_level p h in (omega (arith, ints), omega (arith, ints)))
      ]

  no_mask : (p q : ℕ) → length ls ≤ p → bit (slice_index ms p) q ≡ false
  no_mask p q h =
      let past : length ms ≤ p = omega arith in
      let none : get_or ms p 0 ≡ 0 = get_or-eq_default ms 0 past in
      rw none (no_high_bit 0 0 q (lit< tt) (omega arith))

  no_target : (p q : ℕ) → length ls ≤ q → bit (slice_index ms p) q ≡ false
  no_target p q h =
      elim (cases_lt p (length ls)) [
        | inl k ↦ no_high_bit (slice_index ms p) (length ls) q (mask_parts p k).1 h
        | inr k ↦ no_mask p q k
      ]

  pub listed_lawful : Lawful (listed ls ms rest)
  listed_lawful = record {
    some = omega arith;
    few = few;
    low = λ p. (range p).0;
    high = λ p. (range p).1;
    rises = rising;
    rests = rests;
    holds = λ p h. (mask_parts p h).0;
    no_level = no_level;
    none_from = no_mask;
    none_to = no_target;
  }
