-- The guesses, entry by entry.
use Rattle.std.proofs.Common.{◌≡◌, ℕ, zero, suc, ◌-◌, ◌≤◌, cond, ltb, List, length, get_or, take, drop, refl, ap, arith, length-append}
use Rattle.std.proofs.lemmas.List.{get_or-take, length-drop}
use Rattle.decoder.specs.Sequences.{Problem, origin}
use Rattle.decoder.specs.Guesses.{moved_on}

module _ {C : Type 0} (P : Problem C) where
  -- the entries that an entry moves from stand before it
  pub origin_cut : (g : List ℕ) (n j : ℕ) → j ≤ n → origin P (take n g) j ≡ origin P g j
  origin_cut g n zero h = refl
  origin_cut g n (suc zero) h = refl
  origin_cut g n (suc (suc zero)) h = refl
  origin_cut g n (suc (suc (suc k))) h = ap (λ v. cond (ltb (suc (suc (suc k))) 3) (get_or P.applied (suc (suc (suc k))) 0) v) (get_or-take n g (suc (suc (suc k)) - 3) 0 (omega arith))

pub moved_long : (M : List ℕ) → 3 ≤ length M → length (moved_on M) ≡ length M
moved_long M h = omega (arith, length-append (drop 3 M) (drop (length M - 3) M), length-drop 3 M, length-drop (length M - 3) M)
