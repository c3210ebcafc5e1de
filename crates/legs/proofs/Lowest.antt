-- The lowest number that fails a test.
use Rattle.std.proofs.Common.{◌≡◌, ℕ, zero, suc, ◌<◌, ◌≤◌, Bool, true, false, cond, Some, None, Option, MatchOption, refl, sym, ap, ◌∙◌, inl, inr, arith}
use Rattle.std.proofs.lemmas.Bool.{cases_eq}
use Rattle.fault.specs.Refusals.{lowest_failing, first_some}

-- where all pass, none fails
pub none_found : (test : ℕ → Bool) (n : ℕ) → ((k : ℕ) → k < n → test k ≡ true) → lowest_failing test n ≡ None
none_found test zero pass = refl
none_found test (suc n) pass = rw (none_found test n (λ k h. pass k (omega arith)), pass n (omega arith))

-- the first that fails
pub lowest_found : (test : ℕ → Bool) (p n : ℕ) → ((k : ℕ) → k < p → test k ≡ true) → test p ≡ false → p < n → lowest_failing test n ≡ Some p
lowest_found test p zero pass fails h = absurd (omega arith)
lowest_found test p (suc n) pass fails h =
    elim (cases_eq p n) [
      | inl e ↦ (let clear = none_found test p pass in rw (← e, clear, fails))
      | inr ne ↦ rw (lowest_found test p n pass fails (omega arith))
    ]

-- what a search of the numbers below n finds
pub searched : (test : ℕ → Bool) (n : ℕ) (r : Option ℕ) → MatchOption r ((k : ℕ) → 0 ≤ k → k < n → test k ≡ true) (λ i. (0 ≤ i) × (i < n) × (test i ≡ false) × ((k : ℕ) → 0 ≤ k → k < i → test k ≡ true)) → r ≡ lowest_failing test n
searched test n None h = sym (none_found test n (λ k. h k (omega arith)))
searched test n (Some i) h = sym (lowest_found test i n (λ k. h.3 k (omega arith)) h.2 h.1)

none_parts : (o : Option ℕ) (b : Bool) (n : ℕ) → first_some o (cond b None (Some n)) ≡ None → (o ≡ None) × (b ≡ true)
none_parts (Some x) b n e = cc
none_parts None false n e = cc
none_parts None true n e = (refl, refl)

-- where none fails, all pass
pub none_fails : (test : ℕ → Bool) (n : ℕ) → lowest_failing test n ≡ None → (p : ℕ) → p < n → test p ≡ true
none_fails test zero clear p h = absurd (omega arith)
none_fails test (suc n) clear p h =
    let parts = none_parts (lowest_failing test n) (test n) n clear in
    elim (cases_eq p n) [
      | inl e ↦ ap test e ∙ parts.1
      | inr ne ↦ none_fails test n parts.0 p (omega arith)
    ]
