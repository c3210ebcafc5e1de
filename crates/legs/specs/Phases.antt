-- Three of a kind, one for each phase.
use Rattle.std.specs.Prelude.{ℕ, zero, suc}

-- the one that a phase has; every phase past the second has the third
abbrev pub by_phase : {T : Type 0} → T → T → T → ℕ → T
by_phase a b c zero = a
by_phase a b c (suc zero) = b
by_phase a b c (suc (suc n)) = c
