-- The words in which every call's refusals are stated: one definition says which refusal a call owes, if any.
use Rattle.std.specs.Prelude.{◌≡◌, ℕ, zero, suc, Bool, cond, Some, None, Ok, Err, Option, Result}
use Rattle.fault.specs.declared.Fault.{Fault}

-- the first of two, where there is one, and else the second
abbrev pub first_some : {X : Type 0} → Option X → Option X → Option X
first_some (Some x) o = Some x
first_some None o = o

-- the lowest number below n that fails a test
abbrev pub lowest_failing : (ℕ → Bool) → ℕ → Option ℕ
lowest_failing test zero = None
lowest_failing test (suc n) = first_some (lowest_failing test n) (cond (test n) None (Some n))

-- refused unless a condition is met
abbrev pub unless : Bool → Fault → Option Fault
unless met f = cond met None (Some f)

-- refused at a place, where there is one
abbrev pub refused_at : Option ℕ → (ℕ → Fault) → Option Fault
refused_at None f = None
refused_at (Some p) f = Some (f p)

-- the answer of a call that owes this refusal, if any: the refusal, or else a value of which P holds
abbrev pub Answers : {V : Type 0} → Option Fault → (V → Type 0) → Result V Fault → Type 0
Answers None P (Ok v) = P v
Answers None P (Err f) = ⊥
Answers (Some f) P (Ok v) = ⊥
Answers (Some f) P (Err g) = g ≡ f
