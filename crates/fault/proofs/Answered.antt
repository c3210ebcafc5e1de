-- What follows from a refusal that is owed, or from none.
use Rattle.std.proofs.Common.{◌≡◌, ℕ, Bool, true, false, Some, None, Ok, Err, Option, refl, arith}
use Rattle.fault.specs.Refusals.{Answers, first_some, unless}
use Rattle.fault.specs.declared.Fault.{Fault}

-- the first of two refusals is passed on
pub passed_on : {V W : Type 0} (p q : Option Fault) (P : V → Type 0) (Q : W → Type 0) (f : Fault) → Answers p Q (Err f) → Answers (first_some p q) P (Err f)
passed_on None q P Q f a = absurd a
passed_on (Some g) q P Q f a = a

-- what is refused is refused whatever would have been answered
pub still_refused : {V W : Type 0} (p : Option Fault) (P : V → Type 0) (Q : W → Type 0) (f : Fault) → Answers p P (Err f) → Answers p Q (Err f)
still_refused None P Q f a = absurd a
still_refused (Some g) P Q f a = a

-- a value was answered, so nothing was refused
pub granted : {V : Type 0} (p : Option Fault) (P : V → Type 0) (v : V) → Answers p P (Ok v) → (p ≡ None) × P v
granted None P v a = (refl, a)
granted (Some g) P v a = absurd a

-- neither of two refusals
pub neither : (p q : Option Fault) → first_some p q ≡ None → (p ≡ None) × (q ≡ None)
neither None q e = (refl, e)
neither (Some f) q e = absurd (let z : ◌≡◌ {A = ℕ} 0 1 = cc in omega arith)

-- no refusal, so the condition was met
pub met : (b : Bool) (f : Fault) → unless b f ≡ None → b ≡ true
met true f e = refl
met false f e = absurd (let z : ◌≡◌ {A = ℕ} 0 1 = cc in omega arith)
