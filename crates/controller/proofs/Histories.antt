-- One event more.
use Rattle.std.proofs.Common.{◌≡◌, ℕ, ◌<◌, List, [], ◌∷◌, ◌++◌, length, get_or, take, sym, refl, subst, arith, length-append, below_more}
use lib.Seq.{take-append-le, take-append_seam, get_or-append_seam}
use Rattle.std.proofs.lemmas.List.{get_or_append_left}
use Rattle.controller.specs.Law.{Answered, Lawful}
use Rattle.controller.specs.Logbook.{Logbook, logbook, step}
use Rattle.controller.specs.Problems.{Setup}
use Rattle.controller.specs.declared.calls.Event.{Event}

pub logbook_push : {K : Type 0} (b : Logbook) (es : List (Event K)) (e : Event K) → logbook b (es ++ (e ∷ [])) ≡ step (logbook b es) e.call e.reply
logbook_push b [] e = refl
logbook_push b (x ∷ es) e = logbook_push (step b x.call x.reply) es e

module _ {K : Type 0} (s : Setup K) (id : ℕ) (b : Logbook) where
  -- what the event x was answered after the events t
  abbrev At : List (Event K) → Event K → Type 0
  At t x = Answered s id (logbook b t) x.call x.reply

  pub lawful_push : (es : List (Event K)) (e : Event K) → Lawful s id b es → At es e → Lawful s id b (es ++ (e ∷ []))
  lawful_push es e law here k d h =
      let P : ℕ → Type 0 = λ n. At (take n (es ++ (e ∷ []))) (get_or (es ++ (e ∷ [])) n d) in
      let old : (n : ℕ) → n < length es → P n = λ n lt.
      subst (λ (t : List (Event K)). At t (get_or (es ++ (e ∷ [])) n d)) (sym (take-append-le n es (e ∷ []) (omega arith)))
      (subst (λ (x : Event K). At (take n es) x) (sym (get_or_append_left es (e ∷ []) d n lt)) (law n d lt)) in
      let new : P (length es) =
      subst (λ (t : List (Event K)). At t (get_or (es ++ (e ∷ [])) (length es) d)) (sym (take-append_seam es (e ∷ [])))
      (subst (λ (x : Event K). At es x) (sym (get_or-append_seam es e [] d)) here) in
      below_more P (length es) old new k (omega (arith, length-append es (e ∷ []), h))
