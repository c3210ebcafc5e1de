-- What a run keeps from call to call.
use Rattle.std.proofs.Common.{◌≡◌, ℕ, List, [], ◌∷◌, ◌++◌, map, length, sym, refl, ap, ◌∙◌, subst, arith}
use Rattle.std.proofs.lemmas.List.{map-append}
use Rattle.legs.specs.Measure.{MeasureModel}
use Rattle.legs.specs.Model.{LegModel}
use Rattle.legs.specs.declared.leg.Leg.{Ghosts as LegGhosts}
use Rattle.legs.specs.declared.measure.Measure.{Ghosts as MeasureGhosts}
use Rattle.controller.specs.Law.{Answered, Lawful, Run}
use Rattle.controller.specs.Logbook.{Logbook, first_day, logbook, step}
use Rattle.controller.specs.Problems.{Setup}
use Rattle.controller.specs.View.{Same, book_of, setup_of}
use Rattle.controller.specs.declared.calls.Call.{Call}
use Rattle.controller.specs.declared.calls.Event.{Event}
use Rattle.controller.specs.declared.state.Controller.{Controller}
use Rattle.controller.proofs.Histories.{lawful_push, logbook_push}
use Rattle.replay.specs.Turns.{Turns}

module _ {M A B C K : Type 0} {ghosts_m : MeasureGhosts M K} {ghosts_a : LegGhosts A} {ghosts_b : LegGhosts B} {ghosts_c : LegGhosts C} (m : M → MeasureModel K) (a : A → LegModel) (b : B → LegModel) (c : C → LegModel) where
  -- after the calls so far, with their events, from the logbook `start`
  pub record Going (s : Setup K) (id : ℕ) (start : Logbook) (x : Controller M A B C K ghosts_m ghosts_a ghosts_b ghosts_c) (calls : List Call) (es : List (Event K)) : Type 0 where
    pub setup : setup_of m a b c x ≡ s
    pub identity : x.identity ≡ id
    pub book : book_of x ≡ logbook start es
    pub asked : map (λ e. e.call) es ≡ calls
    pub lawful : Lawful s id start es

  -- before the first call
  pub begun : (x : Controller M A B C K ghosts_m ghosts_a ghosts_b ghosts_c) (es : List (Event K)) → es ≡ [] → Going (setup_of m a b c x) x.identity (book_of x) x [] es
  begun x es none = record {
    setup = refl;
    identity = refl;
    book = ap (logbook (book_of x)) (sym none);
    asked = ap (map (λ e. e.call)) none;
    lawful = λ n d h. absurd (omega (arith, ap length none));
  }

  same_setup : (x y : Controller M A B C K ghosts_m ghosts_a ghosts_b ghosts_c) → Same x y → setup_of m a b c y ≡ setup_of m a b c x
  same_setup x y e = let p = e.measure in let q = e.leg_a in let r = e.leg_b in let t = e.leg_c in cc

  pub going_on : {s : Setup K} {id : ℕ} {start : Logbook} {x y : Controller M A B C K ghosts_m ghosts_a ghosts_b ghosts_c} {calls calls' : List Call} {es es' : List (Event K)} (e : Event K) → Going s id start x calls es → Turns (setup_of m a b c x) x e.call e.reply y → calls' ≡ calls ++ (e.call ∷ []) → es' ≡ es ++ (e ∷ []) → Going s id start y calls' es'
  going_on {s} {id} {start} {x} {y} {calls} {calls'} {es} {es'} e g t asks grown =
      let told : Answered s x.identity (book_of x) e.call e.reply = subst (λ (z : Setup K). Answered z x.identity (book_of x) e.call e.reply) g.setup t.answers in
      let here : Answered s id (logbook start es) e.call e.reply =
      subst (λ (n : ℕ). Answered s n (logbook start es) e.call e.reply) g.identity
      (subst (λ (k : Logbook). Answered s x.identity k e.call e.reply) g.book told) in
      record {
        setup = same_setup x y t.same ∙ g.setup;
        identity = t.same.identity ∙ g.identity;
        book = t.after ∙ ap (λ k. step k e.call e.reply) g.book ∙ sym (logbook_push start es e) ∙ ap (logbook start) (sym grown);
        asked = ap (map (λ e. e.call)) grown ∙ map-append (λ e. e.call) es (e ∷ []) ∙ ap (λ l. l ++ (e.call ∷ [])) g.asked ∙ sym asks;
        lawful = subst (λ (l : List (Event K)). Lawful s id start l) (sym grown) (lawful_push s id start es e g.lawful here);
      }

  -- a run that began on the first day
  pub gone : (x : Controller M A B C K ghosts_m ghosts_a ghosts_b ghosts_c) → {s : Setup K} {id : ℕ} {rests : List ℕ} {y : Controller M A B C K ghosts_m ghosts_a ghosts_b ghosts_c} {calls calls' : List Call} {es : List (Event K)} → Going (setup_of m a b c x) x.identity (book_of x) y calls es → setup_of m a b c x ≡ s → x.identity ≡ id → book_of x ≡ first_day rests → calls ≡ calls' → Run s id rests calls' es
  gone x {s} {id} {rests} {y} {calls} {calls'} {es} g p i f all = record {
    asked = g.asked ∙ all;
    lawful =
        subst (λ (z : Setup K). Lawful z id (first_day rests) es) p
        (subst (λ (n : ℕ). Lawful (setup_of m a b c x) n (first_day rests) es) i
        (subst (λ (k : Logbook). Lawful (setup_of m a b c x) x.identity k es) f g.lawful));
  }
