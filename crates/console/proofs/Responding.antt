-- From what a line asks for to its answer.
use Rattle.std.proofs.Common.{ℕ, List, Some, None, Ok, Err, Option, sym, refl, ap, subst}
use Rattle.fault.specs.Refusals.{Answers}
use Rattle.fault.specs.declared.Fault.{Fault}
use Rattle.legs.specs.declared.leg.Leg.{Ghosts as LegGhosts}
use Rattle.legs.specs.declared.measure.Measure.{Ghosts as MeasureGhosts}
use Rattle.legs.specs.declared.squared.Squared.{Squared}
use Rattle.legs.specs.declared.stepped.Stepped.{Stepped}
use Rattle.controller.specs.View.{book_of}
use Rattle.controller.specs.declared.calls.Reply.{Reply}
use Rattle.controller.specs.declared.calls.Reply.TheVariants.{Denied}
use Rattle.console.specs.Lines.{Asked}
use Rattle.console.specs.Ready.{Complete, Npc}
use Rattle.console.specs.Requests.{Means, MeansMaybe}
use Rattle.console.specs.Said.{Responds, text_of}
use Rattle.console.specs.Turns.{Performed, Turn}
use Rattle.console.specs.declared.requests.Request.{Request}
use Rattle.console.specs.declared.requests.Request.TheVariants.{Load, Limit, Bar, Free, Plan}

means_complete : (q : Request) (a : Asked) → Means q a → Complete q
means_complete Load a m = tt
means_complete (Limit z) a m = tt
means_complete (Bar p) a m = tt
means_complete (Free p) a m = tt
means_complete (Plan n s) a m = m.0

module _ {ghosts_m : MeasureGhosts Squared ℕ} {ghosts_a ghosts_b ghosts_c : LegGhosts Stepped} (file : List ℕ) (c : Npc ghosts_m ghosts_a ghosts_b ghosts_c) where
  -- a line that is refused
  pub turned_down : (o : Option Fault) (a : Option Asked) (f : Fault) → Answers o (λ q. MeansMaybe q a) (Err f) → Responds o a file c (Some (Denied f)) c
  turned_down (Some g) a f e = (ap (λ x. Some (Denied x)) e, refl)
  turned_down None a f e = absurd e

  -- a line without words
  pub left_alone : (o : Option Fault) (a : Option Asked) → Answers o (λ q. MeansMaybe q a) (Ok None) → Responds o a file c None c
  left_alone (Some g) a e = absurd e
  left_alone None a e = subst (λ x. Responds None x file c None c) (sym e) (refl, refl)

  -- a line that asks for something
  pub carried_out : (o : Option Fault) (a : Option Asked) (q : Request) (d : Npc ghosts_m ghosts_a ghosts_b ghosts_c) (r : Reply ℕ) → Answers o (λ x. MeansMaybe x a) (Ok (Some q)) → ((x : Asked) → Means q x → Performed file x (book_of c) r (book_of d)) → Responds o a file c (Some r) d
  carried_out (Some g) a q d r e k = absurd e
  carried_out None (Some a) q d r e k = (r, refl, k a e)
  carried_out None None q d r e k = absurd e

  -- the text that a line comes to
  pub turned : (o : Option Fault) (a : Option Asked) (r : Option (Reply ℕ)) (d : Npc ghosts_m ghosts_a ghosts_b ghosts_c) → Responds o a file c r d → Turn o a file (book_of c) (text_of r) (book_of d)
  turned (Some f) a r d h = (ap text_of h.0, ap book_of h.1)
  turned None None r d h = (ap text_of h.0, ap book_of h.1)
  turned None (Some a) r d h = (h.0, ap text_of h.1, h.2)

pub asked_whole : (o : Option Fault) (a : Option Asked) (q : Request) → Answers o (λ x. MeansMaybe x a) (Ok (Some q)) → Complete q
asked_whole (Some g) a q e = absurd e
asked_whole None (Some a) q e = means_complete q a e
asked_whole None None q e = absurd e
