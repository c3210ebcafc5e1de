-- One bar of three.
use Rattle.std.proofs.Common.{◌≡◌, ℕ, zero, suc, ◌<◌, Bool, true, false, cond, List, None, Option, set, sym, ap, ◌∙◌, arith}
use Rattle.fault.specs.Refusals.{first_some}
use Rattle.fault.specs.declared.Fault.{Fault}
use Rattle.legs.specs.Bars.{OneBar}
use Rattle.legs.specs.declared.barred.Barred.{Barred}
use Rattle.legs.specs.declared.leg.Leg.{Ghosts as LegGhosts}
use Rattle.legs.specs.declared.measure.Measure.{Ghosts as MeasureGhosts}
use Rattle.legs.specs.declared.phases.Legs.{Legs}
use Rattle.controller.specs.Book.{bars_of}
use Rattle.controller.specs.Logbook.{Logbook, open_refusal, phase_refusal}
use Rattle.controller.specs.View.{Does, Same, answer, book_of}
use Rattle.controller.specs.declared.calls.Call.TheVariants.{Bar, Free}
use Rattle.controller.specs.declared.calls.Reply.TheVariants.{Granted}
use Rattle.controller.specs.declared.state.Controller.{Controller}

pub one_bar : {A B C : Type 0} (p : ℕ) (bar : Bool) (x y : Legs (Barred A) (Barred B) (Barred C)) → OneBar p bar x y → p < 3 → bars_of y ≡ set (bars_of x) p bar
one_bar zero bar x y o h = cc (o.set 0, o.set 1, o.set 2)
one_bar (suc zero) bar x y o h = cc (o.set 0, o.set 1, o.set 2)
one_bar (suc (suc zero)) bar x y o h = cc (o.set 0, o.set 1, o.set 2)
one_bar (suc (suc (suc n))) bar x y o h = absurd (omega arith)

-- a logbook with other bars
abbrev with_bars : Logbook → List Bool → Logbook
with_bars b bars = record { applied = b.applied; bars = bars; limit = b.limit; tables = b.tables; plan = b.plan; remembered = b.remembered; pending = b.pending }

module _ {M A B C K : Type 0} {ghosts_m : MeasureGhosts M K} {ghosts_a : LegGhosts A} {ghosts_b : LegGhosts B} {ghosts_c : LegGhosts C} where
  -- a bar that was set or lifted is what the call asks for
  pub bar_does : (x y : Controller M A B C K ghosts_m ghosts_a ghosts_b ghosts_c) (p : ℕ) (bar : Bool) → book_of y ≡ with_bars (book_of x) (bars_of y.legs) → bars_of y.legs ≡ set (bars_of x.legs) p bar → y.plan ≡ x.plan → Same x y → first_some (open_refusal x.pending) (phase_refusal p) ≡ None → Does x (cond bar (Bar p) (Free p)) Granted y
  bar_does x y p true now bars plan same none = record {
    answers = ap (λ (o : Option Fault). answer {K = K} o) (sym none);
    after = now ∙ ap (with_bars (book_of x)) bars;
    readable = plan;
    untouched = tt;
    same = same;
  }
  bar_does x y p false now bars plan same none = record {
    answers = ap (λ (o : Option Fault). answer {K = K} o) (sym none);
    after = now ∙ ap (with_bars (book_of x)) bars;
    readable = plan;
    untouched = tt;
    same = same;
  }
