-- One call of a recording.
use Rattle.std.specs.Prelude.{◌≡◌}
use Rattle.legs.specs.declared.leg.Leg.{Ghosts as LegGhosts}
use Rattle.legs.specs.declared.measure.Measure.{Ghosts as MeasureGhosts}
use Rattle.controller.specs.Law.{Answered}
use Rattle.controller.specs.Logbook.{step}
use Rattle.controller.specs.Problems.{Setup}
use Rattle.controller.specs.View.{Same, book_of}
use Rattle.controller.specs.declared.calls.Call.{Call}
use Rattle.controller.specs.declared.calls.Reply.{Reply}
use Rattle.controller.specs.declared.state.Controller.{Controller}

module _ {M A B C K : Type 0} {ghosts_m : MeasureGhosts M K} {ghosts_a : LegGhosts A} {ghosts_b : LegGhosts B} {ghosts_c : LegGhosts C} where
  -- a call was answered as the logbook says, and the logbook goes on with it
  pub record Turns (s : Setup K) (c : Controller M A B C K ghosts_m ghosts_a ghosts_b ghosts_c) (call : Call) (r : Reply K) (d : Controller M A B C K ghosts_m ghosts_a ghosts_b ghosts_c) : Type 0 where
    pub answers : Answered s c.identity (book_of c) call r
    pub after : book_of d ≡ step (book_of c) call r
    pub same : Same c d
