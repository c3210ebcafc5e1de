-- What a line came to, and the text of it.
use Rattle.std.specs.Prelude.{◌≡◌, ℕ, List, [], Some, None, Ok, Err, Option, Result}
use Rattle.fault.specs.declared.Fault.{Fault}
use Rattle.legs.specs.declared.leg.Leg.{Ghosts as LegGhosts}
use Rattle.legs.specs.declared.measure.Measure.{Ghosts as MeasureGhosts}
use Rattle.legs.specs.declared.squared.Squared.{Squared}
use Rattle.legs.specs.declared.stepped.Stepped.{Stepped}
use Rattle.controller.specs.View.{book_of}
use Rattle.controller.specs.declared.calls.Reply.{Reply}
use Rattle.controller.specs.declared.calls.Reply.TheVariants.{Granted, Planned as PlannedReply, Denied}
use Rattle.console.specs.Lines.{Asked}
use Rattle.console.specs.Ready.{Npc}
use Rattle.console.specs.Texts.{reply_text}
use Rattle.console.specs.Turns.{Performed}
use Rattle.console.specs.declared.answer.Answer.{Answer}
use Rattle.console.specs.declared.answer.Answer.TheVariants.{Nothing, Done, Planned}

-- the reply to a call, if one was made
abbrev pub reply_in : Answer → Option (Reply ℕ)
reply_in Nothing = None
reply_in Done = Some Granted
reply_in (Planned p) = Some (PlannedReply p)

abbrev pub text_of : Option (Reply ℕ) → List ℕ
text_of None = []
text_of (Some r) = reply_text r

abbrev pub said : Result Answer Fault → Option (Reply ℕ)
said (Ok a) = reply_in a
said (Err f) = Some (Denied f)

abbrev pub answer_text : Result Answer Fault → List ℕ
answer_text r = text_of (said r)

-- a line that gets this refusal, if any, and otherwise asks for this, if for anything: its answer, and the controller after it
abbrev pub Responds : {ghosts_m : MeasureGhosts Squared ℕ} {ghosts_a ghosts_b ghosts_c : LegGhosts Stepped} → Option Fault → Option Asked → List ℕ → Npc ghosts_m ghosts_a ghosts_b ghosts_c → Option (Reply ℕ) → Npc ghosts_m ghosts_a ghosts_b ghosts_c → Type 0
Responds (Some f) a file c o d = (o ≡ Some (Denied f)) × (d ≡ c)
Responds None None file c o d = (o ≡ None) × (d ≡ c)
Responds None (Some a) file c o d = (r : Reply ℕ) × (o ≡ Some r) × Performed file a (book_of c) r (book_of d)
