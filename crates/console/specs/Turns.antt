-- What a console does with a line: what it prints, and what its controller's logbook is afterwards.
use Rattle.std.specs.Prelude.{◌≡◌, ℕ, ◌<◌, ◌≤◌, List, [], length, take, drop, ℤ, pos, negsuc, Some, None, Ok, Err, Option, Result}
use Rattle.std.specs.Borrow.{Bor}
use Rattle.fault.specs.declared.Fault.{Fault}
use Rattle.legs.specs.Measures.{squared}
use Rattle.controller.specs.Law.{Answered}
use Rattle.controller.specs.Logbook as book
use Rattle.controller.specs.Logbook.{Logbook, granted}
use Rattle.controller.specs.Problems.{Setup, built}
use Rattle.controller.specs.declared.calls.Call.{Call}
use Rattle.controller.specs.declared.calls.Call.TheVariants.{Load, Limit, Bar, Free, Plan, Fire, Withdraw}
use Rattle.controller.specs.declared.calls.Reply.{Reply}
use Rattle.controller.specs.declared.calls.Reply.TheVariants.{Granted, Planned, Denied}
use Rattle.console.specs.Lines.{Asked, load, limit, bar, free, step, try, asked, line_refusal}
use Rattle.console.specs.Texts.{Puts, npc, reply_text}
use Rattle.console.specs.Words.{words}
use Rattle.fault.specs.Rules.{refused}
use Rattle.fault.specs.declared.rule.Rule.TheVariants.{AnswerBuffer}

-- the identity of the console's controller, and of its orders
abbrev pub identity : ℕ
identity = 1

-- what the controller is built with
abbrev pub npc_setup : Setup ℕ
npc_setup = built squared npc npc npc

-- the least room that the caller's buffer must have
abbrev pub room : ℕ
room = 96

-- something behind a reference, wherever it lies
abbrev pub lent : {X : Type 0} → X → Bor X
lent x = record { ref_ptr = (0, 0); now = x }

-- a number as a limit; what is below 0 is passed on as 0
abbrev pub as_limit : ℤ → ℕ
as_limit (pos n) = n
as_limit (negsuc n) = 0

-- the call that is asked for, on a console with this table file
abbrev pub call_of : List ℕ → Asked → Call
call_of file load = Load (lent file)
call_of file (limit z) = Limit (as_limit z)
call_of file (bar p) = Bar p
call_of file (free p) = Free p
call_of file (step xs) = Plan (take 2 xs) (lent (drop 2 xs))
call_of file (try xs) = Plan (take 2 xs) (lent (drop 2 xs))

-- how the order of a granted plan is spent: a step is fired, and a try is withdrawn
abbrev pub spent : Asked → Logbook → Logbook
spent load b = b
spent (limit z) b = b
spent (bar p) b = b
spent (free p) b = b
spent (step xs) b = granted b (Fire identity)
spent (try xs) b = granted b (Withdraw identity)

-- the logbook after a call and its reply
abbrev pub closed : Asked → Call → Logbook → Reply ℕ → Logbook
closed a c b Granted = granted b c
closed a c b (Planned p) = spent a (book.step b c (Planned p))
closed a c b (Denied f) = b

-- what is asked for is done: the controller answers as its law says, and the logbook goes on with it
pub record Performed (file : List ℕ) (a : Asked) (before : Logbook) (r : Reply ℕ) (after : Logbook) : Type 0 where
  pub answers : Answered npc_setup identity before (call_of file a) r
  pub book : after ≡ closed a (call_of file a) before r

-- a line that gets this refusal, if any, and otherwise asks for this, if for anything: the text printed, and the logbook after it
abbrev pub Turn : Option Fault → Option Asked → List ℕ → Logbook → List ℕ → Logbook → Type 0
Turn (Some f) a file before text after = (text ≡ reply_text (Denied f)) × (after ≡ before)
Turn None None file before text after = (text ≡ []) × (after ≡ before)
Turn None (Some a) file before text after = (r : Reply ℕ) × (text ≡ reply_text r) × Performed file a before r after

-- the line's answer stands in front of the buffer, and what stood behind is as it was
pub record Prints (file line : List ℕ) (before : Logbook) (out : List ℕ) (n : ℕ) (out' : List ℕ) (after : Logbook) : Type 0 where
  pub wide : room ≤ length out
  pub text : List ℕ
  pub written : Puts out 0 text n out'
  pub fits : n ≤ room
  pub turn : Turn (line_refusal line) (asked (words line)) file before text after

-- 45: a buffer that is too short is refused, and nothing is touched; otherwise the line is answered
abbrev pub AnswersLine : List ℕ → List ℕ → Logbook → List ℕ → Result ℕ Fault → List ℕ → Logbook → Type 0
AnswersLine file line before out (Ok n) out' after = Prints file line before out n out' after
AnswersLine file line before out (Err f) out' after = (length out < room) × (f ≡ refused AnswerBuffer 0) × (out' ≡ out) × (after ≡ before)
