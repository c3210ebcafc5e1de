-- What is printed: an answer as bytes.
use Rattle.std.specs.Prelude.{◌≡◌, ℕ, ◌+◌, List, ◌++◌, length, take, drop, ℤ, codes, decimal, slice_index}
use Rattle.std.specs.Fmt.{signed_decimal}
use Rattle.fault.specs.Printed.{refusal_line}
use Rattle.legs.specs.Kinds.{stepped}
use Rattle.legs.specs.Model.{LegModel}
use Rattle.decoder.specs.declared.Mark.{Mark}
use Rattle.decoder.specs.declared.Mark.TheVariants.{Certified, Stopped}
use Rattle.controller.specs.declared.calls.Reading.{Reading}
use Rattle.controller.specs.declared.calls.Reply.{Reply}
use Rattle.controller.specs.declared.calls.Reply.TheVariants.{Granted, Planned, Denied}

-- the leg of every phase
abbrev pub npc : LegModel
npc = stepped 1 1

abbrev pub mark_word : Mark → List ℕ
mark_word Certified = codes "certified"
mark_word Stopped = codes "stopped"

-- the levels of a plan's first stage
abbrev pub levels_text : ℤ → ℤ → ℤ → List ℕ
levels_text a b c = codes "ok " ++ signed_decimal a ++ codes " " ++ signed_decimal b ++ codes " " ++ signed_decimal c

-- what the search for it came to
abbrev pub search_text : ℕ → ℕ → Mark → List ℕ
search_text cost nodes mark = codes " cost " ++ decimal cost ++ codes " nodes " ++ decimal nodes ++ codes " " ++ mark_word mark ++ codes "\n"

-- the level of one of the first three entries
abbrev pub level_of : Reading ℕ → ℕ → ℤ
level_of p k = npc.level (slice_index p.entries k)

-- what is printed of a call's reply
abbrev pub reply_text : Reply ℕ → List ℕ
reply_text Granted = codes "ok\n"
reply_text (Planned p) = levels_text (level_of p 0) (level_of p 1) (level_of p 2) ++ search_text p.cost p.count p.mark
reply_text (Denied f) = refusal_line f ++ codes "\n"

-- a buffer before and after some bytes were written from `at` on, up to `end`: all else is as it was
pub record Puts (before : List ℕ) (at : ℕ) (bytes : List ℕ) (end : ℕ) (after : List ℕ) : Type 0 where
  pub place : end ≡ at + length bytes
  pub front : take end after ≡ take at before ++ bytes
  pub rest : drop end after ≡ drop end before
