-- What an answer of the decoder comes to.
use Rattle.std.specs.Prelude.{◌≡◌, ℕ, List, take}
use Rattle.decoder.specs.Sequences.{Problem, cost}
use Rattle.decoder.specs.Guesses.{Placed}
use Rattle.decoder.specs.Answers.{Decoded}
use Rattle.decoder.specs.Promise.{Promise}
use Rattle.decoder.specs.Computed.{Computed, start}
use Rattle.decoder.specs.Tasks.{Holds}
use Rattle.decoder.specs.declared.Answer.{Answer}
use Rattle.decoder.specs.declared.guesses.Priced.{Priced}

module _ {C : Type 0} (P : Problem C) where
  -- the entries within the horizon
  abbrev pub sequence_of : Answer C → List ℕ
  sequence_of a = take P.entries a.sequence

  -- it is the computed one
  abbrev pub AsComputed : ℕ → Answer C → Type 0
  AsComputed limit a = Computed P (start P) limit (sequence_of a) a.cost a.count a.mark

  -- it is the defined one, where every phase stands in a position that its leg has
  abbrev pub AsDefined : ℕ → Answer C → Type 0
  AsDefined limit a = Placed P → Decoded P limit (sequence_of a) a.cost a.count a.mark

  -- and keeps what is promised there
  abbrev pub AsPromised : ℕ → Answer C → Type 0
  AsPromised limit a = Placed P → Promise P limit (sequence_of a) a.cost a.count a.mark

  -- what a search starts from: the computed start, at its cost
  pub record Started (s : Priced C) : Type 0 where
    pub holds : Holds P.entries s.sequence (start P)
    pub cost_is : s.cost ≡ cost P (start P)
