-- That the definitions fit together, and settle every answer.
use Rattle.std.specs.Prelude.{◌≡◌, ℕ, ◌<◌, List, length}
use Rattle.legs.specs.Measure.{Small}
use Rattle.decoder.specs.Limits.{most_entries}
use Rattle.decoder.specs.Sequences.{Problem, Sound, Ascending, DueNodes, difference}
use Rattle.decoder.specs.Guesses.{Placed, Rounded, Start}
use Rattle.decoder.specs.Answers.{Chosen, Decoded}
use Rattle.decoder.specs.Computed as computed
use Rattle.decoder.specs.Computed.{Computed}
use Rattle.decoder.specs.declared.Mark.{Mark}

-- the enumeration lists the due nodes, and no other list is one of them
pub record ListingStands (C : Type 0) : Type 0 where
  pub stands : (P : Problem C) (start : List ℕ) → DueNodes P start (computed.due_nodes P start)
  pub alone : (P : Problem C) (start : List ℕ) (nodes : List (List ℕ)) → DueNodes P start nodes → nodes ≡ computed.due_nodes P start

-- there is one rounded guess, and one start
pub record StartStands (C : Type 0) : Type 0 where
  pub rounded_stands : (P : Problem C) → Sound P → Placed P → Rounded P (computed.rounded P)
  pub rounded_alone : (P : Problem C) (p q : List ℕ) → Rounded P p → Rounded P q → p ≡ q
  pub start_stands : (P : Problem C) → Sound P → Placed P → Start P (computed.start P)
  pub start_alone : (P : Problem C) (s t : List ℕ) → Start P s → Start P t → s ≡ t

-- of visited nodes in order one is chosen, and no other
pub record ChoiceStands (C : Type 0) : Type 0 where
  pub stands : (P : Problem C) → Sound P → (start : List ℕ) (visited : List (List ℕ)) → length start ≡ P.entries → Ascending visited → Chosen P start visited (computed.cheapest P start visited)
  pub alone : (P : Problem C) → Sound P → (start : List ℕ) (visited : List (List ℕ)) (a b : List ℕ) → length start ≡ P.entries → Chosen P start visited a → Chosen P start visited b → a ≡ b

-- an answer is settled to the last entry: whoever keeps to the definitions comes to the same
pub record AnswerStands (C : Type 0) : Type 0 where
  pub stands : (P : Problem C) → Sound P → Placed P → (limit : ℕ) (sequence : List ℕ) (paid : C) (count : ℕ) (mark : Mark) → Computed P (computed.start P) limit sequence paid count mark → Decoded P limit sequence paid count mark
  pub alone : (P : Problem C) → Sound P → (limit : ℕ) (s t : List ℕ) (c d : C) (m n : ℕ) (k l : Mark) → Decoded P limit s c m k → Decoded P limit t d n l → (s ≡ t) × (c ≡ d) × (m ≡ n) × (k ≡ l)

-- a row's difference is never larger than a measure takes
abbrev pub DifferencesSmall : Type 0 → Type 0
DifferencesSmall C = (P : Problem C) → Sound P → (q : List ℕ) (j : ℕ) → j < most_entries → Small (difference P q j)
