-- What a search answers.
use Rattle.std.specs.Prelude.{◌≡◌, ℕ, min, Bool, true, false, ◌⊎◌, List, length, take, nat_le}
use Rattle.decoder.specs.Sequences.{Problem, NoDearer, DueNodes, In, cost, precedes}
use Rattle.decoder.specs.Guesses.{Start}
use Rattle.decoder.specs.declared.Mark.{Mark}
use Rattle.decoder.specs.declared.Mark.TheVariants.{Certified, Stopped}

-- certified where the whole search fitted into the limit
abbrev pub marked : Bool → Mark
marked true = Certified
marked false = Stopped

module _ {C : Type 0} (P : Problem C) where
  -- f is a full sequence among those visited
  abbrev pub FullIn : List (List ℕ) → List ℕ → Type 0
  FullIn visited f = In f visited × (length f ≡ P.entries)

  -- as cheap as the start and as every full sequence visited; among equals the one visited last, and the start itself only where no visited one is as cheap
  pub record Chosen (start : List ℕ) (visited : List (List ℕ)) (best : List ℕ) : Type 0 where
    pub among : (best ≡ start) ⊎ FullIn visited best
    pub against_start : NoDearer P best start
    pub against_visited : (f : List ℕ) → FullIn visited f → NoDearer P best f
    pub ties : (f : List ℕ) → FullIn visited f → cost P f ≡ cost P best → FullIn visited best × ((f ≡ best) ⊎ (precedes f best ≡ true))

  -- the answer of a search that visits the due nodes in order, as many as the limit lets it
  pub record Decoded (limit : ℕ) (sequence : List ℕ) (paid : C) (count : ℕ) (mark : Mark) : Type 0 where
    pub start : List ℕ
    pub starts : Start P start
    pub nodes : List (List ℕ)
    pub due : DueNodes P start nodes
    pub chosen : Chosen start (take limit nodes) sequence
    pub paid_is : paid ≡ cost P sequence
    pub count_is : count ≡ min limit (length nodes)
    pub mark_is : mark ≡ marked (nat_le (length nodes) limit)
