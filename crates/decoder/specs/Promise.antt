-- What a user of the decoder may rely on.
use Rattle.std.specs.Prelude.{◌≡◌, ℕ, ◌≤◌, min, true, List, length, ◌≢◌}
use Rattle.decoder.specs.Sequences.{Problem, Feasible, NoDearer, DueNodes, cost, precedes}
use Rattle.decoder.specs.Guesses.{Rounded, Remembered, Start}
use Rattle.decoder.specs.declared.Mark.{Mark}
use Rattle.decoder.specs.declared.Mark.TheVariants.{Certified}

-- certified exactly where the limit covers the due nodes, of which no more than the limit are counted
pub record Counted (limit due count : ℕ) (mark : Mark) : Type 0 where
  pub covered : mark ≡ Certified → due ≤ limit
  pub covers : due ≤ limit → mark ≡ Certified
  pub count_is : count ≡ min limit due

module _ {C : Type 0} (P : Problem C) where
  -- feasible, as cheap as any, and behind all others that are as cheap
  pub record Optimal (f : List ℕ) : Type 0 where
    pub feasible : Feasible P f
    pub cheapest : (g : List ℕ) → Feasible P g → NoDearer P f g
    pub last : (g : List ℕ) → Feasible P g → cost P g ≡ cost P f → (g ≢ f) → precedes g f ≡ true

  -- feasible, and no dearer than either guess
  pub record Fair (f : List ℕ) : Type 0 where
    pub feasible : Feasible P f
    pub against_rounded : (r : List ℕ) → Rounded P r → NoDearer P f r
    pub against_remembered : (g : List ℕ) → Remembered P g → Feasible P g → NoDearer P f g

  pub record Promise (limit : ℕ) (sequence : List ℕ) (paid : C) (count : ℕ) (mark : Mark) : Type 0 where
    pub certified : mark ≡ Certified → Optimal sequence
    pub counted : (start : List ℕ) (nodes : List (List ℕ)) → Start P start → DueNodes P start nodes → Counted limit (length nodes) count mark
    pub paid_is : paid ≡ cost P sequence
    -- of a stopped answer too
    pub fair : Fair sequence
