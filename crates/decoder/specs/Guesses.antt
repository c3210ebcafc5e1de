-- The guesses that a search may start from.
use Rattle.std.specs.Prelude.{◌≡◌, ℕ, ◌-◌, ◌<◌, ◌≤◌, ◌⊎◌, List, ◌++◌, length, drop, ℤ, pos, ◌-ℤ◌, ◌*ℤ◌, Some, slice_index, slice_index_or, unsigned_abs}
use Rattle.std.specs.Option.{option_map}
use Rattle.decoder.specs.Sequences.{Problem, leg_of, MayBe, Feasible, Cheaper}

-- how far a level lies from x, in counts
abbrev pub distance : ℤ → ℤ → ℕ
distance x level = unsigned_abs (x -ℤ (pos 4096 *ℤ level))

-- a sequence one stage later: its first stage is gone, and its last stands twice
abbrev pub moved_on : List ℕ → List ℕ
moved_on m = drop 3 m ++ drop (length m - 3) m

module _ {C : Type 0} (P : Problem C) where
  -- every phase stands in a position that its leg has
  abbrev pub Placed : Type 0
  Placed = (phase : ℕ) → phase < 3 → slice_index P.applied phase < (P.legs phase).count

  abbrev pub distance_at : ℕ → ℕ → ℕ
  distance_at j p = distance (slice_index_or P.unconstrained j (pos 0)) ((leg_of P j).level p)

  -- entry j of q is as near to the unconstrained optimum as a permitted one can be, and of those as near the lowest
  pub record Nearest (q : List ℕ) (j : ℕ) : Type 0 where
    pub permitted : MayBe P q j (slice_index q j)
    pub nearest : (p : ℕ) → MayBe P q j p → distance_at j (slice_index q j) ≤ distance_at j p
    pub lowest : (p : ℕ) → MayBe P q j p → distance_at j p ≡ distance_at j (slice_index q j) → slice_index q j ≤ p

  -- the rounded guess, each of whose entries is the nearest that those before it leave open
  pub record Rounded (q : List ℕ) : Type 0 where
    pub full : length q ≡ P.entries
    pub each : (j : ℕ) → j < P.entries → Nearest q j

  -- the remembered guess, if there is one
  abbrev pub Remembered : List ℕ → Type 0
  Remembered g = option_map moved_on P.remembered ≡ Some g

  -- a search starts from the rounded guess, unless there is a remembered guess that is feasible and cheaper
  pub record Start (s : List ℕ) : Type 0 where
    pub guess : List ℕ
    pub rounded : Rounded guess
    pub choice : (Remembered s × Feasible P s × Cheaper P s guess) ⊎ ((s ≡ guess) × ((g : List ℕ) → Remembered g → Feasible P g → Cheaper P g guess → ⊥))
