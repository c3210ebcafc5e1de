-- Sequences of positions: which are permitted, what they cost, in which order they stand, and which of their beginnings a search is due to visit.
-- A beginning is the first entries of a sequence, one or more. Entries, rows, phases and stages are numbered from 0.
use Rattle.std.specs.Prelude.{◌≡◌, ℕ, zero, suc, ◌+◌, ◌-◌, ◌*◌, ◌/◌, ◌%◌, ◌<◌, ◌≤◌, Bool, true, false, cond, ◌&&◌, ◌||◌, ◌⊎◌, List, [], ◌∷◌, length, take, ℤ, pos, ◌+ℤ◌, ◌-ℤ◌, ◌*ℤ◌, Option, ◌==◌, nat_lt, slice_index, slice_index_or}
use Rattle.std.specs.declared.cmp.Ordering.TheVariants.{Less}
use mathlib.Core.List.{drop_last}
use Rattle.std.specs.List.{AllByRecursion}
use Rattle.legs.specs.Model as leg
use Rattle.legs.specs.Model.{LegModel}
use Rattle.legs.specs.Measure as measure
use Rattle.legs.specs.Measure.{MeasureModel, at_most}
use Rattle.decoder.specs.Limits.{Within, most_coupling, most_target, most_entries}

-- What is decoded, with costs of type C.
pub record Problem (C : Type 0) : Type 0 where
  -- the leg of each phase
  pub legs : ℕ → LegModel
  pub measure : MeasureModel C
  -- how many entries a full sequence has
  pub entries : ℕ
  -- where each phase stands now
  pub applied : List ℕ
  -- the lower triangle of V, the generator of the lattice, row after row
  pub triangle : List ℤ
  -- what each row of V times the levels should come to
  pub target : List ℤ
  -- the optimum that heeds no leg, in counts
  pub unconstrained : List ℤ
  -- the sequence that was planned before, if any
  pub remembered : Option (List ℕ)

-- V's entry in row j and column k; the rows above have 1 + 2 + .. + j entries
abbrev pub coupling : List ℤ → ℕ → ℕ → ℤ
coupling triangle j k = slice_index_or triangle (j * (j + 1) / 2 + k) (pos 0)

-- f 0 + f 1 + .. , n terms
abbrev pub sum_below : (ℕ → ℤ) → ℕ → ℤ
sum_below f zero = pos 0
sum_below f (suc n) = sum_below f n +ℤ f n

-- a stands before b: it has the lower position in the first entry where they differ, or b goes on from it
abbrev pub precedes : List ℕ → List ℕ → Bool
precedes [] [] = false
precedes [] (y ∷ b) = true
precedes (x ∷ a) [] = false
precedes (x ∷ a) (y ∷ b) = nat_lt x y || (x == y && precedes a b)

-- a full sequence f stands before a beginning q: once it is cut to q's length it precedes q, and so is not q itself
abbrev pub Before : List ℕ → List ℕ → Type 0
Before f q = precedes (take (length q) f) q ≡ true

-- each precedes all that follow it
abbrev pub Ascending : List (List ℕ) → Type 0
Ascending [] = Unit {0}
Ascending (x ∷ xs) = AllByRecursion (λ y. precedes x y ≡ true) xs × Ascending xs

-- q is a member of a list
abbrev pub In : List ℕ → List (List ℕ) → Type 0
In q [] = ⊥
In q (x ∷ xs) = (q ≡ x) ⊎ In q xs

module _ {C : Type 0} (P : Problem C) where
  -- the leg that entry j is a position of: the phases take turns
  abbrev pub leg_of : ℕ → LegModel
  leg_of j = P.legs (j % 3)

  -- where entry j of q moves from: what its phase had a stage before, and in the first stage where it stands now
  abbrev pub origin : List ℕ → ℕ → ℕ
  origin q j = cond (nat_lt j 3) (slice_index P.applied j) (slice_index q (j - 3))

  -- entry j of q may be p
  pub record MayBe (q : List ℕ) (j p : ℕ) : Type 0 where
    pub exists : p < (leg_of j).count
    pub permitted : (leg_of j).permits (origin q j) p ≡ true

  -- each of its entries is permitted
  abbrev pub Permitted : List ℕ → Type 0
  Permitted q = (j : ℕ) → j < length q → MayBe q j (slice_index q j)

  -- a permitted sequence of full length
  pub record Feasible (f : List ℕ) : Type 0 where
    pub full : length f ≡ P.entries
    pub permitted : Permitted f

  -- V's entry in row j and column k, times the level of p
  abbrev pub term : ℕ → ℕ → ℕ → ℤ
  term j k p = coupling P.triangle j k *ℤ ((leg_of k).level p)

  -- what is left of row j's target once V times the level is taken off it for the first k entries
  abbrev pub left_over : List ℕ → ℕ → ℕ → ℤ
  left_over q j k = slice_index_or P.target j (pos 0) -ℤ sum_below (λ i. term j i (slice_index q i)) k

  -- by how much row j misses its target; V is lower triangular, so the entries up to j have a part in it
  abbrev pub difference : List ℕ → ℕ → ℤ
  difference q j = left_over q j (j + 1)

  -- the cost of the first j rows
  abbrev pub cost_to : List ℕ → ℕ → C
  cost_to q zero = P.measure.start
  cost_to q (suc j) = P.measure.after (cost_to q j) (difference q j)

  -- what a beginning or a full sequence costs: a row for each of its entries
  abbrev pub cost : List ℕ → C
  cost q = cost_to q (length q)

  -- x costs as much as y, or less
  abbrev pub NoDearer : List ℕ → List ℕ → Type 0
  NoDearer x y = at_most P.measure (cost x) (cost y) ≡ true

  -- x costs less than y
  abbrev pub Cheaper : List ℕ → List ℕ → Type 0
  Cheaper x y = P.measure.compare (cost x) (cost y) ≡ Less

  -- a beginning q may still lead to the answer: neither the start nor any feasible sequence that stands before q is cheaper
  pub record Open (start q : List ℕ) : Type 0 where
    pub against_start : NoDearer q start
    pub against_earlier : (f : List ℕ) → Feasible f → Before f q → NoDearer q f

  -- a beginning that a search has to visit: it is permitted, and what it goes on from is open, unless that is nothing at all
  pub record Due (start q : List ℕ) : Type 0 where
    pub some : 0 < length q
    pub fits : length q ≤ P.entries
    pub permitted : Permitted q
    pub opened : 1 < length q → Open start (drop_last q)

  -- the list of all due nodes, in order
  pub record DueNodes (start : List ℕ) (nodes : List (List ℕ)) : Type 0 where
    pub ascending : Ascending nodes
    pub each_due : (q : List ℕ) → In q nodes → Due start q
    pub every_due : (q : List ℕ) → Due start q → In q nodes

  -- what every problem keeps that the decoder is handed
  pub record Sound : Type 0 where
    pub legs_lawful : (phase : ℕ) → leg.Lawful (P.legs phase)
    pub measure_lawful : measure.Lawful P.measure
    pub some : 3 ≤ P.entries
    pub few : P.entries ≤ most_entries
    pub coupled : (i : ℕ) → Within most_coupling (slice_index_or P.triangle i (pos 0))
    pub aimed : (i : ℕ) → Within most_target (slice_index_or P.target i (pos 0))
