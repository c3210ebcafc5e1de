-- A tree search with no legs in it. Here a beginning has its last entry first, so that `p ∷ s` is one entry longer than s,
-- and `onto s q` is s with the entries q behind it, q being in natural order.
use Rattle.std.proofs.Common.{◌≡◌, ℕ, zero, suc, ◌-◌, ◌<◌, ◌≤◌, min, Bool, true, false, cond, not, ◌&&◌, ◌||◌, eqb, ltb, leb, List, [], ◌∷◌, map, length, get_or, take, fold, filter}
use mathlib.Core.List.{drop_last, reverse_aux}
use Rattle.decoder.specs.Answers.{marked}
use Rattle.std.specs.List.{list_all, range_with_len, flat_map}
use Rattle.decoder.specs.declared.Mark.{Mark}

-- what may follow a beginning, what it costs, and how costs compare
pub record Rules (C : Type 0) : Type 0 where
  pub size : List ℕ → ℕ
  pub permits : List ℕ → ℕ → Bool
  pub cost : List ℕ → C
  pub leq : C → C → Bool

-- the laws of costs, asked only of beginnings with at most N entries
pub record Lawful {C : Type 0} (R : Rules C) (N : ℕ) : Type 0 where
  pub total : (s t : List ℕ) → length s ≤ N → length t ≤ N → R.leq (R.cost s) (R.cost t) ≡ false → R.leq (R.cost t) (R.cost s) ≡ true
  pub trans : (s t u : List ℕ) → length s ≤ N → length t ≤ N → length u ≤ N → R.leq (R.cost s) (R.cost t) ≡ true → R.leq (R.cost t) (R.cost u) ≡ true → R.leq (R.cost s) (R.cost u) ≡ true
  pub grows : (s : List ℕ) (p : ℕ) → length s < N → R.leq (R.cost s) (R.cost (p ∷ s)) ≡ true

-- f has the lower position in the first entry in which it differs from q
abbrev pub before : List ℕ → List ℕ → Bool
before f [] = false
before [] (y ∷ q) = false
before (x ∷ f) (y ∷ q) = ltb x y || (eqb x y && before f q)

abbrev pub none : {X : Type 0} → List X → Bool
none [] = true
none (x ∷ xs) = false

abbrev pub onto : List ℕ → List ℕ → List ℕ
onto s q = reverse_aux q s

module _ {C : Type 0} (R : Rules C) where
  -- the permitted positions that may follow s, from p upward
  abbrev pub rest : List ℕ → ℕ → List ℕ
  rest s p = filter (R.permits s) (range_with_len p (R.size s - p))

  abbrev pub moves : List ℕ → List ℕ
  moves s = rest s 0

  -- all ways to go on from s by d permitted entries
  abbrev pub fulls : ℕ → List ℕ → List (List ℕ)
  fulls zero s = [] ∷ []
  fulls (suc d) s = flat_map (λ p. map (λ f. p ∷ f) (fulls d (p ∷ s))) (moves s)

  -- all ways to go on from s by at least one permitted entry and at most d
  abbrev pub nodes : ℕ → List ℕ → List (List ℕ)
  nodes zero s = []
  nodes (suc d) s = flat_map (λ p. (p ∷ []) ∷ map (λ f. p ∷ f) (nodes d (p ∷ s))) (moves s)

  -- neither b nor any of fs before q is cheaper than q
  abbrev pub opens : List (List ℕ) → List ℕ → C → List ℕ → Bool
  opens fs s b q = R.leq (R.cost (onto s q)) b && list_all (λ f. not (before f q) || R.leq (R.cost (onto s q)) (R.cost (onto s f))) fs

  -- q is due, where fs are the full sequences and b the cost of the start
  abbrev pub due : List (List ℕ) → List ℕ → C → List ℕ → Bool
  due fs s b q = none (drop_last q) || opens fs s b (drop_last q)

  -- the due nodes, where the start costs b
  abbrev pub dues : ℕ → C → List (List ℕ)
  dues n b = filter (due (fulls n []) [] b) (nodes n [])

  -- of two the second, unless it is dearer
  abbrev pub pick : List ℕ → List ℕ → List ℕ
  pick b f = cond (R.leq (R.cost f) (R.cost b)) f b

  -- the nodes visited within a limit, and the answer among them
  abbrev pub visited : ℕ → ℕ → List ℕ → List (List ℕ)
  visited n limit start = map (onto []) (take limit (dues n (R.cost start)))

  abbrev pub answer : ℕ → ℕ → List ℕ → List ℕ
  answer n limit start = fold pick start (filter (λ q. eqb (length q) n) (visited n limit start))

  -- q may follow s, entry by entry
  abbrev pub Permitted : List ℕ → List ℕ → Type 0
  Permitted s [] = Unit {0}
  Permitted s (p ∷ q) = (p < R.size s) × (R.permits s p ≡ true) × Permitted (p ∷ s) q

  -- a full sequence that is permitted
  abbrev pub Whole : ℕ → List ℕ → Type 0
  Whole n f = (length f ≡ n) × Permitted [] f

  -- a is as cheap as any, and behind all others as cheap
  pub record Optimal (n : ℕ) (a : List ℕ) : Type 0 where
    pub whole : Whole n a
    pub least : (f : List ℕ) → Whole n f → R.leq (R.cost (onto [] a)) (R.cost (onto [] f)) ≡ true
    pub last : (f : List ℕ) → Whole n f → R.cost (onto [] f) ≡ R.cost (onto [] a) → (f ≡ a → ⊥) → before f a ≡ true

  -- a is no dearer than the start
  pub record Fair (n : ℕ) (start a : List ℕ) : Type 0 where
    pub whole : Whole n a
    pub least : R.leq (R.cost (onto [] a)) (R.cost (onto [] start)) ≡ true

  -- what the test `opens` decides, over all full sequences
  abbrev pub Opens : ℕ → C → List ℕ → Type 0
  Opens n b q = (R.leq (R.cost (onto [] q)) b ≡ true) × ((f : List ℕ) → Whole n f → before f q ≡ true → R.leq (R.cost (onto [] q)) (R.cost (onto [] f)) ≡ true)

-- the first j entries of an array, the last of them first
abbrev pub backward : ℕ → List ℕ → List ℕ
backward zero xs = []
backward (suc j) xs = get_or xs j 0 ∷ backward j xs

-- what a search ends with
pub record Found {C : Type 0} (R : Rules C) (n limit : ℕ) (start best : List ℕ) (cost : C) (count : ℕ) (mark : Mark) : Type 0 where
  pub best_is : best ≡ answer R n limit start
  pub cost_is : cost ≡ R.cost best
  pub count_is : count ≡ min limit (length (dues R n (R.cost start)))
  pub mark_is : mark ≡ marked (leb (length (dues R n (R.cost start))) limit)
