-- The same answer, computed by plain enumeration.
use Rattle.std.specs.Prelude.{◌≡◌, ℕ, zero, suc, min, Bool, true, cond, not, ◌&&◌, ◌||◌, List, [], ◌∷◌, ◌++◌, length, take, Some, None, fold, filter, Option, ◌==◌, nat_eq, nat_le, nat_lt, slice_index}
use mathlib.Core.List.{drop_last}
use Rattle.std.specs.List.{range_with_len, flat_map, list_all}
use Rattle.std.specs.Option.{option_map, unwrap_or}
use Rattle.std.specs.Ordering.{is_lt}
use Rattle.legs.specs.Measure.{at_most}
use Rattle.decoder.specs.Sequences.{Problem, leg_of, origin, cost, precedes}
use Rattle.decoder.specs.Guesses.{distance_at, moved_on}
use Rattle.decoder.specs.Answers.{marked}
use Rattle.decoder.specs.declared.Mark.{Mark}

abbrev pub or_zero : Option ℕ → ℕ
or_zero o = unwrap_or o 0

module _ {C : Type 0} (P : Problem C) where
  -- of a position found before and a higher one, the nearer in entry j, and the former where they tie
  abbrev pub nearer : ℕ → Option ℕ → ℕ → Option ℕ
  nearer j None p = Some p
  nearer j (Some b) p = cond (nat_le (distance_at P j b) (distance_at P j p)) (Some b) (Some p)

  -- the nearest of the positions below k that entry j can move to
  abbrev pub nearest_below : ℕ → ℕ → ℕ → Option ℕ
  nearest_below j from zero = None
  nearest_below j from (suc k) = cond ((leg_of P j).permits from k) (nearer j (nearest_below j from k) k) (nearest_below j from k)

  -- the first j entries of the rounded guess
  abbrev pub rounded_to : ℕ → List ℕ
  rounded_to zero = []
  rounded_to (suc j) = rounded_to j ++ (or_zero (nearest_below j (origin P (rounded_to j) j) (leg_of P j).count) ∷ [])

  abbrev pub rounded : List ℕ
  rounded = rounded_to P.entries

  abbrev pub may_be : List ℕ → ℕ → Bool
  may_be q j = nat_lt (slice_index q j) (leg_of P j).count && (leg_of P j).permits (origin P q j) (slice_index q j)

  -- the first k entries of q are permitted
  abbrev pub permitted_to : List ℕ → ℕ → Bool
  permitted_to q zero = true
  permitted_to q (suc j) = permitted_to q j && may_be q j

  abbrev pub feasible : List ℕ → Bool
  feasible f = length f == P.entries && permitted_to f P.entries

  abbrev pub cheaper : List ℕ → List ℕ → Bool
  cheaper x y = is_lt (P.measure.compare (cost P x) (cost P y))

  abbrev pub start_with : Option (List ℕ) → List ℕ
  start_with None = rounded
  start_with (Some g) = cond (feasible g && cheaper g rounded) g rounded

  abbrev pub start : List ℕ
  start = start_with (option_map moved_on P.remembered)

  -- the positions that may follow q
  abbrev pub moves : List ℕ → List ℕ
  moves q = filter ((leg_of P (length q)).permits (origin P q (length q))) (range_with_len 0 (leg_of P (length q)).count)

  -- what goes on from q by d permitted entries
  abbrev pub sequences : ℕ → List ℕ → List (List ℕ)
  sequences zero q = q ∷ []
  sequences (suc d) q = flat_map (λ p. sequences d (q ++ (p ∷ []))) (moves q)

  -- what goes on from q by 1 to d permitted entries
  abbrev pub beginnings : ℕ → List ℕ → List (List ℕ)
  beginnings zero q = []
  beginnings (suc d) q = flat_map (λ p. (q ++ (p ∷ [])) ∷ beginnings d (q ++ (p ∷ []))) (moves q)

  abbrev pub is_open : List ℕ → List ℕ → Bool
  is_open s q = at_most P.measure (cost P q) (cost P s) && list_all (λ f. not (precedes (take (length q) f) q) || at_most P.measure (cost P q) (cost P f)) (sequences P.entries [])

  abbrev pub is_due : List ℕ → List ℕ → Bool
  is_due s q = nat_le (length q) 1 || is_open s (drop_last q)

  abbrev pub due_nodes : List ℕ → List (List ℕ)
  due_nodes s = filter (is_due s) (beginnings P.entries [])

  -- of two the second, unless it is dearer
  abbrev pub better : List ℕ → List ℕ → List ℕ
  better b f = cond (at_most P.measure (cost P f) (cost P b)) f b

  abbrev pub cheapest : List ℕ → List (List ℕ) → List ℕ
  cheapest s visited = fold better s (filter (λ q. nat_eq (length q) P.entries) visited)

  -- the answer of a search that starts from s
  pub record Computed (s : List ℕ) (limit : ℕ) (sequence : List ℕ) (paid : C) (count : ℕ) (mark : Mark) : Type 0 where
    pub sequence_is : sequence ≡ cheapest s (take limit (due_nodes s))
    pub paid_is : paid ≡ cost P sequence
    pub count_is : count ≡ min limit (length (due_nodes s))
    pub mark_is : mark ≡ marked (nat_le (length (due_nodes s)) limit)
