-- The loops that read the entries.
use Rattle.std.proofs.Common.{◌≡◌, ℕ, ◌+◌, ◌<◌, ◌≤◌, List, [], ◌∷◌, ◌++◌, map, drop, set, ℤ, None, Some, Ok, Err, Option, sym, ap, ◌∙◌, subst, arith}
use Rattle.std.specs.List.{range_with_len}
use Rattle.std.proofs.lemmas.List.{drop_all, drop_more, length-set, take_more_set}
use Rattle.std.proofs.lemmas.List.FromFn.{map-range_with_len_more}
use Rattle.fault.proofs.Answered.{passed_on}
use Rattle.fault.specs.Refusals.{Answers, first_some}
use Rattle.fault.specs.declared.Fault.{Fault}
use Rattle.file.specs.Entered.{Entered}
use Rattle.file.specs.File.{word, offset, entry_refusal, entries_refusal}
use Rattle.file.specs.Layout.{cell, cells, columns, count}
use Rattle.file.specs.Places.{start_of}
use Rattle.file.specs.declared.layout.Cell.{Cell}
use Rattle.file.specs.declared.rows.Row.{Row}
use Rattle.file.proofs.Accepted.{place_inside}
use Rattle.file.proofs.Cells.{cells_length}
use Rattle.file.proofs.Places.{in_column}

-- the first k entries are read, and none of them is refused
pub record Reading (b : List ℕ) (n : ℕ) (es : List ℤ) (k : ℕ) : Type 0 where
  pub entered : Entered b n es k
  pub rest : entries_refusal (cells n) b 6 ≡ entries_refusal (drop k (cells n)) b (offset k)

-- how many entries stand in front of the next row, or in the whole file where there is none
abbrev pub reached : ℕ → Option Row → ℕ
reached n None = count n
reached n (Some r) = start_of r

-- before the column c of a row: entry k is read next, at its offset, and stands in the cell x; j entries are read
module _ (b : List ℕ) (n : ℕ) (es : List ℤ) (row : Row) (c j k at : ℕ) (x : Cell) (planned : row.horizon.stages ≡ n) (within : c < columns row.table row.horizon.stages row.row) (reaches : j ≡ start_of row + c) (placed : k ≡ start_of row + c) (stands : at ≡ offset k) (named : x ≡ cell row.table row.row c) (read : Reading b n es j) where
  inside : k < count n
  inside = subst (λ (m : ℕ). k < count m) planned (omega (arith, place_inside row.horizon.stages (cell row.table row.row c) (row.there, within), placed))

  here : Reading b n es k
  here = subst (Reading b n es) (omega (arith, reaches, placed)) read

  -- what the rest of the file owes
  owed : entries_refusal (cells n) b 6 ≡ first_some (entry_refusal x at (word b at)) (entries_refusal (drop (k + 1) (cells n)) b (offset (k + 1)))
  owed =
      let next : offset k + 4 ≡ offset (k + 1) = omega arith in
      here.rest
      ∙ ap (λ (xs : List Cell). entries_refusal xs b (offset k)) (drop_more (cells n) k x (omega (arith, inside, cells_length n)))
      ∙ ap (λ (y : Cell). entries_refusal (y ∷ drop (k + 1) (cells n)) b (offset k)) (in_column row n c k x x planned within placed named)
      ∙ ap (λ (i : ℕ). first_some (entry_refusal x (offset k) (word b (offset k))) (entries_refusal (drop (k + 1) (cells n)) b i)) next
      ∙ ap (λ (i : ℕ). first_some (entry_refusal x i (word b i)) (entries_refusal (drop (k + 1) (cells n)) b (offset (k + 1)))) (sym stands)

  pub reading_more : (z : ℤ) (m : ℕ) → count n ≤ 741 → entry_refusal x at (word b at) ≡ None → z ≡ word b at → m ≡ k + 1 → Reading b n (set es k z) m
  reading_more z m few o f g =
      subst (Reading b n (set es k z)) (sym g)
      (record {
        entered = record {
          sized = length-set es k z ∙ here.entered.sized;
          read =
              take_more_set es k z (omega (arith, here.entered.sized, inside, few))
              ∙ ap (λ (zs : List ℤ). zs ++ (z ∷ [])) here.entered.read
              ∙ ap (λ (v : ℤ). map (λ i. word b (offset i)) (range_with_len 0 k) ++ (v ∷ [])) (f ∙ ap (word b) stands)
              ∙ sym (map-range_with_len_more (λ i. word b (offset i)) 0 k k (omega arith));
        };
        rest = owed ∙ ap (λ (p : Option Fault). first_some p (entries_refusal (drop (k + 1) (cells n)) b (offset (k + 1)))) o;
      })

  -- the entry is refused
  pub broken : {V W : Type 0} (P : V → Type 0) (Q : W → Type 0) (f : Fault) → Answers (entry_refusal x at (word b at)) Q (Err f) → Answers (entries_refusal (cells n) b 6) P (Err f)
  broken P Q f a = subst (λ (p : Option Fault). Answers p P (Err f)) (sym owed) (passed_on _ _ P Q f a)

-- all entries are read
pub complete : (b : List ℕ) (n : ℕ) (es : List ℤ) (k : ℕ) → k ≡ count n → Reading b n es k → Answers (entries_refusal (cells n) b 6) (λ zs. Entered b n zs (count n)) (Ok es)
complete b n es k e r =
    subst (λ (p : Option Fault). Answers p (λ zs. Entered b n zs (count n)) (Ok es))
    (sym (r.rest ∙ ap (λ (xs : List Cell). entries_refusal xs b (offset k)) (drop_all k (cells n) (omega (arith, e, cells_length n)))))
    (subst (Entered b n es) e r.entered)
