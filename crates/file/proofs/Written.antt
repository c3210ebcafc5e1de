-- What is written reads back.
use Rattle.std.proofs.Common.{◌≡◌, ℕ, suc, ◌+◌, ◌*◌, ◌<◌, Bool, true, false, not, ◌&&◌, ◌||◌, eqb, leb, List, [], ◌∷◌, ◌++◌, map, length, get_or, take, drop, ℤ, pos, ◌≤ℤ◌, None, Option, sym, refl, ap, ◌∙◌, subst, arith, w32, SFits, eq-eqb}
use lib.Signed.{le_z}
use Rattle.std.specs.List.{range_with_len, flat_map}
use Rattle.std.proofs.lemmas.List.FromFn.{get_or-map-range_with_len, length-map-range_with_len}
use Rattle.std.proofs.lemmas.List.{append_assoc, drop_at, drop-drop, ext_get_or, get_or-take, flat_map_more, length-append, length-take-le, take_all, take_at, take_more}
use Rattle.std.proofs.lemmas.Slice.{drop-append-drop}
use Rattle.std.proofs.lemmas.Int.{ints}
use Rattle.std.proofs.lemmas.Bool.{eqb-true, le-leb}
use Rattle.std.proofs.lemmas.Bool.Decides.{nat_tests}
use Rattle.fault.specs.Refusals.{first_some, unless}
use Rattle.fault.specs.declared.Fault.{Fault}
use Rattle.file.specs.File.{TableData, Sound, entry, le4, word, offset, header, file_length, file_of, header_refusal, entry_refusal, entries_refusal, file_refusal, tables_of}
use Rattle.file.specs.Layout.{rows, Limited, limited, least, greatest, count, index, cell, CellOf, cells, on_diagonal, is_generator}
use Rattle.file.specs.Tables.{Written, data_of}
use Rattle.file.specs.declared.layout.Cell.{Cell}
use Rattle.file.specs.declared.layout.Table.{Table}
use Rattle.file.specs.declared.layout.Table.TheVariants.{Weight, Gamma, Upsilon, Unconstrained, Target, Generator}
use Rattle.file.specs.declared.tables.Tables.{Tables}
use Rattle.file.proofs.Accepted.{place_inside}
use Rattle.file.proofs.Cells.{cells_length}
use Rattle.file.proofs.Sizes.{count_bound}
use Rattle.file.proofs.Walk.{each_cell}
use Rattle.file.proofs.Words.{word_written, words_length}
use Rattle.fault.specs.Rules.{refused}
use Rattle.fault.specs.declared.rule.Rule.TheVariants.{EntryLimits, PositiveDiagonal}

-- tables as a value of the type has them are sound
pub sound_data : (t : Tables) → Sound (data_of t)
sound_data t =
    let n = t.horizon.stages in
    record {
      some = t.horizon.some;
      few = t.horizon.few;
      sized = length-take-le (count n) t.entries (omega (arith, count_bound n t.horizon.some t.horizon.few, t.sized));
      limited = λ s r c h k. subst (Limited s) (sym (get_or-take (count n) t.entries (index s n r c) (pos 0) (place_inside n (cell s r c) (h, k)))) (t.limited (cell s r c) (h, k));
      diagonal = λ r h. subst (λ (z : ℤ). pos 1 ≤ℤ z) (sym (get_or-take (count n) t.entries (index Generator n r r) (pos 0) (place_inside n (cell Generator r r) (h, omega arith)))) (t.diagonal r h);
    }

limits_fit : (t : Table) (z : ℤ) → Limited t z → SFits w32 z
limits_fit Weight z h = omega (arith, ints)
limits_fit Gamma z h = omega (arith, ints)
limits_fit Upsilon z h = omega (arith, ints)
limits_fit Unconstrained z h = omega (arith, ints)
limits_fit Target z h = omega (arith, ints)
limits_fit Generator z h = omega (arith, ints)

clear : (b : Bool) (f : Fault) → b ≡ true → unless b f ≡ None
clear true f e = refl
clear false f e = absurd cc

limited_true : (low high z : ℤ) → low ≤ℤ z → z ≤ℤ high → (le_z low z && le_z z high) ≡ true
limited_true low high z h k = grind (arith, ints, nat_tests)

diagonal_true : (b : Bool) (z : ℤ) → (b ≡ true → pos 1 ≤ℤ z) → (not b || le_z (pos 1) z) ≡ true
diagonal_true true z h = let k = h refl in grind (arith, ints, nat_tests)
diagonal_true false z h = refl

entry_kept : (x : Cell) (at : ℕ) (z : ℤ) → Limited x.table z → (on_diagonal x ≡ true → pos 1 ≤ℤ z) → entry_refusal x at z ≡ None
entry_kept x at z l d =
    ap (λ (p : Option Fault). first_some p (unless (not (on_diagonal x) || le_z (pos 1) z) (refused PositiveDiagonal at)))
    (clear (limited x.table z) (refused EntryLimits at) (limited_true (least x.table) (greatest x.table) z l.0 l.1))
    ∙ clear (not (on_diagonal x) || le_z (pos 1) z) (refused PositiveDiagonal at) (diagonal_true (on_diagonal x) z d)

all_kept : (xs : List Cell) (b : List ℕ) (at : ℕ) (d : Cell) → ((i : ℕ) → i < length xs → entry_refusal (get_or xs i d) (at + 4 * i) (word b (at + 4 * i)) ≡ None) → entries_refusal xs b at ≡ None
all_kept [] b at d h = refl
all_kept (x ∷ xs) b at d h =
    let here : at + 4 * 0 ≡ at = omega arith in
    let first : entry_refusal x at (word b at) ≡ None = subst (λ (i : ℕ). entry_refusal x i (word b i) ≡ None) here (h 0 (omega arith)) in
    ap (λ (p : Option Fault). first_some p (entries_refusal xs b (at + 4))) first
    ∙ all_kept xs b (at + 4) d (λ i l.
    let there : at + 4 * suc i ≡ at + 4 + 4 * i = omega arith in
    subst (λ (j : ℕ). entry_refusal (get_or xs i d) j (word b j) ≡ None) there (h (suc i) (omega arith)))

module _ (d : TableData) (s : Sound d) where
  at_place : (k : ℕ) (x : Cell) → CellOf d.horizon k x → entry d x.table x.row x.column ≡ get_or d.entries k (pos 0)
  at_place k x c = ap (λ (i : ℕ). get_or d.entries i (pos 0)) c.1

  fits : (i : ℕ) → i < length d.entries → SFits w32 (get_or d.entries i (pos 0))
  fits i h =
      let x = get_or (cells d.horizon) i (cell Weight 0 0) in
      let c : CellOf d.horizon i x = each_cell d.horizon i (cell Weight 0 0) s.some (omega (arith, s.sized)) in
      subst (SFits w32) (at_place i x c) (limits_fit x.table (entry d x.table x.row x.column) (s.limited x.table x.row x.column c.0.0 c.0.1))

  says : (k : ℕ) → k < count d.horizon → word (file_of d) (offset k) ≡ get_or d.entries k (pos 0)
  says k h = word_written d.horizon d.entries k (omega (arith, s.sized)) fits

  pub file_sized : length (file_of d) ≡ file_length d.horizon
  file_sized = length-append (header d.horizon) (flat_map le4 d.entries) ∙ omega (arith, words_length d.entries, s.sized)

  header_kept : header_refusal (file_of d) ≡ None
  header_kept =
      let n = d.horizon in
      let long : leb 6 (length (file_of d)) ≡ true = le-leb 6 (length (file_of d)) (omega (arith, file_sized)) in
      let some : leb 1 n ≡ true = le-leb 1 n s.some in
      let few : leb n 5 ≡ true = le-leb n 5 s.few in
      let sized : eqb (length (file_of d)) (file_length n) ≡ true = eq-eqb (length (file_of d)) (file_length n) file_sized in
      simp (long, some, few, sized)

  diagonal_kept : (x : Cell) → x.row < rows x.table d.horizon → on_diagonal x ≡ true → pos 1 ≤ℤ entry d x.table x.row x.column
  diagonal_kept x h e = on_it x.table x.row x.column h e
    where
      on_it : (t : Table) (r c : ℕ) → r < rows t d.horizon → (is_generator t && eqb r c) ≡ true → pos 1 ≤ℤ entry d t r c
      on_it Weight r c h e = absurd cc
      on_it Gamma r c h e = absurd cc
      on_it Upsilon r c h e = absurd cc
      on_it Unconstrained r c h e = absurd cc
      on_it Target r c h e = absurd cc
      on_it Generator r c h e = subst (λ (k : ℕ). pos 1 ≤ℤ entry d Generator r k) (eqb-true r c e) (s.diagonal r h)

  entries_kept : entries_refusal (cells d.horizon) (file_of d) 6 ≡ None
  entries_kept = all_kept (cells d.horizon) (file_of d) 6 (cell Weight 0 0) (λ i h.
      let n = d.horizon in
      let x = get_or (cells n) i (cell Weight 0 0) in
      let l : i < count n = omega (arith, cells_length n) in
      let c : CellOf n i x = each_cell n i (cell Weight 0 0) s.some l in
      let e : entry d x.table x.row x.column ≡ word (file_of d) (offset i) = at_place i x c ∙ sym (says i l) in
      entry_kept x (offset i) (word (file_of d) (offset i)) (subst (Limited x.table) e (s.limited x.table x.row x.column c.0.0 c.0.1))
      (λ g. subst (λ (z : ℤ). pos 1 ≤ℤ z) e (diagonal_kept x c.0.0 g)))

  pub accepted : file_refusal (file_of d) ≡ None
  accepted = ap (λ (p : Option Fault). first_some p (entries_refusal (cells d.horizon) (file_of d) 6)) header_kept ∙ entries_kept

  pub read_back : tables_of (file_of d) ≡ d
  read_back =
      ap (λ (zs : List ℤ). record { horizon = d.horizon; entries = zs })
      (ext_get_or (pos 0) (map (λ k. word (file_of d) (offset k)) (range_with_len 0 (count d.horizon))) d.entries
      (length-map-range_with_len (λ k. word (file_of d) (offset k)) 0 (count d.horizon) ∙ sym s.sized)
      (λ i h.
      let l : i < count d.horizon = omega (arith, length-map-range_with_len (λ k. word (file_of d) (offset k)) 0 (count d.horizon)) in
      get_or-map-range_with_len (λ k. word (file_of d) (offset k)) 0 (count d.horizon) i i (pos 0) l (omega arith) ∙ says i l))

-- one entry more
pub word_more : (n : ℕ) (es : List ℤ) (k : ℕ) (z : ℤ) (was out next : List ℕ) → k < length es → out ≡ (header n ++ flat_map le4 (take k es)) ++ drop (offset k) was → next ≡ take (offset k) out ++ (le4 z ++ drop (offset k + 4) out) → z ≡ get_or es k (pos 0) → next ≡ (header n ++ flat_map le4 (take (k + 1) es)) ++ drop (offset (k + 1)) was
word_more n es k z was out next h o e is =
    let a = offset k in
    let F = header n ++ flat_map le4 (take k es) in
    let len : length F ≡ a = length-append (header n) (flat_map le4 (take k es)) ∙ omega (arith, words_length (take k es), length-take-le k es (omega arith)) in
    let front : take a out ≡ F = ap (take a) o ∙ take_at F (drop a was) a len in
    let rest : drop a out ≡ drop a was = ap (drop a) o ∙ drop_at F (drop a was) a len in
    let back : drop (a + 4) out ≡ drop (a + 4) was = sym (drop-drop 4 a out) ∙ ap (drop 4) rest ∙ drop-drop 4 a was in
    let more : header n ++ flat_map le4 (take (k + 1) es) ≡ F ++ le4 z =
    ap (λ (l : List ℤ). header n ++ flat_map le4 l) (take_more es k (pos 0) h ∙ ap (λ (x : ℤ). take k es ++ (x ∷ [])) (sym is)) ∙ sym (flat_map_more le4 (header n) (take k es) z) in
    let regrouped = append_assoc F (le4 z) (drop (a + 4) was) in
    let at : offset (k + 1) ≡ a + 4 = omega arith in
    cc

-- all of them
pub whole : (t : Tables) (was headed out : List ℕ) (k : ℕ) → k ≡ count t.horizon.stages → headed ≡ header t.horizon.stages ++ drop 6 was → out ≡ (header t.horizon.stages ++ flat_map le4 (take k (data_of t).entries)) ++ drop (offset k) headed → Written (data_of t) was out (file_length t.horizon.stages)
whole t was headed out k e h o =
    let n = t.horizon.stages in
    let s = sound_data t in
    let all : take k (data_of t).entries ≡ (data_of t).entries = take_all k (data_of t).entries (omega (arith, s.sized)) in
    let past : drop (file_length n) headed ≡ drop (file_length n) was = ap (drop (file_length n)) h ∙ drop-append-drop 6 was (header n) (file_length n) (omega arith) refl in
    let bytes : out ≡ file_of (data_of t) ++ drop (file_length n) was =
    o
    ∙ ap (λ (zs : List ℤ). (header n ++ flat_map le4 zs) ++ drop (offset k) headed) all
    ∙ ap (λ (i : ℕ). file_of (data_of t) ++ drop (offset i) headed) e
    ∙ ap (λ (l : List ℕ). file_of (data_of t) ++ l) past in
    let front : take (file_length n) out ≡ file_of (data_of t) = ap (take (file_length n)) bytes ∙ take_at (file_of (data_of t)) (drop (file_length n) was) (file_length n) (file_sized (data_of t) s) in
    record {
      whole = refl;
      bytes = bytes;
      accepted = ap file_refusal front ∙ accepted (data_of t) s;
      same = ap tables_of front ∙ read_back (data_of t) s;
    }
