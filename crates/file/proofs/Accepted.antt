-- What follows when a file is not refused.
use Rattle.std.proofs.Common.{◌≡◌, ℕ, zero, suc, ◌+◌, ◌*◌, ◌<◌, ◌≤◌, Bool, true, false, not, ◌&&◌, ◌||◌, eqb, List, [], ◌∷◌, ◌++◌, map, length, get_or, take, drop, ℤ, pos, ◌≤ℤ◌, IsTrue, is_none, Option, Some, None, sym, refl, ap, ◌∙◌, subst, arith}
use lib.Signed.{le_z}
use Rattle.std.specs.List.{range_with_len}
use Rattle.std.proofs.lemmas.List.FromFn.{get_or-map-range_with_len}
use Rattle.std.proofs.lemmas.List.{drop_more, get_or-take, take_all, length-drop}
use Rattle.std.proofs.lemmas.Int.{ints}
use Rattle.std.proofs.lemmas.Bool.{eqb-true, leb-true}
use Rattle.std.proofs.lemmas.Bool.Decides.{nat_tests}
use Rattle.fault.specs.Refusals.{unless}
use Rattle.fault.specs.declared.Fault.{Fault}
use Rattle.fault.proofs.Answered.{neither, met}
use Rattle.file.specs.Entered.{Entered}
use Rattle.file.specs.File.{TableData, word, offset, header, horizon_of, version_of, file_length, header_refusal, entry_refusal, entries_refusal, tables_of, file_of}
use Rattle.file.specs.Layout.{rows, size, ahead, Limited, limited, least, greatest, count, index, cell, InTable, place, cells, on_diagonal}
use Rattle.file.specs.declared.layout.Cell.{Cell}
use Rattle.file.specs.declared.layout.Table.{Table}
use Rattle.file.specs.declared.layout.Table.TheVariants.{Weight, Gamma, Upsilon, Unconstrained, Target, Generator}
use Rattle.file.proofs.Cells.{stands, cells_length, row_above}
use Rattle.file.proofs.Words.{le4_words}
use Rattle.fault.specs.Rules.{refused}
use Rattle.fault.specs.declared.rule.Rule.TheVariants.{EntryLimits, PositiveDiagonal}

-- a header and a length in order
pub record Headed (b : List ℕ) : Type 0 where
  pub long : 6 ≤ length b
  pub letter_s : get_or b 0 0 ≡ 83
  pub letter_d : get_or b 1 0 ≡ 68
  pub letter_t : get_or b 2 0 ≡ 84
  pub version : version_of b ≡ 1
  pub some : 1 ≤ horizon_of b
  pub few : horizon_of b ≤ 5
  pub sized : length b ≡ file_length (horizon_of b)

both : (a b : Bool) → (a && b) ≡ true → (a ≡ true) × (b ≡ true)
both true b e = (refl, e)
both false b e = absurd cc

pub cleared : (o : Option Fault) → IsTrue (is_none o) → o ≡ None
cleared None h = refl
cleared (Some f) h = let k : ◌≡◌ {A = Bool} false true = h in cc

pub headed : (b : List ℕ) → header_refusal b ≡ None → Headed b
headed b e =
    let p1 = neither _ _ e in
    let p2 = neither _ _ p1.1 in
    let p3 = neither _ _ p2.1 in
    let p4 = neither _ _ p3.1 in
    let m = both _ _ (met _ _ p2.0) in
    let m2 = both _ _ m.1 in
    let h = both _ _ (met _ _ p4.0) in
    record {
      long = leb-true _ _ (met _ _ p1.0);
      letter_s = eqb-true _ _ m.0;
      letter_d = eqb-true _ _ m2.0;
      letter_t = eqb-true _ _ m2.1;
      version = eqb-true _ _ (met _ _ p3.0);
      some = leb-true _ _ h.0;
      few = leb-true _ _ h.1;
      sized = eqb-true _ _ (met _ _ p4.1);
    }

front : (b : List ℕ) → Headed b → b ≡ header (horizon_of b) ++ drop 6 b
front b h =
    let l = h.long in
    let e0 = drop_more b 0 0 (omega arith) in
    let e1 = drop_more b 1 0 (omega arith) in
    let e2 = drop_more b 2 0 (omega arith) in
    let e3 = drop_more b 3 0 (omega arith) in
    let e4 = drop_more b 4 0 (omega arith) in
    let e5 = drop_more b 5 0 (omega arith) in
    let low : get_or b 3 0 ≡ 1 = omega (arith, h.version) in
    let high : get_or b 4 0 ≡ 0 = omega (arith, h.version) in
    cc

-- an accepted file is the file of its tables
pub own_file : (b : List ℕ) → header_refusal b ≡ None → ((i : ℕ) → get_or b i 0 < 256) → file_of (tables_of b) ≡ b
own_file b e f =
    let h = headed b e in
    let n = horizon_of b in
    ap (λ (xs : List ℕ). header n ++ xs) (le4_words b (count n) (omega (arith, h.sized)) f ∙ take_all (4 * count n) (drop 6 b) (omega (arith, length-drop 6 b, h.sized)))
    ∙ sym (front b h)

-- none of the entries is refused
pub none_refused : (xs : List Cell) (b : List ℕ) (at : ℕ) → entries_refusal xs b at ≡ None → (i : ℕ) (d : Cell) → i < length xs → entry_refusal (get_or xs i d) (at + 4 * i) (word b (at + 4 * i)) ≡ None
none_refused [] b at e i d h = absurd (omega arith)
none_refused (x ∷ xs) b at e zero d h =
    let z : at + 4 * 0 ≡ at = omega arith in
    rw z (neither _ _ e).0
none_refused (x ∷ xs) b at e (suc i) d h =
    let z : at + 4 * suc i ≡ at + 4 + 4 * i = omega arith in
    rw z (none_refused xs b (at + 4) (neither _ _ e).1 i d (omega arith))

pub table_inside : (t : Table) (n : ℕ) → ahead t n + size t n ≤ count n
table_inside Weight n = omega arith
table_inside Gamma n = omega arith
table_inside Upsilon n = omega arith
table_inside Unconstrained n = omega arith
table_inside Target n = omega arith
table_inside Generator n = omega arith

pub place_inside : (n : ℕ) (x : Cell) → InTable n x → place n x < count n
place_inside n x h = omega (arith, row_above x.table n x.row (rows x.table n) h.0, h.1, table_inside x.table n)

-- what an entry that is not refused keeps to
within : (low high z : ℤ) → (le_z low z && le_z z high) ≡ true → (low ≤ℤ z) × (z ≤ℤ high)
within low high z e = let h = both (le_z low z) (le_z z high) e in (grind (arith, ints), grind (arith, ints))

sound_entry : (x : Cell) (at : ℕ) (z : ℤ) → entry_refusal x at z ≡ None → Limited x.table z
sound_entry x at z e =
    within (least x.table) (greatest x.table) z (met (limited x.table z) (refused EntryLimits at) (neither (unless (limited x.table z) (refused EntryLimits at)) (unless (not (on_diagonal x) || le_z (pos 1) z) (refused PositiveDiagonal at)) e).0)

positive : (r : ℕ) (z : ℤ) → (not (eqb r r) || le_z (pos 1) z) ≡ true → pos 1 ≤ℤ z
positive r z e = grind (arith, ints, nat_tests)

sound_diagonal : (r at : ℕ) (z : ℤ) → entry_refusal (cell Generator r r) at z ≡ None → pos 1 ≤ℤ z
sound_diagonal r at z e =
    positive r z (met (not (eqb r r) || le_z (pos 1) z) (refused PositiveDiagonal at) (neither (unless (limited Generator z) (refused EntryLimits at)) (unless (not (eqb r r) || le_z (pos 1) z) (refused PositiveDiagonal at)) e).1)

-- the entry of a cell, once all are read and none is refused
module _ (b : List ℕ) (n : ℕ) (es : List ℤ) (owed : entries_refusal (cells n) b 6 ≡ None) (got : Entered b n es (count n)) where
  value : (x : Cell) → InTable n x → get_or es (place n x) (pos 0) ≡ word b (offset (place n x))
  value x h =
      let i = place_inside n x h in
      sym (get_or-take (count n) es (place n x) (pos 0) i)
      ∙ ap (λ (l : List ℤ). get_or l (place n x) (pos 0)) got.read
      ∙ get_or-map-range_with_len (λ k. word b (offset k)) 0 (count n) (place n x) (place n x) (pos 0) i (omega arith)

  kept : (x : Cell) → InTable n x → entry_refusal x (offset (place n x)) (get_or es (place n x) (pos 0)) ≡ None
  kept x h =
      let i = place_inside n x h in
      let o = none_refused (cells n) b 6 owed (place n x) x (omega (arith, cells_length n)) in
      subst (λ (y : Cell). entry_refusal y (offset (place n x)) (get_or es (place n x) (pos 0)) ≡ None) (stands n x.table x.row x.column x h.0 h.1)
      (subst (λ (z : ℤ). entry_refusal (get_or (cells n) (place n x) x) (offset (place n x)) z ≡ None) (sym (value x h)) o)

  pub all_limited : (x : Cell) → InTable n x → Limited x.table (get_or es (place n x) (pos 0))
  all_limited x h = sound_entry x (offset (place n x)) (get_or es (place n x) (pos 0)) (kept x h)

  pub diagonal_positive : (r : ℕ) → r < 3 * n → pos 1 ≤ℤ get_or es (index Generator n r r) (pos 0)
  diagonal_positive r h =
      sound_diagonal r (offset (index Generator n r r)) (get_or es (index Generator n r r) (pos 0)) (kept (cell Generator r r) (h, omega arith))

-- the tables that are read are those that the file says, and the file is theirs
pub same_tables : (b : List ℕ) (n : ℕ) (es : List ℤ) → n ≡ horizon_of b → Entered b n es (count n) → ◌≡◌ {A = TableData} (record { horizon = n; entries = take (count n) es }) (tables_of b)
same_tables b n es e g =
    let r = g.read in
    ap (λ (zs : List ℤ). record { horizon = n; entries = zs }) r
    ∙ ap (λ (m : ℕ). record { horizon = m; entries = map (λ k. word b (offset k)) (range_with_len 0 (count m)) }) e
