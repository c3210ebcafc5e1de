-- What the bytes of a table file mean: a refusal with its number and place, or tables.
use Rattle.std.specs.Prelude.{◌≡◌, ℕ, ◌+◌, ◌*◌, ◌/◌, ◌%◌, ◌<◌, ◌≤◌, Bool, if◌then◌else◌, not, ◌&&◌, ◌||◌, List, [], ◌∷◌, ◌++◌, map, length, take, drop, ℤ, pos, ◌≤ℤ◌, Some, None, Option, ◌==◌, int_le, nat_le, nat_lt, slice_index, slice_index_or}
use Rattle.std.specs.Int.{w32, cast_signed, cast_unsigned}
use Rattle.std.specs.List.{range_with_len, flat_map}
use Rattle.fault.specs.Refusals.{first_some, unless}
use Rattle.fault.specs.declared.Fault.{Fault}
use Rattle.file.specs.Layout.{rows, columns, size, ahead, Limited, limited, count, index, cells, on_diagonal}
use Rattle.file.specs.declared.layout.Cell.{Cell}
use Rattle.file.specs.declared.layout.Table.{Table}
use Rattle.file.specs.declared.layout.Table.TheVariants.{Generator}
use Rattle.fault.specs.Rules.{refused}
use Rattle.fault.specs.declared.rule.Rule.TheVariants.{HeaderBytes, FileMark, FileVersion, FileHorizon, FileLength, EntryLimits, PositiveDiagonal}

-- A plant's tables as data: for how many stages they plan, and their entries in the order of the file.
pub record TableData : Type 0 where
  pub horizon : ℕ
  pub entries : List ℤ

abbrev pub entry : TableData → Table → ℕ → ℕ → ℤ
entry d t r c = slice_index_or d.entries (index t d.horizon r c) (pos 0)

-- tables within the limits
pub record Sound (d : TableData) : Type 0 where
  pub some : 1 ≤ d.horizon
  pub few : d.horizon ≤ 5
  pub sized : length d.entries ≡ count d.horizon
  pub limited : (t : Table) (r c : ℕ) → r < rows t d.horizon → c < columns t d.horizon r → Limited t (entry d t r c)
  pub diagonal : (r : ℕ) → r < rows Generator d.horizon → pos 1 ≤ℤ entry d Generator r r

-- a number in four bytes, the lowest first, negative ones in two's complement
abbrev pub le4 : ℤ → List ℕ
le4 z = (cast_unsigned w32 z % 256) ∷ ((cast_unsigned w32 z / 256 % 256) ∷ ((cast_unsigned w32 z / 65536 % 256) ∷ ((cast_unsigned w32 z / 16777216 % 256) ∷ [])))

-- the number whose four bytes begin at an offset
abbrev pub word : List ℕ → ℕ → ℤ
word b at = cast_signed w32 (slice_index b at + slice_index b (at + 1) * 256 + slice_index b (at + 2) * 65536 + slice_index b (at + 3) * 16777216)

-- the version of the file
abbrev pub version_number : ℕ
version_number = 1

-- the header: the letters S, D and T, the version in two bytes, and the horizon
abbrev pub header : ℕ → List ℕ
header n = 83 ∷ (68 ∷ (84 ∷ ((version_number % 256) ∷ ((version_number / 256) ∷ (n ∷ [])))))

-- the offset of entry k
abbrev pub offset : ℕ → ℕ
offset k = 6 + 4 * k

abbrev pub file_length : ℕ → ℕ
file_length n = offset (count n)

-- the file of a plant's tables
abbrev pub file_of : TableData → List ℕ
file_of d = header d.horizon ++ flat_map le4 d.entries

abbrev pub marked : List ℕ → Bool
marked b = slice_index b 0 == 83 && (slice_index b 1 == 68 && slice_index b 2 == 84)

abbrev pub version_of : List ℕ → ℕ
version_of b = slice_index b 3 + slice_index b 4 * 256

abbrev pub horizon_of : List ℕ → ℕ
horizon_of b = slice_index b 5

-- the tables that a file says, where it is not refused
abbrev pub tables_of : List ℕ → TableData
tables_of b = record { horizon = horizon_of b; entries = map (λ k. word b (offset k)) (range_with_len 0 (count (horizon_of b))) }

-- what is wrong with the header or the length
abbrev pub header_refusal : List ℕ → Option Fault
header_refusal b =
    first_some (unless (nat_le 6 (length b)) (refused HeaderBytes (length b)))
    (first_some (unless (marked b) (refused FileMark 0))
    (first_some (unless (version_of b == version_number) (refused FileVersion 3))
    (first_some (unless (nat_le 1 (horizon_of b) && nat_le (horizon_of b) 5) (refused FileHorizon 5))
    (unless (length b == file_length (horizon_of b)) (refused FileLength (length b))))))

-- what is wrong with the entry z of the cell x, at its offset: outside its table's limits, or under 1 on the generator's diagonal
abbrev pub entry_refusal : Cell → ℕ → ℤ → Option Fault
entry_refusal x at z =
    first_some (unless (limited x.table z) (refused EntryLimits at)) (unless (not (on_diagonal x) || int_le (pos 1) z) (refused PositiveDiagonal at))

-- the first thing wrong with the entries of some cells, by rising offset
abbrev pub entries_refusal : List Cell → List ℕ → ℕ → Option Fault
entries_refusal [] b at = None
entries_refusal (x ∷ xs) b at = first_some (entry_refusal x at (word b at)) (entries_refusal xs b (at + 4))

-- why a file is refused, if it is
abbrev pub file_refusal : List ℕ → Option Fault
file_refusal b = first_some (header_refusal b) (entries_refusal (cells (horizon_of b)) b (offset 0))

-- a reading of one entry, and of one row by columns; nothing where the table has no such cell or row
abbrev pub entry_reading : TableData → Table → ℕ → ℕ → Option ℤ
entry_reading d t r c = if nat_lt r (rows t d.horizon) && nat_lt c (columns t d.horizon r) then Some (entry d t r c) else None

abbrev pub row_reading : TableData → Table → ℕ → List ℤ
row_reading d t r = if nat_lt r (rows t d.horizon) then map (entry d t r) (range_with_len 0 (columns t d.horizon r)) else []

-- a reading of all entries of a table: its part of the file
abbrev pub table_reading : TableData → Table → List ℤ
table_reading d t = take (size t d.horizon) (drop (ahead t d.horizon) d.entries)
