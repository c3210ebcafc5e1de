-- What a line asks for, and which refusal it gets where it asks for nothing that there is.
use Rattle.std.specs.Prelude.{ℕ, zero, suc, ◌+◌, cond, List, [], ◌∷◌, map, length, drop, ℤ, pos, Some, None, codes, Option, nat_le, slice_index_or}
use Rattle.std.specs.Option.{unwrap_or}
use Rattle.std.specs.Str.{bytes_eq}
use Rattle.fault.specs.Refusals.{first_some, unless}
use Rattle.fault.specs.declared.Fault.{Fault}
use Rattle.console.specs.Words.{Word, number, phase, words}
use Rattle.console.specs.declared.requests.Verb.{Verb}
use Rattle.console.specs.declared.requests.Verb.TheVariants.{Load, Limit, Bar, Free, Step, Try}
use Rattle.fault.specs.Rules.{refused}
use Rattle.fault.specs.declared.rule.Rule.TheVariants.{CommandWord, PhaseLetter, NumberWord, WordCount, LineLength}

-- What a line can ask for. The numbers of a plan are its two currents and then its references.
pub data Asked : Type 0 where
  load : Asked
  limit : ℤ → Asked
  bar : ℕ → Asked
  free : ℕ → Asked
  step : List ℤ → Asked
  try : List ℤ → Asked

-- the most bytes that a line may have
abbrev pub longest_line : ℕ
longest_line = 120

-- the command that a word names
abbrev pub verb : List ℕ → Option Verb
verb w =
    cond (bytes_eq w (codes "LOAD")) (Some Load)
    (cond (bytes_eq w (codes "LIMIT")) (Some Limit)
    (cond (bytes_eq w (codes "BAR")) (Some Bar)
    (cond (bytes_eq w (codes "FREE")) (Some Free)
    (cond (bytes_eq w (codes "STEP")) (Some Step)
    (cond (bytes_eq w (codes "TRY")) (Some Try)
    None)))))

-- 42: a phase word that is there and is no phase
abbrev pub no_phase : ℕ → Option ℕ → Option Fault
no_phase column (Some p) = None
no_phase column None = Some (refused PhaseLetter column)

abbrev pub phase_refusal : List Word → Option Fault
phase_refusal [] = None
phase_refusal (w ∷ ws) = no_phase w.column (phase w.bytes)

-- 43: a word that is no number among those that may be numbers, the first of them
abbrev pub no_number : ℕ → Option ℤ → Option Fault
no_number column (Some z) = None
no_number column None = Some (refused NumberWord column)

abbrev pub numbers_refusal : ℕ → List Word → Option Fault
numbers_refusal zero ws = None
numbers_refusal (suc most) [] = None
numbers_refusal (suc most) (w ∷ ws) = first_some (no_number w.column (number w.bytes)) (numbers_refusal most ws)

-- 44: a word too many
abbrev pub left_over : List Word → Option Fault
left_over [] = None
left_over (w ∷ ws) = Some (refused WordCount w.column)

-- 44: fewer words than the least, or more than the most
abbrev pub count_refusal : ℕ → ℕ → ℕ → List Word → Option Fault
count_refusal least most end ws = first_some (unless (nat_le least (length ws)) (refused WordCount end)) (left_over (drop most ws))

-- what is wrong with the words behind a command
abbrev pub arguments_refusal : Verb → ℕ → List Word → Option Fault
arguments_refusal Load end ws = count_refusal 0 0 end ws
arguments_refusal Limit end ws = first_some (numbers_refusal 1 ws) (count_refusal 1 1 end ws)
arguments_refusal Bar end ws = first_some (phase_refusal ws) (count_refusal 1 1 end ws)
arguments_refusal Free end ws = first_some (phase_refusal ws) (count_refusal 1 1 end ws)
arguments_refusal Step end ws = first_some (numbers_refusal 12 ws) (count_refusal 2 12 end ws)
arguments_refusal Try end ws = first_some (numbers_refusal 12 ws) (count_refusal 2 12 end ws)

-- 41: the first word is no command
abbrev pub command_refusal : Option Verb → ℕ → ℕ → List Word → Option Fault
command_refusal None column end ws = Some (refused CommandWord column)
command_refusal (Some v) column end ws = arguments_refusal v end ws

abbrev pub words_refusal : ℕ → List Word → Option Fault
words_refusal end [] = None
words_refusal end (w ∷ ws) = command_refusal (verb w.bytes) w.column end ws

-- the refusal that a line gets, if any; 46: it is too long
abbrev pub line_refusal : List ℕ → Option Fault
line_refusal line = first_some (unless (nat_le (length line) longest_line) (refused LineLength (longest_line + 1))) (words_refusal (length line + 1) (words line))

-- the numbers that words write
abbrev pub values : List Word → List ℤ
values ws = map (λ w. unwrap_or (number w.bytes) (pos 0)) ws

-- the phase that the first of some words names
abbrev pub named_phase : List Word → ℕ
named_phase [] = 0
named_phase (w ∷ ws) = unwrap_or (phase w.bytes) 0

-- what a command asks for, with the words behind it
abbrev pub asks : Verb → List Word → Asked
asks Load ws = load
asks Limit ws = limit (slice_index_or (values ws) 0 (pos 0))
asks Bar ws = bar (named_phase ws)
asks Free ws = free (named_phase ws)
asks Step ws = step (values ws)
asks Try ws = try (values ws)

abbrev pub commanded : Option Verb → List Word → Option Asked
commanded None ws = None
commanded (Some v) ws = Some (asks v ws)

-- what the words of a line ask for, where they are not refused; no words ask for nothing
abbrev pub asked : List Word → Option Asked
asked [] = None
asked (w ∷ ws) = commanded (verb w.bytes) ws
