-- All rules, in one list.
use Rattle.std.proofs.Common.{◌≡◌, ℕ, ◌<◌, List, [], ◌∷◌, length, Some, None, Option, MatchOption, arith}
use Rattle.std.specs.List.{AllWithin, HoldsAt}
use Rattle.fault.specs.declared.rule.Rule.{Rule}
use Rattle.fault.specs.declared.rule.Rule.TheVariants.{HeaderBytes, FileMark, FileVersion, FileHorizon, FileLength, EntryLimits, PositiveDiagonal, FileBuffer, LevelCount, RisingLevels, HoldingMasks, RestPosition, LegReach, LegStride, NoOpenOrder, LoadedTables, NodeLimit, PhaseNumber, InputRange, ReferenceCount, OwnOrder, OpenOrder, FiniteNumber, CountLimits, CommandWord, PhaseLetter, NumberWord, WordCount, AnswerBuffer, LineLength}

abbrev pub every_rule : List Rule
every_rule = HeaderBytes ∷ (FileMark ∷ (FileVersion ∷ (FileHorizon ∷ (FileLength ∷ (EntryLimits ∷ (PositiveDiagonal ∷ (FileBuffer ∷ (LevelCount ∷ (RisingLevels ∷ (HoldingMasks ∷ (RestPosition ∷ (LegReach ∷ (LegStride ∷ (NoOpenOrder ∷ (LoadedTables ∷ (NodeLimit ∷ (PhaseNumber ∷ (InputRange ∷ (ReferenceCount ∷ (OwnOrder ∷ (OpenOrder ∷ (FiniteNumber ∷ (CountLimits ∷ (CommandWord ∷ (PhaseLetter ∷ (NumberWord ∷ (WordCount ∷ (AnswerBuffer ∷ (LineLength ∷ [])))))))))))))))))))))))))))))

-- what holds of all in the list holds of each rule
pub of_every : (P : Rule → Type 0) → AllWithin P every_rule 0 (length every_rule) → (rule : Rule) → P rule
of_every P h HeaderBytes = h 0 HeaderBytes (omega arith) (omega arith)
of_every P h FileMark = h 1 FileMark (omega arith) (omega arith)
of_every P h FileVersion = h 2 FileVersion (omega arith) (omega arith)
of_every P h FileHorizon = h 3 FileHorizon (omega arith) (omega arith)
of_every P h FileLength = h 4 FileLength (omega arith) (omega arith)
of_every P h EntryLimits = h 5 EntryLimits (omega arith) (omega arith)
of_every P h PositiveDiagonal = h 6 PositiveDiagonal (omega arith) (omega arith)
of_every P h FileBuffer = h 7 FileBuffer (omega arith) (omega arith)
of_every P h LevelCount = h 8 LevelCount (omega arith) (omega arith)
of_every P h RisingLevels = h 9 RisingLevels (omega arith) (omega arith)
of_every P h HoldingMasks = h 10 HoldingMasks (omega arith) (omega arith)
of_every P h RestPosition = h 11 RestPosition (omega arith) (omega arith)
of_every P h LegReach = h 12 LegReach (omega arith) (omega arith)
of_every P h LegStride = h 13 LegStride (omega arith) (omega arith)
of_every P h NoOpenOrder = h 14 NoOpenOrder (omega arith) (omega arith)
of_every P h LoadedTables = h 15 LoadedTables (omega arith) (omega arith)
of_every P h NodeLimit = h 16 NodeLimit (omega arith) (omega arith)
of_every P h PhaseNumber = h 17 PhaseNumber (omega arith) (omega arith)
of_every P h InputRange = h 18 InputRange (omega arith) (omega arith)
of_every P h ReferenceCount = h 19 ReferenceCount (omega arith) (omega arith)
of_every P h OwnOrder = h 20 OwnOrder (omega arith) (omega arith)
of_every P h OpenOrder = h 21 OpenOrder (omega arith) (omega arith)
of_every P h FiniteNumber = h 22 FiniteNumber (omega arith) (omega arith)
of_every P h CountLimits = h 23 CountLimits (omega arith) (omega arith)
of_every P h CommandWord = h 24 CommandWord (omega arith) (omega arith)
of_every P h PhaseLetter = h 25 PhaseLetter (omega arith) (omega arith)
of_every P h NumberWord = h 26 NumberWord (omega arith) (omega arith)
of_every P h WordCount = h 27 WordCount (omega arith) (omega arith)
of_every P h AnswerBuffer = h 28 AnswerBuffer (omega arith) (omega arith)
of_every P h LineLength = h 29 LineLength (omega arith) (omega arith)

-- the rule that a search of the list finds, or that there is none
pub found : (No Yes : Rule → Type 0) (r : Option Rule) → MatchOption r (AllWithin No every_rule 0 (length every_rule)) (λ x. Yes x × (i : ℕ) × (i < length every_rule) × HoldsAt (λ y. y ≡ x) every_rule i × AllWithin No every_rule 0 i) → MatchOption r ((rule : Rule) → No rule) Yes
found No Yes None h = of_every No h
found No Yes (Some x) h = h.0
