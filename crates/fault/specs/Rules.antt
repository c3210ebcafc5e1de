-- The rules that something can be refused by: the layer and the number of each.
use Rattle.std.specs.Prelude.{ℕ}
use Rattle.fault.specs.declared.Fault.{Fault}
use Rattle.fault.specs.declared.Layer.{Layer}
use Rattle.fault.specs.declared.Layer.TheVariants.{File, Leg, Controller, Quantiser, Console}
use Rattle.fault.specs.declared.rule.Rule.{Rule}
use Rattle.fault.specs.declared.rule.Rule.TheVariants.{HeaderBytes, FileMark, FileVersion, FileHorizon, FileLength, EntryLimits, PositiveDiagonal, FileBuffer, LevelCount, RisingLevels, HoldingMasks, RestPosition, LegReach, LegStride, NoOpenOrder, LoadedTables, NodeLimit, PhaseNumber, InputRange, ReferenceCount, OwnOrder, OpenOrder, FiniteNumber, CountLimits, CommandWord, PhaseLetter, NumberWord, WordCount, AnswerBuffer, LineLength}

-- the number that a rule goes by
abbrev pub number_of : Rule → ℕ
number_of HeaderBytes = 1
number_of FileMark = 2
number_of FileVersion = 3
number_of FileHorizon = 4
number_of FileLength = 5
number_of EntryLimits = 6
number_of PositiveDiagonal = 7
number_of FileBuffer = 8
number_of LevelCount = 11
number_of RisingLevels = 12
number_of HoldingMasks = 13
number_of RestPosition = 14
number_of LegReach = 15
number_of LegStride = 16
number_of NoOpenOrder = 21
number_of LoadedTables = 22
number_of NodeLimit = 23
number_of PhaseNumber = 24
number_of InputRange = 25
number_of ReferenceCount = 26
number_of OwnOrder = 27
number_of OpenOrder = 28
number_of FiniteNumber = 31
number_of CountLimits = 32
number_of CommandWord = 41
number_of PhaseLetter = 42
number_of NumberWord = 43
number_of WordCount = 44
number_of AnswerBuffer = 45
number_of LineLength = 46

-- the layer that a rule is one of
abbrev pub layer_of : Rule → Layer
layer_of HeaderBytes = File
layer_of FileMark = File
layer_of FileVersion = File
layer_of FileHorizon = File
layer_of FileLength = File
layer_of EntryLimits = File
layer_of PositiveDiagonal = File
layer_of FileBuffer = File
layer_of LevelCount = Leg
layer_of RisingLevels = Leg
layer_of HoldingMasks = Leg
layer_of RestPosition = Leg
layer_of LegReach = Leg
layer_of LegStride = Leg
layer_of NoOpenOrder = Controller
layer_of LoadedTables = Controller
layer_of NodeLimit = Controller
layer_of PhaseNumber = Controller
layer_of InputRange = Controller
layer_of ReferenceCount = Controller
layer_of OwnOrder = Controller
layer_of OpenOrder = Controller
layer_of FiniteNumber = Quantiser
layer_of CountLimits = Quantiser
layer_of CommandWord = Console
layer_of PhaseLetter = Console
layer_of NumberWord = Console
layer_of WordCount = Console
layer_of AnswerBuffer = Console
layer_of LineLength = Console

-- the refusal by a rule, at a place
abbrev pub refused : Rule → ℕ → Fault
refused rule place = record { layer = layer_of rule; number = number_of rule; place = place }
