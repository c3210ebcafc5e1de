-- What a value of the type Tables says.
use Rattle.std.specs.Prelude.{◌≡◌, ℕ, List, ◌++◌, take, drop, None, Option, nat_le}
use Rattle.file.specs.File.{TableData, file_length, file_of, file_refusal, tables_of}
use Rattle.file.specs.Layout.{count}
use Rattle.file.specs.declared.tables.Tables.{Tables}
use Rattle.fault.specs.Refusals.{unless}
use Rattle.fault.specs.declared.Fault.{Fault}
use Rattle.fault.specs.Rules.{refused}
use Rattle.fault.specs.declared.rule.Rule.TheVariants.{FileBuffer}

abbrev pub data_of : Tables → TableData
data_of t = record { horizon = t.horizon.stages; entries = take (count t.horizon.stages) t.entries }

-- a buffer after a file was written to its front: the file, and past it what stood there
pub record Written (d : TableData) (before after : List ℕ) (len : ℕ) : Type 0 where
  pub whole : len ≡ file_length d.horizon
  pub bytes : after ≡ file_of d ++ drop len before
  -- what was written reads back as the same tables
  pub accepted : file_refusal (take len after) ≡ None
  pub same : tables_of (take len after) ≡ d

-- a buffer of so many bytes is too short for the file
abbrev pub write_refusal : TableData → ℕ → Option Fault
write_refusal d room = unless (nat_le (file_length d.horizon) room) (refused FileBuffer (file_length d.horizon))
