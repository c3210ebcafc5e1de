use Rattle.std.proofs.Common.{◌≡◌, ◌++◌, take, drop}
use Rattle.std.specs.List.{flat_map}
use Rattle.file.specs.File.{header, le4, offset}
use Rattle.file.proofs.tables.Tables.put.Given as goal

-- the header and the first k entries stand in front, and behind them what stood there
abbrev pub invariant-loop-k : goal.invariant-loop-k
invariant-loop-k l = l.out ≡ (header l.self.horizon.stages ++ flat_map le4 (take l.k l.entries)) ++ drop (offset l.k) l.initial.out
