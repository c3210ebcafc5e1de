use Rattle.std.proofs.Common.{◌≡◌, ◌+◌, ◌-◌, IfSome}
use Rattle.file.specs.Layout.{count}
use Rattle.file.proofs.Reading.{Reading, reached}
use Rattle.file.proofs.tables.reading.Sheet.entries.Given as goal

abbrev pub invariant-loop-next : goal.invariant-loop-next
invariant-loop-next l =
    IfSome l.next (λ r. r.horizon ≡ l.self.horizon)
    × Reading l.self.bytes.now l.self.horizon.stages l.entries (reached l.self.horizon.stages l.next)

abbrev pub decreases-loop-next : goal.decreases-loop-next
decreases-loop-next l = count l.self.horizon.stages - reached l.self.horizon.stages l.next

abbrev pub invariant-loop-column : goal.invariant-loop-column
invariant-loop-column l = Reading l.self.bytes.now l.self.horizon.stages l.entries (l.start + l.column)
