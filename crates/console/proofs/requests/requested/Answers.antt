use Rattle.std.proofs.Common.{sym, ◌∙◌, rules}
use Rattle.console.specs.Tokens.{end_column, left}
use Rattle.console.proofs.Speaking.{by_name, by_number, said}
use Rattle.console.proofs.requests.requested.Goals as goal

pub returns-in-Number : goal.returns-in-Number
returns-in-Number c =
    let line = c.args.line.now in
    let first = c.in-Number.ensures.first in
    said line (search rules) (left c.new-words.result) c.in-Number.column (end_column c.next.new.self) c.in-Number.bytes.now (left c.next.new.self) c.commanded_by.result (sym c.new-words.ensures.left)
    (by_number _ c.in-Number.column c.in-Number.bytes _ (left c.new-words.result) (left c.next.new.self) first c.in-Number.ensures.left) (c.in-Number.ensures.end ∙ c.new-words.ensures.end) c.commanded_by.ensures

pub returns-in-Name : goal.returns-in-Name
returns-in-Name c =
    let line = c.args.line.now in
    let first = c.in-Name.ensures.first in
    said line (search rules) (left c.new-words.result) c.in-Name.column (end_column c.next.new.self) c.in-Name.bytes.now (left c.next.new.self) c.commanded_by-in-Name.result (sym c.new-words.ensures.left)
    (by_name _ c.in-Name.column c.in-Name.bytes (left c.new-words.result) (left c.next.new.self) first c.in-Name.ensures.left) (c.in-Name.ensures.end ∙ c.new-words.ensures.end) c.commanded_by-in-Name.ensures
