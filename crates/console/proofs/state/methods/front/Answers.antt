use Rattle.std.proofs.Common.{sym, arith}
use Rattle.std.proofs.lemmas.List.{take_all}
use Rattle.console.proofs.state.methods.front.Goals as goal

pub returns-else-file-gt-MOST_BYTES : goal.returns-else-file-gt-MOST_BYTES
returns-else-file-gt-MOST_BYTES c = sym (take_all 4096 c.args.file.now (omega arith))
