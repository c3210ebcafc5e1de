use Rattle.std.proofs.Common.{rules, ◌≡◌, ◌≢◌}
use borrow.Author.Tests.{tests}
use Rattle.std.proofs.lemmas.Iterator.{YieldsList-from_slice, first_from_find}
use Rattle.std.proofs.lemmas.Iterator.Consumers.{YieldsList-from_copied}
use Rattle.fault.specs.Rules.{refused}
use Rattle.fault.proofs.EveryRule.{every_rule, found}
use Rattle.fault.proofs.Fault.rule.Goals as goal

pub returns : goal.returns
returns c =
    let fault = c.args.self in
    found _ _ c.find.result
    (first_from_find {all = every_rule} _ _ c.find.result (λ r. refused r fault.place ≡ fault) (λ r. refused r fault.place ≢ fault) c.find.ensures.ran (YieldsList-from_copied (YieldsList-from_slice _ cc)) (λ x q k. search (rules, tests)) (λ x q k. search (rules, tests)))
