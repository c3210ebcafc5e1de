use Rattle.std.proofs.Common.{◌+◌, [], ◌∷◌, ◌++◌, sym, subst, w32, SFits, rules}
use Rattle.std.proofs.lemmas.Int.{to_z-of_z}
use Rattle.console.proofs.Gathering.{SoFar, more}
use Rattle.console.proofs.requests.numbers.Goals as goal

pub loop-i-preserved : goal.loop-i-preserved
loop-i-preserved c =
    let so = c.loop-i.invariant in
    let e = c.in-Number.ensures in
    let f : SFits w32 c.in-Number.value = search rules in
    subst (λ xs. SoFar c.args.most c.args.words.now xs (c.loop-i._i + 1) c.next.new.self) (sym c.push.ensures.items)
    (subst (λ z. SoFar c.args.most c.args.words.now (c.loop-i.found.items ++ z ∷ []) (c.loop-i._i + 1) c.next.new.self) (sym (to_z-of_z w32 c.in-Number.value f))
    (more _ _ _ _ _ so c.next.new.self _ c.in-Number.column c.in-Number.bytes c.in-Number.value c.loop-i-test.true e.first e.left e.end))
