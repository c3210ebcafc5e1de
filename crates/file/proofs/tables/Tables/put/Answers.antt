use Rattle.std.proofs.Common.{get_or, take, pos, arith, w32, rules}
use Rattle.std.proofs.lemmas.Int.{to_z-of_z}
use Rattle.std.proofs.lemmas.List.{length-take-le}
use Rattle.file.proofs.Sizes.{count_bound}
use Rattle.file.proofs.Written.{whole, word_more}
use Rattle.file.proofs.tables.Tables.put.Goals as goal

pub loop-k-preserved : goal.loop-k-preserved
loop-k-preserved c =
    let t = c.args.self.now in
    let es = take c.count.result t.entries in
    word_more t.horizon.stages es c.loop-k.k _ c.put_header.new.out c.loop-k.out c.put_word.new.out c.loop-k-test.true c.loop-k.invariant c.put_word.ensures
    (to_z-of_z w32 (get_or es c.loop-k.k (pos 0)) (search rules))

pub returns : goal.returns
returns c =
    let t = c.args.self.now in
    let h = t.horizon in
    let long = length-take-le c.count.result t.entries (omega (arith, c.count.ensures.value, count_bound h.stages h.some h.few, t.sized)) in
    whole t c.args.out.now c.put_header.new.out c.loop-k.out c.loop-k.k (omega (arith, c.count.ensures.value, long)) c.put_header.ensures (rw c.count.ensures.value at c.loop-k.invariant)
