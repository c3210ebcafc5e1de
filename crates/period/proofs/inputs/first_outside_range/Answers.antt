use Rattle.std.proofs.Common.{◌≡◌, ◌<◌, ◌≤◌, ◌++◌, length, nat_abs, sym, ap, ◌∙◌, subst, arith, w32, SFits, rules, below_more}
use Rattle.std.proofs.lemmas.Int.{to_z-of_z}
use Rattle.std.proofs.lemmas.Bool.{le-leb, lt-leb}
use Rattle.std.proofs.lemmas.Iterator.{YieldsList-from_slice}
use Rattle.std.proofs.lemmas.Iterator.Consumers.{YieldsList-end, YieldsList-from_chain, YieldsList-from_enumerate, YieldsList-turn}
use Rattle.std.proofs.lemmas.List.{length_push}
use Rattle.std.proofs.lemmas.List.FromFn.{length-enumerate_from}
use Rattle.period.specs.Inputs.{allowed, allowed_at}
use Rattle.legs.proofs.Lowest.{lowest_found, none_found}
use Rattle.period.proofs.Outside.{at_turn}
use Rattle.period.proofs.inputs.first_outside_range.Goals as goal

pub loop-place-preserved : goal.loop-place-preserved
loop-place-preserved c =
    let i = c.args.currents.now in
    let y = c.args.references.now in
    let p = c.in-Some.place in
    let v = c.in-Some.value in
    let f : SFits w32 v.now = search rules in
    let size : c.unsigned_abs.result ≡ nat_abs v.now = c.unsigned_abs.ensures.value ∙ ap nat_abs (to_z-of_z w32 v.now f) in
    let small : nat_abs v.now ≤ 8192 = omega arith in
    let road = YieldsList-from_enumerate (YieldsList-from_chain (YieldsList-from_slice i cc) (YieldsList-from_slice y cc) (cc) (cc)) (cc) in
    let turn = at_turn (i ++ y) p (length c.loop-place.yielded) v.now (YieldsList-turn road c.loop-place.yielded c.loop-place.place-iterator c.loop-place.yielded_by c.next.result c.next.new.self (p, v) c.in-Some.is c.next.ensures.steps) in
    rw (length_push c.loop-place.yielded (p, v)) (below_more _ _ c.loop-place.invariant (ap allowed (sym turn.2) ∙ le-leb (nat_abs v.now) 8192 small))

pub returns-then-unsigned_abs-gt-GREATEST : goal.returns-then-unsigned_abs-gt-GREATEST
returns-then-unsigned_abs-gt-GREATEST c =
    let i = c.args.currents.now in
    let y = c.args.references.now in
    let p = c.in-Some.place in
    let v = c.in-Some.value in
    let f : SFits w32 v.now = search rules in
    let size : c.unsigned_abs.result ≡ nat_abs v.now = c.unsigned_abs.ensures.value ∙ ap nat_abs (to_z-of_z w32 v.now f) in
    let large : 8192 < nat_abs v.now = omega arith in
    let road = YieldsList-from_enumerate (YieldsList-from_chain (YieldsList-from_slice i cc) (YieldsList-from_slice y cc) (cc) (cc)) (cc) in
    let turn = at_turn (i ++ y) p (length c.loop-place.yielded) v.now (YieldsList-turn road c.loop-place.yielded c.loop-place.place-iterator c.loop-place.yielded_by c.next.result c.next.new.self (p, v) c.in-Some.is c.next.ensures.steps) in
    rw turn.0 (sym (lowest_found (allowed_at i y) (length c.loop-place.yielded) (length (i ++ y)) c.loop-place.invariant (ap allowed (sym turn.2) ∙ lt-leb (nat_abs v.now) 8192 large) turn.1))

pub returns : goal.returns
returns c =
    let i = c.args.currents.now in
    let y = c.args.references.now in
    let road = YieldsList-from_enumerate (YieldsList-from_chain (YieldsList-from_slice i cc) (YieldsList-from_slice y cc) (cc) (cc)) (cc) in
    let end = YieldsList-end road c.loop-place.yielded c.loop-place.place-iterator c.loop-place.yielded_by c.next.result c.next.new.self c.in-None.is c.next.ensures.steps in
    let all : length c.loop-place.yielded ≡ length (i ++ y) = end.1 ∙ length-enumerate_from 0 (i ++ y) in
    sym (none_found (allowed_at i y) (length (i ++ y)) (λ k lt. c.loop-place.invariant k (subst (λ n. k < n) (sym all) lt)))
