use Rattle.std.proofs.Common.{◌≡◌, ◌≤◌, length, take, vec_items, vec_len, vec_capacity}
use Rattle.controller.specs.View.{book_of, setup_of}
use Rattle.replay.proofs.Going.{Going}
use Rattle.replay.proofs.run.Given as goal

abbrev pub invariant-loop-call : goal.invariant-loop-call
invariant-loop-call g l =
    let m = g.M.Measure.meaning in
    let a = g.A.Leg.model in
    let b = g.B.Leg.model in
    let c = g.C.Leg.model in
    let x = l.initial.session.controller in
    (l.call-index ≤ length l.calls) × (vec_len l.events ≡ l.call-index) × (length l.calls ≤ vec_capacity l.events) × Going m a b c (setup_of m a b c x) x.identity (book_of x) l.session.controller (take l.call-index l.calls) (vec_items l.events)
