use Rattle.std.proofs.Common.{◌≡◌, length, get_or, pos, ◌*ℤ◌, ap, ◌∙◌, arith, lit≤, w32, w64, SFits, to_z, of_z, rules}
use Rattle.std.proofs.lemmas.Int.{ints, to_z-of_z}
use Rattle.std.proofs.lemmas.List.{length_push}
use Rattle.std.proofs.lemmas.Slice.Zip.{zip_end, zip_turn}
use Rattle.period.specs.Sums.{rounded, sum_to}
use Rattle.period.proofs.Bounds.{narrowed, one_more, rounded_products_within, within_as}
use Rattle.period.proofs.sums.rounded_dot.Goals as goal

pub loop-entry-preserved : goal.loop-entry-preserved
loop-entry-preserved c =
    let so_far = c.loop-entry.yielded in
    let a = c.in-Some.entry in
    let x = c.in-Some.x in
    let turn = zip_turn c.args.row.now c.args.xs.now so_far c.into_iter-entry-iterator.result c.loop-entry.entry-iterator c.next.new.self c.next.result (cc) (cc) c.loop-entry.yielded_by (a, x) c.in-Some.is c.next.ensures.steps in
    let r = c.add_product-sum.result in
    let f : SFits w64 r = record { sfits = c.add_product-sum.type_inv } in
    let read : to_z w64 (of_z w64 r) ≡ r = to_z-of_z w64 r f in
    let fa : SFits w32 a.now = search rules in
    let fx : SFits w32 x.now = search rules in
    let is = simp to_z-of_z at c.add_product-sum.ensures.value in
    rw read (one_more (λ k. get_or c.args.row.now k (pos 0)) (λ k. get_or c.args.xs.now k (pos 0)) (length so_far) _ _ r a.now x.now (length_push so_far (a, x)) c.loop-entry.invariant (turn.2 (pos 0)) (turn.3 (pos 0)) is c.add_product-sum.ensures.bound)

-- what is cast, and that it has 32 bits
rounded_is : (c : goal.After-rounded) → (c.rounded.result ≡ rounded (sum_to (length c.args.row.now) (λ k. get_or c.args.row.now k (pos 0) *ℤ get_or c.args.xs.now k (pos 0)))) × SFits w32 c.rounded.result
rounded_is c =
    let end = zip_end c.args.row.now c.args.xs.now c.loop-entry.yielded c.into_iter-entry-iterator.result c.loop-entry.entry-iterator c.next.new.self c.next.result (cc) (cc) c.loop-entry.yielded_by c.in-None.is c.next.ensures.steps in
    let all : length c.loop-entry.yielded ≡ length c.args.row.now = omega (arith, c.requires.enough) in
    let is = c.rounded.ensures.value ∙ ap rounded (c.loop-entry.invariant.0 ∙ ap (λ n. sum_to n (λ k. get_or c.args.row.now k (pos 0) *ℤ get_or c.args.xs.now k (pos 0))) all) in
    let b =
    rounded_products_within (λ k. get_or c.args.row.now k (pos 0)) (λ k. get_or c.args.xs.now k (pos 0)) (length c.args.row.now) 15 1048576 540672 2076180480 c.requires.few (lit≤ tt) c.requires.limited c.requires.small in
    let w = within_as _ c.rounded.result _ is b in
    (is, omega (arith, ints))

pub overflow_cast-result : goal.overflow_cast-result
overflow_cast-result c = let k = rounded_is c in omega (arith, ints, k.1)

pub returns : goal.returns
returns c = let k = rounded_is c in narrowed c.rounded.result k.1 ∙ k.0
