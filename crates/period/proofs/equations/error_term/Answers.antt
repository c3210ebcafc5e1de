use Rattle.std.proofs.Common.{◌≡◌, ◌+◌, ◌*◌, ◌<◌, get_or, take, pos, ◌*ℤ◌, refl, ap, ◌∙◌, arith, w32, w64, SFits, to_z, of_z, rules}
use Rattle.std.proofs.lemmas.Int.{ints, to_z-of_z}
use Rattle.std.proofs.lemmas.List.{get_or-take, length-take}
use Rattle.file.specs.File.{entry}
use Rattle.file.specs.Tables.{data_of}
use Rattle.file.specs.declared.layout.Table.TheVariants.{Upsilon}
use Rattle.file.proofs.Written.{sound_data}
use Rattle.period.specs.Equations.{error_term}
use Rattle.period.specs.Sums.{rounded, sum_to}
use Rattle.period.proofs.Bounds.{narrowed, one_more, within_as}
use Rattle.period.proofs.Limits.{error_term_within}
use Rattle.period.proofs.RowSums.{row_entry, row_length}
use Rattle.period.proofs.equations.error_term.Goals as goal

pub bounds-row-j : goal.bounds-row-j
bounds-row-j c =
    let d = data_of c.args.tables.now in
    let there : c.loop-r.r < 2 * d.horizon = omega arith in
    omega (arith, row_length d Upsilon c.loop-r.r c.row.result.now c.row.ensures.value there, c.requires)

pub loop-r-preserved : goal.loop-r-preserved
loop-r-preserved c =
    let d = data_of c.args.tables.now in
    let r = c.loop-r.r in
    let j = c.args.j in
    let z = c.add_product-sum.result in
    let fz : SFits w64 z = record { sfits = c.add_product-sum.type_inv } in
    let read : to_z w64 (of_z w64 z) ≡ z = to_z-of_z w64 z fz in
    let fa : SFits w32 (get_or c.row.result.now j (pos 0)) = search rules in
    let x = get_or (take (2 * c.stages-rows.result) c.args.errors.now.values) r (pos 0) in
    let there : r < 2 * d.horizon = omega arith in
    let same : x ≡ get_or c.args.errors.now.values r (pos 0) = get_or-take _ c.args.errors.now.values r (pos 0) (omega arith) in
    let fx : SFits w32 x = search rules in
    let is = simp to_z-of_z at c.add_product-sum.ensures.value in
    rw read (one_more (λ k. entry d Upsilon k j) (λ k. get_or c.args.errors.now.values k (pos 0)) r (r + 1) _ z (get_or c.row.result.now j (pos 0)) x refl c.loop-r.invariant (row_entry d Upsilon r c.row.result.now c.row.ensures.value there j c.requires) same is c.add_product-sum.ensures.bound)

-- what is cast, and that it has 32 bits
term_is : (c : goal.After-rounded) → (c.rounded.result ≡ error_term (data_of c.args.tables.now) (λ r. get_or c.args.errors.now.values r (pos 0)) c.args.j) × SFits w32 c.rounded.result
unfolding error_term
term_is c =
    let t = c.args.tables.now in
    let end : c.loop-r.r ≡ 2 * (data_of t).horizon = omega (arith, length-take (2 * c.stages-rows.result) c.args.errors.now.values) in
    let is = c.rounded.ensures.value ∙ ap rounded (c.loop-r.invariant.0 ∙ ap (λ n. sum_to n (λ r. entry (data_of t) Upsilon r c.args.j *ℤ get_or c.args.errors.now.values r (pos 0))) end) in
    let b = within_as _ _ _ is (error_term_within (data_of t) (sound_data t) (λ r. get_or c.args.errors.now.values r (pos 0)) c.args.j c.requires (λ r h. c.args.errors.now.within r)) in
    (is, omega (arith, ints))

pub overflow_cast-result : goal.overflow_cast-result
overflow_cast-result c = let k = term_is c in omega (arith, ints, k.1)

pub returns : goal.returns
returns c = let k = term_is c in narrowed c.rounded.result k.1 ∙ k.0
