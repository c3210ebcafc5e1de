use Rattle.std.proofs.Common.{◌≡◌, get_or, pos, sym, subst, w32, to_z, of_z, rules}
use Rattle.std.proofs.lemmas.Int.{to_z-of_z}
use Rattle.file.specs.Layout.{Limited}
use Rattle.file.proofs.Inside.{place_bound}
use Rattle.file.proofs.tables.Tables.entry.Goals as goal

pub returns-clause-bound : goal.returns-clause-bound
returns-clause-bound c =
    let t = c.args.self.now in
    let p = c.in_ok-place.place in
    let i = c.entry.result in
    let here = c.in_ok-place.ensures in
    let there = c.in_ok-of.ensures in
    let is : to_z w32 (of_z w32 (get_or t.entries i (pos 0))) ≡ get_or t.entries i (pos 0) = to_z-of_z w32 (get_or t.entries i (pos 0)) (search rules) in
    subst (Limited c.args.table) (sym is) (place_bound t p i c.args.table (let a = here.0 in let b = there.0 in cc) (let a = here.0 in let b = there.1 in cc) c.entry.ensures.value)
