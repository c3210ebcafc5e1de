use Rattle.std.proofs.Common.{◌≡◌, get_or, pos, sym, refl, subst, w32, to_z, of_z, rules, arith}
use Rattle.std.proofs.lemmas.Int.{to_z-of_z}
use Rattle.file.specs.Layout.{Limited, cell}
use Rattle.file.specs.declared.layout.Table.TheVariants.{Weight}
use Rattle.file.proofs.Inside.{entry_bound}
use Rattle.file.proofs.tables.Tables.weight.Goals as goal

pub returns-clause-bound : goal.returns-clause-bound
returns-clause-bound c =
    let t = c.args.self.now in
    let is : to_z w32 (of_z w32 (get_or t.entries 0 (pos 0))) ≡ get_or t.entries 0 (pos 0) = to_z-of_z w32 (get_or t.entries 0 (pos 0)) (search rules) in
    subst (Limited Weight) (sym is) (entry_bound t (cell Weight 0 0) 0 (omega arith, omega arith) refl)
