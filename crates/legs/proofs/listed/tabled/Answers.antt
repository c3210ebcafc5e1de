use Rattle.std.proofs.Common.{◌≡◌, ◌<◌, ℕ, length, pos, slice_index, slice_index_or, ap, arith, rules}
use Rattle.legs.specs.declared.listed.Position.{Position}
use Rattle.legs.proofs.Made.{column, made_by}
use Rattle.legs.proofs.listed.tabled.Goals as goal

pub returns : goal.returns
returns c =
    let ls = c.args.levels.now in
    let ms = c.args.masks.now in
    let none : Position = record { level = pos 0; targets = 0 } in
    let e : length ls ≡ length ms = omega arith in
    let each = λ (k : ℕ) (h : k < 5). made_by _ (λ p. record { level = slice_index_or ls p (pos 0); targets = slice_index ms p }) c.from_fn.result (λ i y q k. search rules) 5 0 c.from_fn.ensures.items.each k none (omega arith) h in
    record {
      full = c.from_fn.ensures.items.long;
      levels = column (λ p. p.level) c.from_fn.result ls none (omega (arith, c.from_fn.ensures.items.long)) (λ k h. ap (λ p. p.level) (each k (omega arith)));
      masks = rw e (column (λ p. p.targets) c.from_fn.result ms none (omega (arith, c.from_fn.ensures.items.long)) (λ k h. ap (λ p. p.targets) (each k (omega arith))));
    }
