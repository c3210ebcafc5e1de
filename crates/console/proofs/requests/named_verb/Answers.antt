use Rattle.std.proofs.Common.{◌≡◌, codes, Some, sym, refl, subst, rules}
use Rattle.std.proofs.lemmas.Slice.Eq.{text_from_reads}
use Rattle.console.specs.Lines.{verb}
use Rattle.console.specs.declared.requests.Verb.TheVariants.{Limit}
use Rattle.console.proofs.requests.named_verb.Goals as goal

pub returns-in-LIMIT : goal.returns-in-LIMIT
returns-in-LIMIT c =
    let same : c.args.word.now ≡ codes "LIMIT" = text_from_reads c.args.word.now (codes "LIMIT") (search rules) (search rules) in
    subst (λ w. Some Limit ≡ verb w) (sym same) refl
