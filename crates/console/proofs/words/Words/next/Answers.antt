use Rattle.std.proofs.Common.{◌≡◌, ◌+◌, ◌-◌, [], ◌∷◌, length, take, drop, sym, refl, ap, ◌∙◌, subst, arith}
use Rattle.console.specs.Tokens.{First, left, others}
use Rattle.console.specs.Words.{words_from}
use Rattle.console.specs.declared.words.Token.TheVariants.{End}
use Rattle.console.proofs.Reading.{first_before, first_at, next_word, no_words, nothing_left, tail_is, word_len}
use Rattle.console.proofs.words.Words.next.Goals as goal

pub returns-in_default : goal.returns-in_default
returns-in_default c =
    let line = c.args.self.now.line.now in
    let i = c.args.self.now.at in
    let none : left c.args.self.now ≡ [] = no_words (i + 1) (drop i line) (ap first_at (sym (tail_is line i)) ∙ sym c.first_byte.ensures ∙ c.in_default.is) in
    record {
      first = subst (λ ws. First (length line + 1) ws (End (length line + 1))) (sym none) refl;
      left = nothing_left line ∙ ap others (sym none);
      end = refl;
    }

pub returns : goal.returns
returns c =
    let line = c.args.self.now.line.now in
    let i = c.args.self.now.at in
    let from = i + c.in-Some.spaces in
    let n = c.word_len.result in
    let first = ap first_at (sym (tail_is line i)) ∙ sym c.first_byte.ensures ∙ c.in-Some.is in
    let all = next_word line i c.in-Some.spaces n first (c.word_len.ensures ∙ ap word_len (tail_is line from)) in
    let word : take (from + n - from) (drop from line) ≡ take n (drop from line) = ap (λ k. take k (drop from line)) (omega arith) in
    let token = subst (λ bs. First 0 (record { column = from + 1; bytes = bs } ∷ []) c.token.result) word c.token.ensures in
    record {
      first = subst (λ ws. First (length line + 1) ws c.token.result) (sym all) (first_before (length line + 1) _ (words_from (from + n + 1) (drop (from + n) line)) c.token.result token);
      left = ap others (sym all);
      end = refl;
    }
