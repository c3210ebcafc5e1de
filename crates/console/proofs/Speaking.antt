-- From the first word of a line to what the line asks for.
use Rattle.std.proofs.Common.{◌≡◌, ℕ, ◌+◌, ◌≤◌, List, [], ◌∷◌, length, ℤ, Option, Result, ap, subst, Bor, le-leb}
use Rattle.fault.specs.Refusals.{Answers, first_some, unless}
use Rattle.fault.specs.Rules.{refused}
use Rattle.fault.specs.declared.Fault.{Fault}
use Rattle.fault.specs.declared.rule.Rule.TheVariants.{LineLength}
use Rattle.console.specs.Lines.{asked, command_refusal, commanded, line_refusal, longest_line, verb, words_refusal}
use Rattle.console.specs.Requests.{MeansMaybe}
use Rattle.console.specs.Tokens.{First, others}
use Rattle.console.specs.Words.{Word, words}
use Rattle.console.specs.declared.requests.Request.{Request}
use Rattle.console.specs.declared.words.Token.TheVariants.{Number, Name}

-- these are the first word and the words behind it
abbrev pub Starts : List Word → ℕ → List ℕ → List Word → Type 0
Starts [] c bs rest = ⊥
Starts (w ∷ ws) c bs rest = (c ≡ w.column) × (bs ≡ w.bytes) × (rest ≡ ws)

pub by_number : (end c : ℕ) (bs : Bor (List ℕ)) (v : ℤ) (ws rest : List Word) → First end ws (Number c bs v) → rest ≡ others ws → Starts ws c bs.now rest
by_number end c bs v [] rest f e = f
by_number end c bs v (w ∷ ws) rest f e = (f.0, f.1, e)

pub by_name : (end c : ℕ) (bs : Bor (List ℕ)) (ws rest : List Word) → First end ws (Name c bs) → rest ≡ others ws → Starts ws c bs.now rest
by_name end c bs [] rest f e = f
by_name end c bs (w ∷ ws) rest f e = (f.0, f.1, e)

module _ (line : List ℕ) (short : length line ≤ longest_line) where
  -- a line that is short enough is refused for its words alone
  short_enough : line_refusal line ≡ words_refusal (length line + 1) (words line)
  short_enough = ap (λ t. first_some (unless t (refused LineLength (longest_line + 1))) (words_refusal (length line + 1) (words line))) (le-leb (length line) longest_line short)

  by_words : (ws : List Word) (r : Result (Option Request) Fault) → words line ≡ ws → Answers (words_refusal (length line + 1) ws) (λ q. MeansMaybe q (asked ws)) r → Answers (line_refusal line) (λ q. MeansMaybe q (asked (words line))) r
  by_words ws r e a = rw (short_enough, e) a

  pub said : (ws : List Word) (c end : ℕ) (bs : List ℕ) (rest : List Word) (r : Result (Option Request) Fault) → words line ≡ ws → Starts ws c bs rest → end ≡ length line + 1 → Answers (command_refusal (verb bs) c end rest) (λ q. MeansMaybe q (commanded (verb bs) rest)) r → Answers (line_refusal line) (λ q. MeansMaybe q (asked (words line))) r
  said [] c end bs rest r e s l a = absurd s
  said (w ∷ ws) c end bs rest r e s l a =
      by_words (w ∷ ws) r e
      (subst (λ k. Answers (command_refusal (verb w.bytes) w.column k ws) (λ q. MeansMaybe q (commanded (verb w.bytes) ws)) r) l
      (subst (λ k. Answers (command_refusal (verb w.bytes) k end ws) (λ q. MeansMaybe q (commanded (verb w.bytes) ws)) r) s.0
      (subst (λ b. Answers (command_refusal (verb b) c end ws) (λ q. MeansMaybe q (commanded (verb b) ws)) r) s.1
      (subst (λ x. Answers (command_refusal (verb bs) c end x) (λ q. MeansMaybe q (commanded (verb bs) x)) r) s.2 a))))
