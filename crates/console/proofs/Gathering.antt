-- Numbers gathered one by one off a line.
use Rattle.std.proofs.Common.{◌≡◌, ℕ, zero, suc, ◌+◌, ◌-◌, ◌<◌, ◌≤◌, List, [], ◌∷◌, ◌++◌, length, take, drop, ℤ, pos, None, Option, unwrap_or, sym, refl, ap, ◌∙◌, append_assoc, arith, length-append, Bor, le-leb}
use Rattle.std.proofs.lemmas.List.{length-drop, length-take, take_all}
use Rattle.fault.specs.Refusals.{first_some, unless}
use Rattle.fault.specs.declared.Fault.{Fault}
use Rattle.console.specs.Lines.{count_refusal, left_over, no_number, numbers_refusal, values}
use Rattle.console.specs.Tokens.{First, end_column, left, others}
use Rattle.console.specs.Words.{Word}
use Rattle.console.specs.declared.words.Token.TheVariants.{Number}
use Rattle.console.specs.declared.words.Words.{Words}
use Rattle.fault.specs.Rules.{refused}
use Rattle.fault.specs.declared.rule.Rule.TheVariants.{WordCount}

-- what was gathered, and what is left to gather, make up the whole
pub record SoFar (most : ℕ) (before : Words) (vs : List ℤ) (count : ℕ) (now : Words) : Type 0 where
  pub few : count ≤ most
  pub long : length vs ≡ count
  pub refusal_same : numbers_refusal (most - count) (left now) ≡ numbers_refusal most (left before)
  pub values_same : vs ++ values (take (most - count) (left now)) ≡ values (take most (left before))
  pub left_same : drop (most - count) (left now) ≡ drop most (left before)
  pub count_same : count + length (take (most - count) (left now)) ≡ length (take most (left before))
  pub end_same : end_column now ≡ end_column before

module _ {X : Type 0} where
  drop_none : (m : ℕ) → drop {A = X} m [] ≡ []
  drop_none zero = refl
  drop_none (suc m) = refl

-- a number in front
number_passes : (m end c : ℕ) (bs : Bor (List ℕ)) (v : ℤ) (ws : List Word) → First end ws (Number c bs v) → numbers_refusal (suc m) ws ≡ numbers_refusal m (others ws)
number_passes m end c bs v [] f = absurd f
number_passes m end c bs v (w ∷ ws) f = ap (λ o. first_some (no_number w.column o) (numbers_refusal m ws)) f.2

number_value : (m end c : ℕ) (bs : Bor (List ℕ)) (v : ℤ) (ws : List Word) → First end ws (Number c bs v) → values (take (suc m) ws) ≡ v ∷ values (take m (others ws))
number_value m end c bs v [] f = absurd f
number_value m end c bs v (w ∷ ws) f = ap (λ o. unwrap_or o (pos 0) ∷ values (take m ws)) f.2

number_counts : (m end c : ℕ) (bs : Bor (List ℕ)) (v : ℤ) (ws : List Word) → First end ws (Number c bs v) → length (take (suc m) ws) ≡ suc (length (take m (others ws)))
number_counts m end c bs v [] f = absurd f
number_counts m end c bs v (w ∷ ws) f = refl

drop_others : (m : ℕ) (ws : List Word) → drop (suc m) ws ≡ drop m (others ws)
drop_others m [] = sym (drop_none m)
drop_others m (w ∷ ws) = refl

module _ (most : ℕ) (before : Words) (vs : List ℤ) (count : ℕ) (now : Words) (so : SoFar most before vs count now) where
  pub none_yet : count < most → most - count ≡ suc (most - (count + 1))
  none_yet lt = omega arith

  pub more : (next : Words) (end c : ℕ) (bs : Bor (List ℕ)) (v : ℤ) → count < most → First end (left now) (Number c bs v) → left next ≡ others (left now) → end_column next ≡ end_column now → SoFar most before (vs ++ v ∷ []) (count + 1) next
  more next end c bs v lt f l e =
      let m : ℕ = most - (count + 1) in
      let is = none_yet lt in
      record {
        few = omega arith;
        long = length-append vs (v ∷ []) ∙ ap (λ k. k + 1) so.long;
        refusal_same = ap (numbers_refusal m) l ∙ sym (number_passes m end c bs v (left now) f) ∙ ap (λ k. numbers_refusal k (left now)) (sym is) ∙ so.refusal_same;
        values_same =
            append_assoc vs (v ∷ []) (values (take m (left next)))
            ∙ ap (λ ws. vs ++ (v ∷ values (take m ws))) l
            ∙ ap (λ xs. vs ++ xs) (sym (number_value m end c bs v (left now) f))
            ∙ ap (λ k. vs ++ values (take k (left now))) (sym is)
            ∙ so.values_same;
        left_same = ap (drop m) l ∙ sym (drop_others m (left now)) ∙ ap (λ k. drop k (left now)) (sym is) ∙ so.left_same;
        count_same =
            let a : length (take m (left next)) ≡ length (take m (others (left now))) = ap (λ ws. length (take m ws)) l in
            let b : length (take (suc m) (left now)) ≡ suc (length (take m (others (left now)))) = number_counts m end c bs v (left now) f in
            let d : length (take (most - count) (left now)) ≡ length (take (suc m) (left now)) = ap (λ k. length (take k (left now))) is in
            omega (arith, so.count_same);
        end_same = e ∙ so.end_same;
      }

module _ (least most end : ℕ) (ws : List Word) (fine : numbers_refusal most ws ≡ None) where
  counts_only : (o : Option Fault) → count_refusal least most end ws ≡ o → first_some (numbers_refusal most ws) (count_refusal least most end ws) ≡ o
  counts_only o e = ap (λ x. first_some x (count_refusal least most end ws)) fine ∙ e

  enough_words : (count : ℕ) → count ≡ length (take most ws) → least ≤ count → count_refusal least most end ws ≡ left_over (drop most ws)
  enough_words count is le =
      let many : least ≤ length ws = omega (arith, length-take most ws) in
      ap (λ t. first_some (unless t (refused WordCount end)) (left_over (drop most ws))) (le-leb least (length ws) many)

  pub just_right : (count : ℕ) → count ≡ length (take most ws) → least ≤ count → left_over (drop most ws) ≡ None → first_some (numbers_refusal most ws) (count_refusal least most end ws) ≡ None
  just_right count is le e = counts_only _ (enough_words count is le ∙ e)

no_left_over : (ws : List Word) → left_over ws ≡ None → length ws ≡ 0
no_left_over [] e = refl
no_left_over (w ∷ ws) e = let z : ◌≡◌ {A = ℕ} 0 1 = cc in absurd (omega arith)

pub all_taken : (most : ℕ) (ws : List Word) → left_over (drop most ws) ≡ None → take most ws ≡ ws
all_taken most ws e = take_all most ws (omega (arith, no_left_over (drop most ws) e, length-drop most ws))
