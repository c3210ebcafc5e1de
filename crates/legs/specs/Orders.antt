-- The laws of a measure whose comparison is one of the library's orders.
use Rattle.std.specs.Prelude.{◌≡◌, ℕ, ◌+◌, ◌*◌, ◌<◌, ◌≤◌, true, ℤ, unsigned_abs, refl}
use Rattle.std.specs.declared.cmp.Ordering.TheVariants.{Less, Equal, Greater}
use Rattle.std.specs.declared.cmp.Ordering.{Ordering}
use Rattle.std.proofs.Common.{sym, ap, ap₂, ◌∙◌, arith}
use Rattle.std.specs.Ordering.{is_le, ordering_then, ordering_reverse, MatchOrdering, nat_cmp}
use Rattle.std.specs.Cmp.{IsTotalOrder, nat_cmp_total, alike_right, ranks, then_total, on_total}
use Rattle.legs.specs.Measure.{MeasureModel, Lawful, Reached, Small}
use Rattle.legs.specs.Measures.{squared, peak_first}
use Rattle.legs.specs.Reaching.{reached_within, reached_after}

module _ {C : Type 0} {R : C → C → Ordering} (o : IsTotalOrder R) where
  chain : (x y z : C) (a b : Ordering) → R x y ≡ a → R y z ≡ b → is_le a ≡ true → is_le b ≡ true → is_le (R x z) ≡ true
  chain x y z Less Less p q h k = ap is_le (o.trans x y z p q)
  chain x y z Less Equal p q h k = ap is_le (sym (alike_right o y z x q) ∙ p)
  chain x y z Less Greater p q h k = cc
  chain x y z Equal b p q h k = ap is_le (o.congr x y z p ∙ q) ∙ k
  chain x y z Greater b p q h k = cc

  -- a measure that compares by a total order wherever its costs come
  pub laws_where : (m : MeasureModel C) → ((a b : C) → Reached m 15 a → Reached m 15 b → m.compare a b ≡ R a b) → ((x y : C) → R x y ≡ Equal → x ≡ y) → ((c : C) (d : ℤ) → Reached m 14 c → Small d → is_le (R c (m.after c d)) ≡ true) → Lawful m
  laws_where m keeps same grows = record {
    flips = λ a b ra rb. keeps b a rb ra ∙ o.antisymm b a ∙ ap ordering_reverse (sym (keeps a b ra rb));
    trans = λ a b c ra rb rc h k. ap is_le (keeps a c ra rc) ∙ chain a b c _ _ (sym (keeps a b ra rb)) (sym (keeps b c rb rc)) h k;
    same = λ a b ra rb e. same a b (sym (keeps a b ra rb) ∙ e);
    grows = λ c d r h. ap is_le (keeps c (m.after c d) (reached_within m 14 15 c (omega arith) r) (reached_after m 14 c d r h)) ∙ grows c d r h;
  }

  -- a measure that compares by a total order everywhere
  pub laws_by : (start : C) (after : C → ℤ → C) → ((x y : C) → R x y ≡ Equal → x ≡ y) → ((c : C) (d : ℤ) → is_le (R c (after c d)) ≡ true) → Lawful (record { start = start; after = after; compare = R })
  laws_by start after same grows = laws_where (record { start = start; after = after; compare = R }) (λ a b _ _. refl) same (λ c d _ _. grows c d)

ranked_equal : (a b : ℕ) (o : Ordering) → MatchOrdering o (a < b) (a ≡ b) (b < a) → o ≡ Equal → a ≡ b
ranked_equal a b Less h e = cc
ranked_equal a b Equal h e = h
ranked_equal a b Greater h e = cc

ranked_le : (a b : ℕ) (o : Ordering) → MatchOrdering o (a < b) (a ≡ b) (b < a) → a ≤ b → is_le o ≡ true
ranked_le a b Less h k = refl
ranked_le a b Equal h k = refl
ranked_le a b Greater h k = absurd (omega arith)

then_equal : (a b : Ordering) → ordering_then a b ≡ Equal → (a ≡ Equal) × (b ≡ Equal)
then_equal Less b e = cc
then_equal Equal b e = (refl, e)
then_equal Greater b e = cc

then_le : (a b : Ordering) → is_le a ≡ true → is_le b ≡ true → is_le (ordering_then a b) ≡ true
then_le Less b h k = refl
then_le Equal b h k = k
then_le Greater b h k = h

pub same_number : (a b : ℕ) → nat_cmp a b ≡ Equal → a ≡ b
same_number a b e = ranked_equal a b _ (ranks a b) e

pub number_le : (a b : ℕ) → a ≤ b → is_le (nat_cmp a b) ≡ true
number_le a b h = ranked_le a b _ (ranks a b) h

pub same_pair : (a b : ℕ × ℕ) → ordering_then (nat_cmp a.0 b.0) (nat_cmp a.1 b.1) ≡ Equal → a ≡ b
same_pair a b e = let t = then_equal _ _ e in ap₂ (λ (x y : ℕ). (x, y)) (same_number _ _ t.0) (same_number _ _ t.1)

pub pair_le : (a b : ℕ × ℕ) → a.0 ≤ b.0 → a.1 ≤ b.1 → is_le (ordering_then (nat_cmp a.0 b.0) (nat_cmp a.1 b.1)) ≡ true
pair_le a b h k = then_le _ _ (number_le _ _ h) (number_le _ _ k)

pub squared_lawful : Lawful squared
squared_lawful = laws_by nat_cmp_total squared.start squared.after same_number (λ c d. number_le c (c + unsigned_abs d * unsigned_abs d) (omega arith))

pub peak_first_lawful : Lawful peak_first
peak_first_lawful = laws_by (then_total (on_total (λ p. p.0) nat_cmp_total) (on_total (λ p. p.1) nat_cmp_total)) peak_first.start peak_first.after same_pair (λ c d. pair_le c (peak_first.after c d) (omega arith) (omega arith))
