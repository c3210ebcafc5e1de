-- Two fractions a / d and b / e with the same value: bounds on the one are bounds on the other.
use Rattle.std.proofs.Common.{◌≡◌, ℕ, ◌*◌, ◌<◌, ◌≤◌, subst, mul-le-mul_right, lt_of_mul-lt-mul_right, mul-lt-mul_of_pos_right, mul_right_comm, le_of_mul-le-mul_right}

module _ (n a d b e : ℕ) (dp : 0 < d) (same : a * e ≡ b * d) where
  pub at_least : n * d ≤ a → n * e ≤ b
  at_least h = le_of_mul-le-mul_right (subst (λ x. x ≤ b * d) (mul_right_comm n d e) (subst (λ x. n * d * e ≤ x) same (mul-le-mul_right e h))) dp

  pub at_most : a ≤ n * d → b ≤ n * e
  at_most h = le_of_mul-le-mul_right (subst (λ x. b * d ≤ x) (mul_right_comm n d e) (subst (λ x. x ≤ n * d * e) same (mul-le-mul_right e h))) dp

  pub above : 0 < e → n * d < a → n * e < b
  above ep h = lt_of_mul-lt-mul_right d (subst (λ x. x < b * d) (mul_right_comm n d e) (subst (λ x. n * d * e < x) same (mul-lt-mul_of_pos_right h ep)))

  pub below : 0 < e → a < n * d → b < n * e
  below ep h = lt_of_mul-lt-mul_right d (subst (λ x. b * d < x) (mul_right_comm n d e) (subst (λ x. x < n * d * e) same (mul-lt-mul_of_pos_right h ep)))
