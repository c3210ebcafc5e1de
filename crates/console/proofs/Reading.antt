-- Reading words and numbers, byte by byte.
use Rattle.std.proofs.Common.{◌≡◌, ℕ, suc, ◌+◌, ◌-◌, ◌^◌, ◌<◌, ◌≤◌, Bool, true, false, cond, not, ◌⊎◌, List, [], ◌∷◌, length, take, drop, Some, None, sym, refl, ap, ◌∙◌, subst, inl, inr, ⊎_elim, arith, lt-ltb, drop-drop, Option}
use native.Mathlib.Nat.{pow-le-pow_right}
use Rattle.std.proofs.lemmas.Bool.{cases_lt, le-ltb}
use Rattle.std.proofs.lemmas.List.{at_drop_more, at_drop_all, length-drop, take_all}
use Rattle.std.proofs.lemmas.List.Quantifiers.{position-Some}
use Rattle.std.proofs.lemmas.List.Folds.{length-prefix_len}
use Rattle.std.proofs.lemmas.Option.{none-some}
use Rattle.std.specs.List.{position, position_or_len, prefix_len, take_while}
use Rattle.console.specs.declared.words.Token.{Token}
use Rattle.console.specs.declared.words.Token.TheVariants.{Number, Name, End}
use Rattle.console.specs.Tokens.{First}
use Rattle.console.specs.Words.{Word, goes_on, is_space, put_before, words_from}

module _ {X : Type 0} where
  chosen : (p : Bool) (x y : X) → p ≡ true → cond p x y ≡ x
  chosen p x y e = ap (λ t. cond t x y) e

  other : (p : Bool) (x y : X) → p ≡ false → cond p x y ≡ y
  other p x y e = ap (λ t. cond t x y) e

either : (t : Bool) → (t ≡ true) ⊎ (t ≡ false)
either true = inl refl
either false = inr refl

-- how many spaces stand in front
abbrev spaces : List ℕ → ℕ
spaces xs = position_or_len (λ b. not (is_space b)) xs

-- how long the word in front is
abbrev first_len : List ℕ → ℕ
first_len xs = prefix_len (λ b. not (is_space b)) xs

module _ (c b : ℕ) (bs : List ℕ) where
  by_space : words_from (c + 1) bs ≡ words_from (c + 1 + spaces bs) (drop (spaces bs) bs) → is_space b ≡ true → words_from c (b ∷ bs) ≡ words_from (c + spaces (b ∷ bs)) (drop (spaces (b ∷ bs)) (b ∷ bs))
  by_space more e =
      let one : 1 + spaces bs ≡ suc (spaces bs) = omega arith in
      let n : spaces (b ∷ bs) ≡ suc (spaces bs) = ap (λ t. cond (not (not t)) (1 + spaces bs) 0) e ∙ one in
      let far : c + 1 + spaces bs ≡ c + suc (spaces bs) = omega arith in
      chosen _ _ _ e ∙ more ∙ ap (λ k. words_from k (drop (spaces bs) bs)) far ∙ sym (ap (λ k. words_from (c + k) (drop k (b ∷ bs))) n)

  by_none : is_space b ≡ false → words_from c (b ∷ bs) ≡ words_from (c + spaces (b ∷ bs)) (drop (spaces (b ∷ bs)) (b ∷ bs))
  by_none e =
      let n : spaces (b ∷ bs) ≡ 0 = ap (λ t. cond (not (not t)) (1 + spaces bs) 0) e in
      let here : c ≡ c + 0 = omega arith in
      ap (λ k. words_from k (b ∷ bs)) here ∙ sym (ap (λ k. words_from (c + k) (drop k (b ∷ bs))) n)

-- spaces are no part of any word
pub skipped : (c : ℕ) (xs : List ℕ) → words_from c xs ≡ words_from (c + spaces xs) (drop (spaces xs) xs)
skipped c [] = refl
skipped c (b ∷ bs) = ⊎_elim (λ e. by_space c b bs (skipped (c + 1) bs) e) (λ e. by_none c b bs e) (either (is_space b))

no_more : (bs : List ℕ) → goes_on bs ≡ false → first_len bs ≡ 0
no_more [] e = refl
no_more (b ∷ bs) e = ap (λ t. cond t (1 + first_len bs) 0) e

module _ (c b : ℕ) (bs : List ℕ) (e : is_space b ≡ false) where
  one_more : first_len (b ∷ bs) ≡ suc (first_len bs)
  one_more = let one : 1 + first_len bs ≡ suc (first_len bs) = omega arith in ap (λ t. cond (not t) (1 + first_len bs) 0) e ∙ one

  -- the word that stands in front, so long
  abbrev Front : ℕ → Type 0
  Front n = words_from c (b ∷ bs) ≡ record { column = c; bytes = take n (b ∷ bs) } ∷ words_from (c + n) (drop n (b ∷ bs))

  grows : goes_on bs ≡ true → words_from (c + 1) bs ≡ record { column = c + 1; bytes = take (first_len bs) bs } ∷ words_from (c + 1 + first_len bs) (drop (first_len bs) bs) → Front (first_len (b ∷ bs))
  grows g more =
      let far : c + 1 + first_len bs ≡ c + suc (first_len bs) = omega arith in
      subst Front (sym one_more)
      (other _ _ _ e
      ∙ ap (λ t. put_before c b t (words_from (c + 1) bs)) g
      ∙ ap (put_before c b true) more
      ∙ ap (λ k. record { column = c; bytes = b ∷ take (first_len bs) bs } ∷ words_from k (drop (first_len bs) bs)) far)

  ends : goes_on bs ≡ false → Front (first_len (b ∷ bs))
  ends g =
      subst Front (sym (one_more ∙ ap (λ k. suc k) (no_more bs g))) (other _ _ _ e ∙ ap (λ t. put_before c b t (words_from (c + 1) bs)) g)

-- the word in front, and the words behind it
pub front_word : (c : ℕ) (xs : List ℕ) → goes_on xs ≡ true → words_from c xs ≡ record { column = c; bytes = take (first_len xs) xs } ∷ words_from (c + first_len xs) (drop (first_len xs) xs)
front_word c [] e = let z : ◌≡◌ {A = ℕ} 0 1 = cc in absurd (omega arith)
front_word c (b ∷ bs) e =
    let at : is_space b ≡ false = ⊎_elim (λ t. let z : ◌≡◌ {A = ℕ} 0 1 = cc (e, ap not t) in absurd (omega arith)) (λ t. t) (either (is_space b)) in
    ⊎_elim (λ g. grows c b bs at g (front_word (c + 1) bs g)) (λ g. ends c b bs at g) (either (goes_on bs))

-- how long the word in front is, as it is counted
abbrev pub word_len : List ℕ → ℕ
word_len xs = length (take_while (λ b. not (is_space b)) xs)

-- where the first word begins, if there is one
abbrev pub first_at : List ℕ → Option ℕ
first_at xs = position (λ b. not (is_space b)) xs

pub no_words : (c : ℕ) (xs : List ℕ) → first_at xs ≡ None → words_from c xs ≡ []
no_words c xs e =
    ⊎_elim
    (λ lt. let f : first_at xs ≡ Some (spaces xs) = ap (λ t. cond t (Some (spaces xs)) None) (lt-ltb (spaces xs) (length xs) lt) in absurd (none-some _ (sym e ∙ f)))
    (λ le. skipped c xs ∙ at_drop_all (words_from (c + spaces xs)) xs (spaces xs) le)
    (cases_lt (spaces xs) (length xs))

to_first : (c i : ℕ) (xs : List ℕ) → first_at xs ≡ Some i → words_from c xs ≡ words_from (c + i) (drop i xs)
to_first c i xs e =
    let h = position-Some (λ b. not (is_space b)) xs i 0 e in
    ⊎_elim
    (λ lt. let f : first_at xs ≡ Some (spaces xs) = ap (λ t. cond t (Some (spaces xs)) None) (lt-ltb (spaces xs) (length xs) lt) in
    let same : spaces xs ≡ i = cc (e, f) in
    skipped c xs ∙ ap (λ k. words_from (c + k) (drop k xs)) same)
    (λ le. let f : first_at xs ≡ None = ap (λ t. cond t (Some (spaces xs)) None) (le-ltb (spaces xs) (length xs) le) in absurd (none-some _ (sym f ∙ e)))
    (cases_lt (spaces xs) (length xs))

pub next_word : (line : List ℕ) (at i n : ℕ) → first_at (drop at line) ≡ Some i → n ≡ word_len (drop (at + i) line) → words_from (at + 1) (drop at line) ≡ record { column = at + i + 1; bytes = take n (drop (at + i) line) } ∷ words_from (at + i + n + 1) (drop (at + i + n) line)
next_word line at i n e m =
    let h = position-Some (λ b. not (is_space b)) (drop at line) i 0 e in
    let ys : List ℕ = drop (at + i) line in
    let on : goes_on (drop i (drop at line)) ≡ true = at_drop_more goes_on (drop at line) i 0 h.0 ∙ h.1 in
    let same : n ≡ first_len ys = m ∙ length-prefix_len (λ b. not (is_space b)) ys in
    let far : at + 1 + i ≡ at + i + 1 = omega arith in
    let end : at + i + 1 + n ≡ at + i + n + 1 = omega arith in
    to_first (at + 1) i (drop at line) e
    ∙ ap (λ k. words_from k (drop i (drop at line))) far
    ∙ ap (words_from (at + i + 1)) (drop-drop i at line)
    ∙ front_word (at + i + 1) ys (ap goes_on (sym (drop-drop i at line)) ∙ on)
    ∙ ap (λ k. record { column = at + i + 1; bytes = take k ys } ∷ words_from (at + i + 1 + k) (drop k ys)) (sym same)
    ∙ ap (λ k. record { column = at + i + 1; bytes = take n ys } ∷ words_from k (drop n ys)) end
    ∙ ap (λ xs. record { column = at + i + 1; bytes = take n ys } ∷ words_from (at + i + n + 1) xs) (drop-drop n (at + i) line)

-- what stands from i on, as a slice
pub tail_is : (line : List ℕ) (i : ℕ) → take (length line - i) (drop i line) ≡ drop i line
tail_is line i = take_all (length line - i) (drop i line) (omega (arith, length-drop i line))

pub nothing_left : (line : List ℕ) → words_from (length line + 1) (drop (length line) line) ≡ []
nothing_left line = at_drop_all (words_from (length line + 1)) line (length line) (omega arith)

-- a token is the first word whatever follows
pub first_before : (end : ℕ) (w : Word) (ws : List Word) (t : Token) → First 0 (w ∷ []) t → First end (w ∷ ws) t
first_before end w ws (Number c bs v) f = f
first_before end w ws (Name c bs) f = f
first_before end w ws (End c) f = f

-- a number of at most seven digits
pub seven_digits : (v i : ℕ) → v < 10 ^ i → i ≤ 7 → v < 10000000
seven_digits v i h k = omega (arith, pow-le-pow_right {n = 10} (omega arith) k)
