-- Four bytes and the number that they are.
use Rattle.std.proofs.Common.{◌≡◌, ℕ, zero, suc, ◌+◌, ◌*◌, ◌/◌, ◌%◌, ◌^◌, ◌<◌, ◌≤◌, List, [], ◌∷◌, ◌++◌, map, length, get_or, take, drop, ℤ, pos, negsuc, sym, refl, ap, ◌∙◌, subst, arith, take-add, w32, SFits, to_z, of_z}
use Rattle.std.specs.List.{range_with_len, flat_map}
use Rattle.std.proofs.lemmas.Nat.{div-mul-add, mod-mul-add, shr-shr, shr_below, div-add-mod'}
use Rattle.std.proofs.lemmas.List.FromFn.{map-range_with_len_more}
use Rattle.std.proofs.lemmas.List.{drop_more, drop-drop, flat_map_more, length-append}
use Rattle.std.proofs.lemmas.Int.{of_z-to_z, to_z-of_z}
use Rattle.file.specs.File.{le4, word, offset, header}

-- quotient and remainder of q * w + a
parted : (n q w a : ℕ) → n ≡ q * w + a → a < w → (n / w ≡ q) × (n % w ≡ a)
parted n q w a e h = (rw e (div-mul-add q w a h), rw e (mod-mul-add q w a h))

-- the bytes of a number made of bytes
bytes_of : (n a b c d : ℕ) → n ≡ a + b * 256 + c * 65536 + d * 16777216 → a < 256 → b < 256 → c < 256 → d < 256 → (n % 256 ≡ a) × (n / 256 % 256 ≡ b) × (n / 65536 % 256 ≡ c) × (n / 16777216 % 256 ≡ d)
bytes_of n a b c d e ha hb hc hd =
    let first = parted n (b + c * 256 + d * 65536) 256 a (omega arith) ha in
    let second = parted (n / 256) (c + d * 256) 256 b (omega arith) hb in
    let upper = parted n (c + d * 256) 65536 (a + b * 256) (omega arith) (omega arith) in
    let third = parted (n / 65536) d 256 c (omega arith) hc in
    let top = parted n d 16777216 (a + b * 256 + c * 65536) (omega arith) (omega arith) in
    let fourth = parted (n / 16777216) 0 256 d (omega arith) hd in
    (first.1, second.1, third.1, fourth.1)

le4_of_bytes : (a b c d : ℕ) → a < 256 → b < 256 → c < 256 → d < 256 → le4 (to_z w32 (a + b * 256 + c * 65536 + d * 16777216)) ≡ a ∷ (b ∷ (c ∷ (d ∷ [])))
le4_of_bytes a b c d ha hb hc hd =
    let n = a + b * 256 + c * 65536 + d * 16777216 in
    let e = bytes_of (of_z w32 (to_z w32 n)) a b c d (of_z-to_z w32 n (omega arith)) ha hb hc hd in
    cc

four : (b : List ℕ) (at : ℕ) → at + 4 ≤ length b → take 4 (drop at b) ≡ get_or b at 0 ∷ (get_or b (at + 1) 0 ∷ (get_or b (at + 2) 0 ∷ (get_or b (at + 3) 0 ∷ [])))
four b at h =
    let e0 = drop_more b at 0 (omega arith) in
    let e1 = drop_more b (at + 1) 0 (omega arith) in
    let e2 = drop_more b (at + 2) 0 (omega arith) in
    let e3 = drop_more b (at + 3) 0 (omega arith) in
    let n1 : at + 1 + 1 ≡ at + 2 = omega arith in
    let n2 : at + 2 + 1 ≡ at + 3 = omega arith in
    rw (e0, e1, n1, e2, n2, e3)

-- a word's four bytes are those of the file
pub le4_word : (b : List ℕ) (at : ℕ) → at + 4 ≤ length b → ((i : ℕ) → get_or b i 0 < 256) → le4 (word b at) ≡ take 4 (drop at b)
le4_word b at h f = le4_of_bytes _ _ _ _ (f at) (f (at + 1)) (f (at + 2)) (f (at + 3)) ∙ sym (four b at h)

-- the bytes of m words, one after the other
pub le4_words : (b : List ℕ) (m : ℕ) → offset m ≤ length b → ((i : ℕ) → get_or b i 0 < 256) → flat_map le4 (map (λ k. word b (offset k)) (range_with_len 0 m)) ≡ take (4 * m) (drop 6 b)
le4_words b zero h f = refl
le4_words b (suc m) h f =
    let next : suc m ≡ m + 1 = omega arith in
    let len : 4 * (m + 1) ≡ 4 * m + 4 = omega arith in
    let rest = le4_words b m (omega arith) f in
    let last = le4_word b (offset m) (omega arith) f in
    subst (λ (k : ℕ). flat_map le4 (map (λ i. word b (offset i)) (range_with_len 0 k)) ≡ take (4 * k) (drop 6 b)) (sym next)
    (ap (flat_map le4) (map-range_with_len_more (λ k. word b (offset k)) 0 m m (omega arith))
    ∙ sym (flat_map_more le4 [] (map (λ k. word b (offset k)) (range_with_len 0 m)) (word b (offset m)))
    ∙ ap (λ (xs : List ℕ). xs ++ le4 (word b (offset m))) rest
    ∙ ap (λ (xs : List ℕ). take (4 * m) (drop 6 b) ++ xs) (last ∙ ap (take 4) (sym (drop-drop (4 * m) 6 b)))
    ∙ sym (take-add (4 * m) 4 (drop 6 b))
    ∙ ap (λ (k : ℕ). take k (drop 6 b)) (sym len))

-- a number of four bytes
whole : (x a b d p q r s : ℕ) → a * 256 + p ≡ x → b * 256 + q ≡ a → d * 256 + r ≡ b → s ≡ d → p + q * 256 + r * 65536 + s * 16777216 ≡ x
whole x a b d p q r s e f g h = omega arith

of_its_bytes : (x : ℕ) → x < 2 ^ 32 → x % 256 + x / 256 % 256 * 256 + x / 65536 % 256 * 65536 + x / 16777216 % 256 * 16777216 ≡ x
of_its_bytes x h =
    let a = x / 256 in
    let b = x / 65536 in
    let d = x / 16777216 in
    let ab : a / 256 ≡ b = shr-shr x 8 8 in
    let bd : b / 256 ≡ d = shr-shr x 16 8 in
    let small : d < 256 = shr_below x 8 24 h in
    whole x a b d (x % 256) (a % 256) (b % 256) (d % 256) (div-add-mod' x 256) (rw ab at (div-add-mod' a 256)) (rw bd at (div-add-mod' b 256)) (omega arith)

bits_fit : (z : ℤ) → SFits w32 z → of_z w32 z < 2 ^ 32
bits_fit (pos n) f = omega (arith, f.sfits)
bits_fit (negsuc n) f = omega (arith, f.sfits)

word_first : (z : ℤ) (l : List ℕ) → SFits w32 z → word (le4 z ++ l) 0 ≡ z
word_first z l f = ap (to_z w32) (of_its_bytes (of_z w32 z) (bits_fit z f)) ∙ to_z-of_z w32 z f

-- past an entry's four bytes, and past the header's six
past_four : (z : ℤ) (l : List ℕ) (m p : ℕ) → m ≡ suc (suc (suc (suc p))) → get_or (le4 z ++ l) m 0 ≡ get_or l p 0
past_four z l m p e = rw e

word_next : (z : ℤ) (l : List ℕ) (m p : ℕ) → m ≡ p + 4 → word (le4 z ++ l) m ≡ word l p
word_next z l m p e =
    let s0 = past_four z l m p (omega arith) in
    let s1 = past_four z l (m + 1) (p + 1) (omega arith) in
    let s2 = past_four z l (m + 2) (p + 2) (omega arith) in
    let s3 = past_four z l (m + 3) (p + 3) (omega arith) in
    cc

past_six : (n : ℕ) (l : List ℕ) (m p : ℕ) → m ≡ suc (suc (suc (suc (suc (suc p))))) → get_or (header n ++ l) m 0 ≡ get_or l p 0
past_six n l m p e = rw e

word_past : (n : ℕ) (l : List ℕ) (m p : ℕ) → m ≡ p + 6 → word (header n ++ l) m ≡ word l p
word_past n l m p e =
    let s0 = past_six n l m p (omega arith) in
    let s1 = past_six n l (m + 1) (p + 1) (omega arith) in
    let s2 = past_six n l (m + 2) (p + 2) (omega arith) in
    let s3 = past_six n l (m + 3) (p + 3) (omega arith) in
    cc

word_in : (zs : List ℤ) (k : ℕ) → k < length zs → ((i : ℕ) → i < length zs → SFits w32 (get_or zs i (pos 0))) → word (flat_map le4 zs) (4 * k) ≡ get_or zs k (pos 0)
word_in [] k h f = absurd (omega arith)
word_in (z ∷ zs) zero h f = word_first z (flat_map le4 zs) (f 0 (omega arith))
word_in (z ∷ zs) (suc k) h f =
    word_next z (flat_map le4 zs) (4 * suc k) (4 * k) (omega arith) ∙ word_in zs k (omega arith) (λ i l. f (suc i) (omega arith))

-- what stands in a file at an entry's offset
pub word_written : (n : ℕ) (zs : List ℤ) (k : ℕ) → k < length zs → ((i : ℕ) → i < length zs → SFits w32 (get_or zs i (pos 0))) → word (header n ++ flat_map le4 zs) (offset k) ≡ get_or zs k (pos 0)
word_written n zs k h f = word_past n (flat_map le4 zs) (offset k) (4 * k) (omega arith) ∙ word_in zs k h f

pub words_length : (zs : List ℤ) → length (flat_map le4 zs) ≡ 4 * length zs
words_length [] = refl
words_length (z ∷ zs) = omega (arith, length-append (le4 z) (flat_map le4 zs), words_length zs)
