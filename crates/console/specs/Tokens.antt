-- A line that is being read, word by word.
use Rattle.std.specs.Prelude.{◌≡◌, ℕ, ◌+◌, List, [], ◌∷◌, length, drop, Some, None}
use Rattle.console.specs.Words.{Word, number, words_from}
use Rattle.console.specs.declared.words.Token.{Token}
use Rattle.console.specs.declared.words.Token.TheVariants.{Number, Name, End}
use Rattle.console.specs.declared.words.Words.{Words}

-- the words that are still to be read
abbrev pub left : Words → List Word
left w = words_from (w.at + 1) (drop w.at w.line.now)

-- the column past the line's last byte
abbrev pub end_column : Words → ℕ
end_column w = length w.line.now + 1

-- a token is the first of the words that are left, or says in which column the line has ended
abbrev pub First : ℕ → List Word → Token → Type 0
First end [] (End c) = c ≡ end
First end [] (Number c bs v) = ⊥
First end [] (Name c bs) = ⊥
First end (w ∷ ws) (End c) = ⊥
First end (w ∷ ws) (Number c bs v) = (c ≡ w.column) × (bs.now ≡ w.bytes) × (number w.bytes ≡ Some v)
First end (w ∷ ws) (Name c bs) = (c ≡ w.column) × (bs.now ≡ w.bytes) × (number w.bytes ≡ None)

-- all but the first
abbrev pub others : List Word → List Word
others [] = []
others (w ∷ ws) = ws
