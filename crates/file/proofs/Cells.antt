-- Every cell stands in the file where its index says.
use Rattle.std.proofs.Common.{◌≡◌, ℕ, zero, suc, ◌+◌, ◌<◌, ◌≤◌, ◌⊎◌, List, [], ◌++◌, map, length, get_or, sym, refl, ◌∙◌, subst, inl, inr, arith, length-append}
use Rattle.std.proofs.lemmas.List.FromFn.{length-map-range_with_len, get_or-map-range_with_len}
use Rattle.std.proofs.lemmas.List.{get_or_append_left, get_or-append-add}
use Rattle.std.proofs.lemmas.Bool.{cases_lt}
use Rattle.std.specs.List.{range_with_len}
use Rattle.file.specs.Layout.{rows, columns, above, size, count, index, cell, row_cells, cells}
use Rattle.file.specs.declared.layout.Cell.{Cell}
use Rattle.file.specs.declared.layout.Table.{Table}
use Rattle.file.specs.declared.layout.Table.TheVariants.{Weight, Gamma, Upsilon, Unconstrained, Target, Generator}

row_cells_length : (t : Table) (n r : ℕ) → length (row_cells t n r) ≡ above t n r
row_cells_length t n zero = refl
row_cells_length t n (suc r) =
    length-append (row_cells t n r) (map (cell t r) (range_with_len 0 (columns t n r)))
    ∙ omega (arith, row_cells_length t n r, length-map-range_with_len (cell t r) 0 (columns t n r))

-- a row lies above each later one
pub row_above : (t : Table) (n r m : ℕ) → r < m → above t n r + columns t n r ≤ above t n m
row_above t n r zero h = absurd (omega arith)
row_above t n r (suc m) h = way (cases_lt r m) (row_above t n r m)
  where
    way : (r < m) ⊎ (m ≤ r) → (r < m → above t n r + columns t n r ≤ above t n m) → above t n r + columns t n r ≤ above t n m + columns t n m
    way (inl k) ih = omega (arith, ih k)
    way (inr k) ih = let e : r ≡ m = omega arith in subst (λ (x : ℕ). above t n x + columns t n x ≤ above t n m + columns t n m) (sym e) (omega arith)

-- what stands behind a list
behind : (xs ys : List Cell) (n i k : ℕ) (d : Cell) → length xs ≡ n → i ≡ n + k → get_or (xs ++ ys) i d ≡ get_or ys k d
behind xs ys n i k d e f = let g : i ≡ length xs + k = omega arith in rw g (get_or-append-add xs ys k d)

-- within a table
in_rows : (t : Table) (n r c m : ℕ) (d : Cell) → r < m → c < columns t n r → get_or (row_cells t n m) (above t n r + c) d ≡ cell t r c
in_rows t n r c zero d h k = absurd (omega arith)
in_rows t n r c (suc m) d h k = way (cases_lt r m) (λ l. in_rows t n r c m d l k)
  where
    here : get_or (row_cells t n m ++ map (cell t m) (range_with_len 0 (columns t n m))) (above t n m + c) d ≡ get_or (map (cell t m) (range_with_len 0 (columns t n m))) c d
    here = behind (row_cells t n m) (map (cell t m) (range_with_len 0 (columns t n m))) (above t n m) (above t n m + c) c d (row_cells_length t n m) refl

    way : (r < m) ⊎ (m ≤ r) → (r < m → get_or (row_cells t n m) (above t n r + c) d ≡ cell t r c) → get_or (row_cells t n (suc m)) (above t n r + c) d ≡ cell t r c
    way (inl l) ih = get_or_append_left (row_cells t n m) (map (cell t m) (range_with_len 0 (columns t n m))) d (above t n r + c) (omega (arith, row_above t n r m l, row_cells_length t n m)) ∙ ih l
    way (inr l) ih =
        let e : r ≡ m = omega arith in
        subst (λ (x : ℕ). c < columns t n x → get_or (row_cells t n (suc m)) (above t n x + c) d ≡ cell t x c) (sym e)
        (λ q. here ∙ get_or-map-range_with_len (cell t m) 0 (columns t n m) c c d q (omega arith)) k

-- a table in front of others
in_front : (t : Table) (n r c : ℕ) (ys : List Cell) (d : Cell) → r < rows t n → c < columns t n r → get_or (row_cells t n (rows t n) ++ ys) (above t n r + c) d ≡ cell t r c
in_front t n r c ys d h k =
    get_or_append_left (row_cells t n (rows t n)) ys d (above t n r + c) (omega (arith, row_above t n r (rows t n) h, row_cells_length t n (rows t n)))
    ∙ in_rows t n r c (rows t n) d h k

-- past a table
over : (t : Table) (n i k : ℕ) (ys : List Cell) (d x : Cell) → i ≡ size t n + k → get_or ys k d ≡ x → get_or (row_cells t n (rows t n) ++ ys) i d ≡ x
over t n i k ys d x e f = behind (row_cells t n (rows t n)) ys (size t n) i k d (row_cells_length t n (rows t n)) e ∙ f

front : (t : Table) (n i r c : ℕ) (ys : List Cell) (d : Cell) → i ≡ above t n r + c → r < rows t n → c < columns t n r → get_or (row_cells t n (rows t n) ++ ys) i d ≡ cell t r c
front t n i r c ys d e h k = rw e (in_front t n r c ys d h k)

pub stands : (n : ℕ) (t : Table) (r c : ℕ) (d : Cell) → r < rows t n → c < columns t n r → get_or (cells n) (index t n r c) d ≡ cell t r c
unfolding cells
stands n Weight r c d h k = front Weight n (index Weight n r c) r c _ d (omega arith) h k
stands n Gamma r c d h k = over Weight n (index Gamma n r c) (above Gamma n r + c) _ d _ (omega arith) (front Gamma n _ r c _ d refl h k)
stands n Upsilon r c d h k =
    over Weight n (index Upsilon n r c) (size Gamma n + (above Upsilon n r + c)) _ d _ (omega arith)
    (over Gamma n _ (above Upsilon n r + c) _ d _ refl (front Upsilon n _ r c _ d refl h k))
stands n Unconstrained r c d h k =
    over Weight n (index Unconstrained n r c) (size Gamma n + (size Upsilon n + (above Unconstrained n r + c))) _ d _ (omega arith)
    (over Gamma n _ (size Upsilon n + (above Unconstrained n r + c)) _ d _ refl
    (over Upsilon n _ (above Unconstrained n r + c) _ d _ refl (front Unconstrained n _ r c _ d refl h k)))
stands n Target r c d h k =
    over Weight n (index Target n r c) (size Gamma n + (size Upsilon n + (size Unconstrained n + (above Target n r + c)))) _ d _ (omega arith)
    (over Gamma n _ (size Upsilon n + (size Unconstrained n + (above Target n r + c))) _ d _ refl
    (over Upsilon n _ (size Unconstrained n + (above Target n r + c)) _ d _ refl
    (over Unconstrained n _ (above Target n r + c) _ d _ refl (front Target n _ r c _ d refl h k))))
stands n Generator r c d h k =
    over Weight n (index Generator n r c) (size Gamma n + (size Upsilon n + (size Unconstrained n + (size Target n + (above Generator n r + c))))) _ d _ (omega arith)
    (over Gamma n _ (size Upsilon n + (size Unconstrained n + (size Target n + (above Generator n r + c)))) _ d _ refl
    (over Upsilon n _ (size Unconstrained n + (size Target n + (above Generator n r + c))) _ d _ refl
    (over Unconstrained n _ (size Target n + (above Generator n r + c)) _ d _ refl
    (over Target n _ (above Generator n r + c) _ d _ refl (front Generator n _ r c _ d refl h k)))))

-- the length of a table and others behind it
longer : (t : Table) (n m : ℕ) (ys : List Cell) → length ys ≡ m → length (row_cells t n (rows t n) ++ ys) ≡ size t n + m
longer t n m ys e = length-append (row_cells t n (rows t n)) ys ∙ omega (arith, row_cells_length t n (rows t n))

pub cells_length : (n : ℕ) → length (cells n) ≡ count n
unfolding cells
cells_length n =
    longer Weight n (size Gamma n + (size Upsilon n + (size Unconstrained n + (size Target n + (size Generator n + 0))))) _
    (longer Gamma n _ _ (longer Upsilon n _ _ (longer Unconstrained n _ _ (longer Target n _ _ (longer Generator n 0 [] refl)))))
    ∙ omega arith
