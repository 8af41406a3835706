-- Lists made by counting from 0: of single values, of pieces, and a value carried along; no passage of document 01. Assumes nothing.
use Rattle.std.specs.Prelude.{List, [], ◌∷◌, ◌++◌, ℕ, zero, suc}

-- f 0, f 1, .., f (n - 1)
unfoldable pub tab : (ℕ → ℕ) → ℕ → List ℕ
tab f zero = []
tab f (suc n) = tab f n ++ (f n ∷ [])

-- the lists f 0, f 1, .., f (n - 1), one after the other
unfoldable pub cat : (ℕ → List ℕ) → ℕ → List ℕ
cat f zero = []
cat f (suc n) = cat f n ++ f n

-- z carried through f 0, f 1, .., f (n - 1)
unfoldable pub fold : (ℕ → List ℕ → List ℕ) → List ℕ → ℕ → List ℕ
fold f z zero = z
fold f z (suc n) = f n (fold f z n)

-- f taken n times
unfoldable pub times : (List ℕ → List ℕ) → ℕ → List ℕ → List ℕ
times f zero s = s
times f (suc n) s = f (times f n s)

-- n zeros
unfoldable pub zeros : ℕ → List ℕ
zeros n = tab (λ i. 0) n
