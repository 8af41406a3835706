-- The groups of a round in another order (document 02, card 3). Assumes nothing.
use Rattle.std.specs.Prelude.{◌≡◌, ℕ, ◌<◌, ◌≢◌, List, [], ◌∷◌, ◌++◌, slice_index}
use Rattle.permutation.specs.Permutation.{g_at, over, columns, diagonals, round}

-- the arrangements of a list: of no element, the empty list; of x and others, each arrangement of the others with x put in at any place
pub data Arrangement {A : Type 0} : List A → List A → Type 0 where
  empty : Arrangement [] []
  insert : (x : A) (others front back : List A) → Arrangement others (front ++ back) → Arrangement (x ∷ others) (front ++ (x ∷ back))

-- two groups with no word in common
unfoldable pub Apart : List ℕ → List ℕ → Type 0
Apart row other = (i j : ℕ) → i < 4 → j < 4 → slice_index row i ≢ slice_index other j

-- the order of groups, for every block s and for lists of any other length too; proved as group-order in proofs/Ordered
pub record GroupOrder : Type 0 where
  -- G over two groups with no word in common may be taken in either order
  pub either : (row other : List ℕ) → Apart row other → (s : List ℕ) → g_at other (g_at row s) ≡ g_at row (g_at other s)
  -- G over the four column groups, in any order among themselves, gives the same block
  pub column-order : (rows : List (List ℕ)) → Arrangement columns rows → (s : List ℕ) → over rows s ≡ over columns s
  -- and over the four diagonal groups likewise
  pub diagonal-order : (rows : List (List ℕ)) → Arrangement diagonals rows → (s : List ℕ) → over rows s ≡ over diagonals s
  -- so a round may take the columns in any order, and then the diagonals in any order
  pub round-order : (first then : List (List ℕ)) → Arrangement columns first → Arrangement diagonals then → (s : List ℕ) → over (first ++ then) s ≡ round s
