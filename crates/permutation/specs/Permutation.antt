-- The permutation P and the back permutation (document 01, "The permutation (section 8)"; document 02, cards 2 and 3). Assumes nothing.
use Rattle.std.specs.Prelude.{ℕ, List, [], ◌∷◌, ◌++◌, bit_xor, slice_index, slice_set}
use Rattle.words.specs.Word.{add_w, sub_w, rot_r, rot_l}
use Rattle.words.specs.Sequence.{times}
use Rattle.permutation.specs.declared.g.Quad.{Quad}

-- the step G: its eight lines, as section 8 prints them
unfoldable pub g_of : Quad → Quad
g_of q =
    let record { a = a; b = b; c = c; d = d } = q in
    let a = add_w a b in
    let d = rot_r 32 (bit_xor d a) in
    let c = add_w c d in
    let b = rot_r 24 (bit_xor b c) in
    let a = add_w a b in
    let d = rot_r 16 (bit_xor d a) in
    let c = add_w c d in
    let b = rot_r 63 (bit_xor b c) in
    record { a = a; b = b; c = c; d = d }

-- the step G undone: the eight lines undone, the last one first
unfoldable pub back_g_of : Quad → Quad
back_g_of q =
    let record { a = a; b = b; c = c; d = d } = q in
    let b = bit_xor (rot_l 63 b) c in
    let c = sub_w c d in
    let d = bit_xor (rot_l 16 d) a in
    let a = sub_w a b in
    let b = bit_xor (rot_l 24 b) c in
    let c = sub_w c d in
    let d = bit_xor (rot_l 32 d) a in
    let a = sub_w a b in
    record { a = a; b = b; c = c; d = d }

-- the four words of a block whose word numbers are in the row
unfoldable pub pick : List ℕ → List ℕ → Quad
pick row s =
    record {
      a = slice_index s (slice_index row 0);
      b = slice_index s (slice_index row 1);
      c = slice_index s (slice_index row 2);
      d = slice_index s (slice_index row 3);
    }

-- the block with those four words put in their places
unfoldable pub put : List ℕ → Quad → List ℕ → List ℕ
put row q s = slice_set (slice_set (slice_set (slice_set s (slice_index row 0) q.a) (slice_index row 1) q.b) (slice_index row 2) q.c) (slice_index row 3) q.d

-- a step on four words, taken at the word numbers of a row
unfoldable pub step_at : (Quad → Quad) → List ℕ → List ℕ → List ℕ
step_at f row s = put row (f (pick row s)) s

-- G over one group of word numbers
unfoldable pub g_at : List ℕ → List ℕ → List ℕ
g_at row s = step_at g_of row s

-- G over one group, undone
unfoldable pub back_g_at : List ℕ → List ℕ → List ℕ
back_g_at row s = step_at back_g_of row s

-- G over each group in turn
unfoldable pub over : List (List ℕ) → List ℕ → List ℕ
over [] s = s
over (row ∷ rows) s = over rows (g_at row s)

-- the same undone, the last group first
unfoldable pub back_over : List (List ℕ) → List ℕ → List ℕ
back_over [] s = s
back_over (row ∷ rows) s = back_g_at row (back_over rows s)

-- the four column groups of word numbers, as section 8 prints them
unfoldable pub columns : List (List ℕ)
columns =
    (0 ∷ 4 ∷ 8 ∷ 12 ∷ [])
    ∷ (1 ∷ 5 ∷ 9 ∷ 13 ∷ [])
    ∷ (2 ∷ 6 ∷ 10 ∷ 14 ∷ [])
    ∷ (3 ∷ 7 ∷ 11 ∷ 15 ∷ [])
    ∷ []

-- the four diagonal groups, as section 8 prints them
unfoldable pub diagonals : List (List ℕ)
diagonals =
    (0 ∷ 5 ∷ 10 ∷ 15 ∷ [])
    ∷ (1 ∷ 6 ∷ 11 ∷ 12 ∷ [])
    ∷ (2 ∷ 7 ∷ 8 ∷ 13 ∷ [])
    ∷ (3 ∷ 4 ∷ 9 ∷ 14 ∷ [])
    ∷ []

-- the eight groups: the columns, then the diagonals
unfoldable pub groups : List (List ℕ)
groups = columns ++ diagonals

-- a round takes G over the eight groups
unfoldable pub round : List ℕ → List ℕ
round s = over groups s

-- a round undone
unfoldable pub back_round : List ℕ → List ℕ
back_round s = back_over groups s

-- P is n rounds, for any n (document 02, card 2)
unfoldable pub perm : ℕ → List ℕ → List ℕ
perm n s = times round n s

-- the back permutation undoes P of as many rounds
unfoldable pub back_perm : ℕ → List ℕ → List ℕ
back_perm n s = times back_round n s
