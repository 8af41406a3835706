-- The three mask steps (document 01, "Masks"), and what a back step has to be. Assumes nothing.
use Rattle.std.specs.Prelude.{◌≡◌, List, [], ◌∷◌, ◌++◌, ℕ, get_or, drop}
use Rattle.std.specs.Int.Bits.{bit_xor}
use Rattle.words.specs.Word.{rot_l, shl}
use Rattle.words.specs.Block.{Block, xor_block}

-- the new word 15: old word 0 rotated left by 53, xor old word 5 SHIFTED left by 13
unfoldable pub alpha_w : ℕ → ℕ → ℕ
alpha_w x y = bit_xor (rot_l 53 x) (shl 13 y)

-- alpha: words 1 to 15 move down to places 0 to 14, and the new word comes last
unfoldable pub alpha : List ℕ → List ℕ
alpha s = drop 1 s ++ (alpha_w (get_or s 0 0) (get_or s 5 0) ∷ [])

-- beta: alpha of the block, xor the block
unfoldable pub beta : List ℕ → List ℕ
beta s = xor_block (alpha s) s

-- gamma: alpha taken twice, xor alpha taken once, xor the block
unfoldable pub gamma : List ℕ → List ℕ
gamma s = xor_block (xor_block (alpha (alpha s)) (alpha s)) s

-- r is the only block whose forward step gives the block s
pub record OnlyBlock (forward : List ℕ → List ℕ) (s r : List ℕ) : Type 0 where
  pub block : Block r
  pub leads : forward r ≡ s
  pub only : (t : List ℕ) → Block t → forward t ≡ s → t ≡ r
