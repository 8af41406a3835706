-- The start, the mask (i, j, k), E and D (document 01, "Masks"; document 02, card 4, for the start). Assumes nothing.
use Rattle.std.specs.Prelude.{Bool, true, false, List, ◌∷◌, ◌++◌, ℕ, ◌%◌, ◌^◌}
use Rattle.words.specs.Sequence.{tab, times, zeros}
use Rattle.words.specs.Block.{word_at, xor_block}
use Rattle.permutation.specs.Permutation.{perm, back_perm}
use Rattle.masks.specs.Steps.{alpha, beta, gamma}

-- the nonce in words 0 and 1, zero in words 2 to 9, two words as given in words 10 and 11, the key in words 12 to 15
unfoldable pub start_words : ℕ → ℕ → List ℕ → List ℕ → List ℕ
start_words w10 w11 key nonce = tab (word_at nonce) 2 ++ (zeros 8 ++ (w10 ∷ w11 ∷ tab (word_at key) 4))

-- section 8's block: word 10 holds the round count, as 64 bits, and word 11 holds 256, the tag's bits; words 2 to 9 stay zero
unfoldable pub start_block : ℕ → List ℕ → List ℕ → List ℕ
start_block rounds key nonce = start_words (rounds % 2 ^ 64) 256 key nonce

-- the start, of seal, open and the store: P of that block
unfoldable pub start_of : ℕ → List ℕ → List ℕ → List ℕ
start_of rounds key nonce = perm rounds (start_block rounds key nonce)

-- section 4's block: zero in words 2 to 11
unfoldable pub old_start_block : List ℕ → List ℕ → List ℕ
old_start_block key nonce = start_words 0 0 key nonce

-- the old start, section 4 form, for opening alone: P of that block
unfoldable pub old_start_of : ℕ → List ℕ → List ℕ → List ℕ
old_start_of rounds key nonce = perm rounds (old_start_block key nonce)

-- the start asked for: the old one or not
abbrev pub start_for : Bool → ℕ → List ℕ → List ℕ → List ℕ
start_for true = old_start_of
start_for false = start_of

-- mask (i, j, k): the start after i alpha, j beta and k gamma steps
unfoldable pub mask_at : List ℕ → ℕ → ℕ → ℕ → List ℕ
mask_at start i j k = times gamma k (times beta j (times alpha i start))

-- P of (block xor mask), xor mask
unfoldable pub encipher : ℕ → List ℕ → List ℕ → List ℕ
encipher rounds mask block = xor_block (perm rounds (xor_block block mask)) mask

-- the same with the back permutation
unfoldable pub decipher : ℕ → List ℕ → List ℕ → List ℕ
decipher rounds mask block = xor_block (back_perm rounds (xor_block block mask)) mask

-- E(i, j, k) of a block, for a round count and a start
unfoldable pub E : ℕ → List ℕ → ℕ → ℕ → ℕ → List ℕ → List ℕ
E rounds start i j k block = encipher rounds (mask_at start i j k) block

-- D is the same with the back permutation
unfoldable pub D : ℕ → List ℕ → ℕ → ℕ → ℕ → List ℕ → List ℕ
D rounds start i j k block = decipher rounds (mask_at start i j k) block
