-- MRO (document 01, "Block plan"), over a round count and a start block. Assumes nothing.
use Rattle.std.specs.Prelude.{cond, List, [], ◌∷◌, ◌++◌, ℕ, suc, length}
use Rattle.words.specs.Sequence.{tab, zeros}
use Rattle.words.specs.Block.{word_at, xor_block}
use Rattle.mem.specs.Mem.{E}
use Rattle.blockplan.specs.Plan.{whole, has_left, absorb_at, xor_over, ciphered, tag_bytes}
use Rattle.blockplan.specs.Parcel.{Mode}

-- the number of blocks, a padded one included; leftovers are padded with zeros only, as block_at does
unfoldable pub blocks : List ℕ → ℕ
blocks s = cond (has_left s) (suc (whole s)) (whole s)

-- Sum: xor of E(i, 0, 0) over header blocks and E(i, 1, 0) over message blocks, padded ones included
unfoldable pub mro_sum : ℕ → List ℕ → List ℕ → List ℕ → List ℕ
mro_sum rounds start header message =
    xor_block (xor_over (absorb_at rounds start 0 header) (blocks header)) (xor_over (absorb_at rounds start 1 message) (blocks message))

-- the header's length in bytes in word 14 and the message's in word 15
unfoldable pub lengths : List ℕ → List ℕ → List ℕ
lengths header message = zeros 14 ++ (length header ∷ length message ∷ [])

-- Tag: first 32 bytes of E(0, 2, 0) of Sum xor the two lengths
unfoldable pub mro_tag : ℕ → List ℕ → List ℕ → List ℕ → List ℕ
mro_tag rounds start header message =
    tag_bytes (E rounds start 0 2 0 (xor_block (mro_sum rounds start header message) (lengths header message)))

-- the block holding the tag in words 0 to 3, i in word 15, zero between
unfoldable pub counter : List ℕ → ℕ → List ℕ
counter tag i = tab (word_at tag) 4 ++ (zeros 11 ++ (i ∷ []))

-- E(0, 0, 1) of that block
unfoldable pub mro_stream : ℕ → List ℕ → List ℕ → ℕ → List ℕ
mro_stream rounds start tag i = E rounds start 0 0 1 (counter tag i)

-- message block i is xored with that
unfoldable pub streamed : ℕ → List ℕ → List ℕ → ℕ → List ℕ → List ℕ
streamed rounds start tag i block = xor_block block (mro_stream rounds start tag i)

-- the ciphertext of a message under a tag, and the message of a ciphertext; a leftover is xored with the first bytes of that
unfoldable pub mro_cipher : ℕ → List ℕ → List ℕ → List ℕ → List ℕ
mro_cipher rounds start tag s = ciphered (streamed rounds start tag) (mro_stream rounds start tag) s

-- MRO as a mode; its ciphertext comes from the tag, and the stream is its own way back
unfoldable pub mro_mode : ℕ → List ℕ → Mode
mro_mode rounds start =
    record {
      tag = λ header message. mro_tag rounds start header message;
      cipher = λ tag message. mro_cipher rounds start tag message;
      plain = λ tag cipher. mro_cipher rounds start tag cipher;
    }
