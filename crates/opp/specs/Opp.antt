-- OPP (document 01, "Block plan"), over a round count and a start block. Assumes nothing.
use Rattle.std.specs.Prelude.{cond, List, [], ◌∷◌, ◌++◌, ℕ}
use Rattle.words.specs.Block.{block_of, xor_block, zero_block}
use Rattle.mem.specs.Mem.{E, D}
use Rattle.blockplan.specs.Plan.{whole, left, has_left, block_at, absorb_at, xor_over, xor_if, ciphered, tag_bytes}
use Rattle.blockplan.specs.Parcel.{Mode}

-- a leftover padded with byte 0x01 and then zeros
unfoldable pub padded : List ℕ → List ℕ
padded s = block_of (s ++ (1 ∷ []))

-- Sum: xor of E(i, 0, 0) over the whole header blocks, and of E(h, 1, 0) of the leftover, padded
unfoldable pub opp_sum : ℕ → List ℕ → List ℕ → List ℕ
opp_sum rounds start header =
    xor_if (has_left header) (xor_over (absorb_at rounds start 0 header) (whole header))
    (E rounds start (whole header) 1 0 (padded (left header)))

-- Check: xor of the whole message blocks and the leftover padded in the same way
unfoldable pub opp_check : List ℕ → List ℕ
opp_check message = xor_if (has_left message) (xor_over (block_at message) (whole message)) (padded (left message))

-- Tag: first 32 bytes of Sum xor E(m, 2, 1) of Check, with (m, 3, 1) where there is a message leftover
unfoldable pub opp_tag : ℕ → List ℕ → List ℕ → List ℕ → List ℕ
opp_tag rounds start header message =
    tag_bytes
    (xor_block (opp_sum rounds start header)
    (E rounds start (whole message) (cond (has_left message) 3 2) 1 (opp_check message)))

-- whole message blocks become E(i, 0, 1)
unfoldable pub seal_at : ℕ → List ℕ → ℕ → List ℕ → List ℕ
seal_at rounds start i block = E rounds start i 0 1 block

-- opening runs D on whole blocks
unfoldable pub open_at : ℕ → List ℕ → ℕ → List ℕ → List ℕ
open_at rounds start i block = D rounds start i 0 1 block

-- a leftover is xored with the first bytes of E(m, 1, 1) of the zero block
unfoldable pub opp_stream : ℕ → List ℕ → ℕ → List ℕ
opp_stream rounds start m = E rounds start m 1 1 zero_block

-- the ciphertext, as long as the message
unfoldable pub opp_cipher : ℕ → List ℕ → List ℕ → List ℕ
opp_cipher rounds start message = ciphered (seal_at rounds start) (opp_stream rounds start) message

-- the message of a ciphertext; a leftover is xored as sealing does
unfoldable pub opp_plain : ℕ → List ℕ → List ℕ → List ℕ
opp_plain rounds start cipher = ciphered (open_at rounds start) (opp_stream rounds start) cipher

-- OPP as a mode; its ciphertext does not depend on the tag
unfoldable pub opp_mode : ℕ → List ℕ → Mode
opp_mode rounds start =
    record {
      tag = λ header message. opp_tag rounds start header message;
      cipher = λ tag message. opp_cipher rounds start message;
      plain = λ tag cipher. opp_plain rounds start cipher;
    }
