-- What the comparison of two tags hands on: the functions inside the crates promise it each other; no passage of document 01. Assumes nothing.
use Rattle.std.specs.Prelude.{Bool, cond, List, ◌++◌, ℕ, zero, suc, ◌-◌, length, get_or, drop}
use Rattle.std.specs.Int.Bits.{bit_or, bit_xor}
use Rattle.words.specs.Sequence.{zeros}
use Rattle.blockplan.specs.Parcel.{tag_part, same}

-- the bits in which a and b differ in any of their first n words
unfoldable pub differing : List ℕ → List ℕ → ℕ → ℕ
differing a b zero = 0
differing a b (suc n) = bit_or (differing a b n) (bit_xor (get_or a n 0) (get_or b n 0))

-- whether a parcel's tag is the one expected, and the output, whose bytes in the message's place stay where it is and become zero where it is not
unfoldable pub verified : List ℕ → List ℕ → List ℕ → Bool × List ℕ
verified expected parcel out =
    (same expected (tag_part parcel), cond (same expected (tag_part parcel)) out (zeros (length parcel - 32) ++ drop (length parcel - 32) out))
