-- The library's eight bytes are the definition's. Assumes nothing.
use Rattle.std.proofs.Common.{◌≡◌, ℕ, w64, arith}
use Rattle.std.proofs.Math.Nat.{div-div-eq-div-mul}
use Rattle.std.specs.Int.{to_le_bytes}
use Rattle.words.specs.Block.{low_bytes}
use Rattle.words.proofs.word.store_word.Goals as goal

same_bytes : (w : ℕ) → low_bytes 8 w ≡ to_le_bytes w64 w
unfolding low_bytes
same_bytes w = simp div-div-eq-div-mul

pub returns : goal.returns
returns c =
    let all : c.loop-i.i ≡ 8 = omega (arith, c.loop-i-test.false) in
    rw same_bytes (rw (all, c.to_le_bytes-bytes.ensures) at c.loop-i.invariant)
