use Prim.Native.Nat.{◌+◌}
use native.Mathlib.Omega.{arith}
use Rattle.words.specs.Block.{low_bytes}
use Rattle.cells.proofs.Puts.{put-part}
use Rattle.cells.proofs.writing.put_index.Goals as goal

pub returns : goal.returns
unfolding low_bytes
returns c =
    let a = c.args in
    rw (c.copy_from_slice.ensures.after, c.to_le_bytes.ensures) (put-part a.at (a.at + 2) a.s.now (low_bytes 2 a.i) (omega arith))
