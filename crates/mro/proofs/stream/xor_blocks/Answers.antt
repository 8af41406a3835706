-- The loop's invariant: the first i blocks are in, the others are as they were. Assumes nothing.
use Prim.Native.Nat.{◌*◌}
use native.Mathlib.Omega.{arith}
use Rattle.words.proofs.Lists.{tail_part}
use Rattle.words.proofs.Loops.{writing-none, writing_more, writing-done}
use Rattle.blockplan.specs.Plan.{whole, left, block_at}
use Rattle.blockplan.specs.Pass.{made_at, bytes_at}
use Rattle.blockplan.proofs.Ciphered.{length-bytes_at, written-whole, written-left}
use Rattle.mro.specs.Streams.{onward, xored}
use Rattle.mro.proofs.stream.xor_blocks.Goals as goal

pub loop-i-init : goal.loop-i-init
loop-i-init g c = writing-none

pub loop-i-preserved : goal.loop-i-preserved
unfolding bytes_at made_at xored onward block_at
loop-i-preserved g c =
    let at = c.loop-i in
    let a = c.args in
    let s = a.s.now in
    let made = rw (c.xor-block.ensures, c.block.ensures, c.load.ensures, tail_part (128 * at.i) s) at c.store.ensures in
    writing_more at.invariant (length-bytes_at (xored (onward (g.S.Stream.nth a.stream.now) a.n)) s) (omega arith) (omega arith) made

pub returns-then-at-s : goal.returns-then-at-s
unfolding whole left onward
returns-then-at-s g c =
    let a = c.args in
    let at = c.loop-i in
    let s = a.s.now in
    let k = onward (g.S.Stream.nth a.stream.now) a.n in
    let rest = rw (tail_part (128 * whole s) s, c.block-then-at-s.ensures) at c.xor_leftover.ensures in
    written-left (xored k) k s a.out.now at.out (writing-done at.invariant (omega arith)) _ rest

pub returns-else-at-s : goal.returns-else-at-s
unfolding whole
returns-else-at-s g c =
    let a = c.args in
    let at = c.loop-i in
    let s = a.s.now in
    let k = onward (g.S.Stream.nth a.stream.now) a.n in
    written-whole (xored k) k s a.out.now at.out (writing-done at.invariant (omega arith)) (omega arith)
