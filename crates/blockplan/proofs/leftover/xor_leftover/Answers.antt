-- The loop's invariant: the first i bytes are in, the others are as they were. Assumes nothing.
use mathlib.Core.Path.{◌≡◌, refl, ◌∙◌}
use mathlib.Core.List.{append-nil}
use native.Mathlib.Omega.{arith}
use lib.ListN.{length}
use Rattle.words.specs.Sequence.{tab}
use Rattle.words.specs.Block.{bytes_of, xor_at, xor_bytes}
use Rattle.words.proofs.Lists.{placed}
use Rattle.blockplan.proofs.leftover.xor_leftover.Goals as goal

pub loop-i-init : goal.loop-i-init
unfolding tab
loop-i-init c = refl

pub loop-i-preserved : goal.loop-i-preserved
unfolding xor_at
loop-i-preserved c = let at = c.loop-i in placed _ at.i _ at.out _ (omega arith) at.invariant refl

pub returns : goal.returns
unfolding xor_bytes
returns c =
    let at = c.loop-i in
    let e : at.i ≡ length c.args.s.now = omega arith in
    let bytes : c.store.new.out ≡ bytes_of c.args.stream = c.store.ensures ∙ append-nil (bytes_of c.args.stream) in
    rw (e, bytes) at at.invariant
