-- Four blocks more in each turn. Assumes nothing.
use mathlib.Core.Path.{◌≡◌, refl}
use Prim.Native.Nat.{◌/◌, ◌*◌, ◌+◌}
use native.Mathlib.Omega.{arith}
use lib.ListN.{length, drop, length-drop}
use Rattle.words.specs.Sequence.{cat}
use Rattle.words.proofs.Lists.{tail_part}
use Rattle.blockplan.specs.Plan.{tag_bytes}
use Rattle.blockplan.specs.Pass.{bytes_at}
use Rattle.blockplan.proofs.Ciphered.{length-bytes_at}
use Rattle.quads.proofs.Moved.{pieces_more}
use Rattle.mro.specs.Streams.{streamed_from}
use Rattle.mro_run.proofs.FromRun.{bytes-later}
use borrow.Author.Rules.{rules}
use Rattle.mro_run.proofs.stream.stream_fours.Goals as goal

pub loop-i-init : goal.loop-i-init
unfolding cat
loop-i-init c = (refl, (search rules, (refl, refl)))

pub stream_four-requires : goal.stream_four-requires
stream_four-requires c =
    (omega arith, (rw tail_part (simp length-drop (omega arith)), rw tail_part (simp length-drop (omega arith))))

pub loop-i-preserved : goal.loop-i-preserved
loop-i-preserved c =
    let at = c.loop-i in
    let a = c.args in
    let s = a.s.now in
    let n = 4 * at.i in
    let tag = tag_bytes a.tag in
    let e : n + 4 ≡ 4 * (at.i + 1) = omega arith in
    let four = rw (tail_part (128 * n) s) at c.stream_four.ensures in
    let next =
    pieces_more (bytes_at (streamed_from a.rounds a.mask tag 0) s) (bytes_at (streamed_from a.rounds a.mask tag n) (drop (128 * n) s)) n 4 a.out.now at.out _
    (length-bytes_at (streamed_from a.rounds a.mask tag 0) s) (bytes-later a.rounds a.mask tag s n) at.invariant.1.1.1 four in
    (refl, (omega arith, (omega arith, rw (← e) next)))

pub returns : goal.returns
returns c =
    let at = c.loop-i in
    let e : at.i ≡ length c.args.s.now / 512 = omega arith in
    rw e at at.invariant.1.1.1
