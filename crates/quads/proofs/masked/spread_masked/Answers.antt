-- The loop's invariant: the first i words of each lane are in. Assumes nothing.
use mathlib.Core.Path.{refl, ap}
use native.Mathlib.Omega.{arith}
use lib.ListN.{get_or}
use lib.Bits.{bit_xor}
use Rattle.words.specs.Block.{xor_at, xor_block}
use Rattle.quads.specs.Quads.{nth}
use Rattle.quads.proofs.Laws.{spreading-none, spreading-more, spreading-done}
use Rattle.quads.proofs.masked.spread_masked.Goals as goal

pub loop-i-init : goal.loop-i-init
loop-i-init g c = spreading-none _ refl

pub loop-i-preserved : goal.loop-i-preserved
unfolding nth xor_at
loop-i-preserved g c =
    let at = c.loop-i in
    let f = c.args.f in
    spreading-more at.invariant (omega arith)
    (ap (bit_xor (get_or f.a at.i 0)) c.word.ensures)
    (ap (bit_xor (get_or f.b at.i 0)) c.word-in-loop-i.ensures)
    (ap (bit_xor (get_or f.c at.i 0)) c.word-in-loop-i-2.ensures)
    (ap (bit_xor (get_or f.d at.i 0)) c.word-in-loop-i-3.ensures)

pub returns : goal.returns
unfolding xor_block
returns g c =
    let at = c.loop-i in
    record { long = at.invariant.long; each = spreading-done at.invariant (omega arith) }
