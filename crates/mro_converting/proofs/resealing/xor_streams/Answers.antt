-- Both streams at once are one after the other. Assumes nothing.
use mathlib.Core.Path.{sym, ap, ◌∙◌}
use mathlib.Core.List.{List, ◌++◌}
use Prim.Native.Nat.{ℕ}
use lib.ListN.{length, drop}
use Rattle.words.specs.Sequence.{times}
use Rattle.words.specs.Block.{Bytes}
use Rattle.mem.specs.Mem.{mask_at, E}
use Rattle.blockplan.specs.Plan.{tag_bytes}
use Rattle.mro.specs.Mro.{mro_stream, streamed, mro_cipher}
use Rattle.mro.specs.Streams.{xored}
use Rattle.mro.proofs.Streams.{stream_at, onward-none}
use Rattle.mro_converting.proofs.Streams.{both_at, xored-twice}
use Rattle.mro_converting.proofs.resealing.xor_streams.Goals as goal

pub returns : goal.returns
unfolding mro_cipher streamed mro_stream E mask_at times xored stream_at both_at
returns c =
    let a = c.args in
    let s = a.s.now in
    let old = c.from_start-old in
    let new = c.from_start-new in
    let bytes : Bytes s = record { bytes = λ i. (c.type_inv.s i).fits } in
    let k = stream_at old.result.rounds old.result.mask (tag_bytes old.result.tag) in
    let l = stream_at new.result.rounds new.result.mask (tag_bytes new.result.tag) in
    let written = rw onward-none at c.xor_blocks.ensures in
    rw (old.ensures.0, old.ensures.1.0, old.ensures.1.1, new.ensures.0, new.ensures.1.0, new.ensures.1.1)
    at (written ∙ ap (λ (t : List ℕ). t ++ drop (length s) a.out.now) (sym (xored-twice k l s bytes)))
