-- Four blocks of the stream, four of the bytes, exclusive or. Assumes nothing.
use mathlib.Core.Path.{ap, ap₂, ◌∙◌}
use mathlib.Core.List.{List, ◌++◌}
use Prim.Native.Nat.{ℕ}
use lib.ListN.{drop}
use Rattle.words.specs.Block.{xor_block}
use Rattle.mem.specs.Mem.{encipher}
use Rattle.blockplan.specs.Plan.{tag_bytes}
use Rattle.blockplan.specs.Pass.{made_at, bytes_at}
use Rattle.quads.specs.Quads.{FourAre}
use Rattle.quads.proofs.Laws.{bytes-are-of}
use Rattle.mro.specs.Streams.{stream_from, streamed_from}
use Rattle.mro_run.proofs.stream.stream_four.Goals as goal

pub returns : goal.returns
unfolding bytes_at made_at streamed_from stream_from
returns c =
    let a = c.args in
    let of = made_at (streamed_from a.rounds a.mask (tag_bytes a.tag) a.n) a.s.now in
    let both = c.xor4 in
    let are : FourAre both.result of = record {
      each = λ m h.
          both.ensures.each m h
          ∙ ap₂ xor_block (c.load4-given.ensures.each m h) (c.encipher4-made.ensures.each m h ∙ ap (encipher a.rounds a.mask) (c.counters.ensures.each m h));
    } in
    c.store4.ensures ∙ ap (λ (l : List ℕ). l ++ drop 512 a.out.now) (bytes-are-of both.result of are)
