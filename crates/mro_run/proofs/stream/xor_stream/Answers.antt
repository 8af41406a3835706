-- The fours, and behind them the rest. Assumes nothing.
use mathlib.Core.Path.{◌≡◌, sym, ◌∙◌}
use mathlib.Core.List.{append_assoc}
use Prim.Native.Nat.{◌*◌, ◌/◌, ◌+◌}
use native.Mathlib.Omega.{arith}
use lib.ListN.{length, drop, length-drop}
use Rattle.words.specs.Sequence.{cat}
use Rattle.words.proofs.Lists.{tail_part, fronted}
use Rattle.blockplan.specs.Plan.{ciphered, tag_bytes}
use Rattle.blockplan.specs.Pass.{bytes_at}
use Rattle.blockplan.proofs.Ciphered.{front_length}
use Rattle.quads.proofs.Moved.{fours-le}
use Rattle.mro.specs.Streams.{stream_from, streamed_from}
use Rattle.mro_run.proofs.FromRun.{streams-joined, stream-from-run}
use Rattle.mro_run.proofs.stream.xor_stream.Goals as goal

pub xor_stream_from-requires : goal.xor_stream_from-requires
xor_stream_from-requires c =
    let s = c.args.s.now in
    let n = 4 * (length s / 512) in
    (simp (tail_part, length-drop) (omega arith), simp (tail_part, length-drop) (omega arith))

pub returns : goal.returns
returns c =
    let a = c.args in
    let w = a.run.now in
    let run = c.words.ensures in
    let s = a.s.now in
    let old = a.out.now in
    let n = 4 * (length s / 512) in
    let part = drop (128 * n) s in
    let tag = tag_bytes a.tag in
    let mask = c.mask_at-mask.result in
    let front = cat (bytes_at (streamed_from a.rounds mask tag 0) s) n in
    let back = ciphered (streamed_from a.rounds mask tag n) (stream_from a.rounds mask tag n) part in
    let rest = rw (tail_part (128 * n) s) at c.xor_stream_from.ensures in
    let far : 128 * n + length part ≡ length s = rw (length-drop (128 * n) s) (omega arith) in
    fronted (128 * n) (length part) front back old _ _ (front_length (streamed_from a.rounds mask tag 0) s n) c.stream_fours.ensures rest
    ∙ sym (append_assoc front back (drop (128 * n + length part) old))
    ∙ rw (far, streams-joined a.rounds mask tag s n (fours-le s), stream-from-run w run.is_run run.start a.rounds tag s mask c.requires.0 (rw run.same at c.mask_at-mask.ensures))
