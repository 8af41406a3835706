-- Four blocks more in each turn. Assumes nothing.
use mathlib.Core.Path.{◌≡◌}
use mathlib.Core.List.{◌++◌}
use Prim.Native.Nat.{◌/◌, ◌*◌, ◌≤◌}
use lib.ListN.{length, drop}
use Rattle.words.specs.Sequence.{cat}
use Rattle.blockplan.specs.Plan.{tag_bytes}
use Rattle.blockplan.specs.Pass.{bytes_at}
use Rattle.mro.specs.Streams.{streamed_from}
use Rattle.mro_run.proofs.stream.stream_fours.Given as goal

abbrev pub invariant-loop-i : goal.invariant-loop-i
invariant-loop-i l =
    (l.count ≡ length l.s / 512)
    × ((l.i ≤ l.count) × ((length l.out ≡ length l.initial.out) × (l.out ≡ cat (bytes_at (streamed_from l.rounds l.mask (tag_bytes l.tag) 0) l.s) (4 * l.i) ++ drop (128 * (4 * l.i)) l.initial.out)))
