-- One block more in each turn, and the leftover where there is one. Assumes nothing.
use mathlib.Core.Path.{◌≡◌}
use Rattle.blockplan.specs.Plan.{tag_bytes, xor_over}
use Rattle.blockplan.specs.Pass.{made_at, stepping}
use Rattle.mro.proofs.Streams.{stream_at}
use Rattle.mro_converting.proofs.Judged.{taken_at}
use Rattle.mro_converting.proofs.judging.absorb_opened.Given as goal

abbrev pub invariant-loop-i : goal.invariant-loop-i
invariant-loop-i l = record {
  sum_is : l.sum ≡ xor_over (made_at (taken_at l.rounds (stepping l.initial.mask) (stream_at l.stream.rounds l.stream.mask (tag_bytes l.stream.tag))) l.s) l.i;
  mask_is : l.mask ≡ stepping l.initial.mask l.i;
}
