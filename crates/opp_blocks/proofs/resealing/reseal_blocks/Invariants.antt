-- One block more in each turn, under both starts. Assumes nothing.
use mathlib.Core.Path.{◌≡◌}
use mathlib.Core.Bool.{true}
use Rattle.words.proofs.Loops.{Writing}
use Rattle.blockplan.specs.Plan.{xor_over}
use Rattle.blockplan.specs.Pass.{made_at, bytes_at, under, across, stepping}
use Rattle.opp_blocks.proofs.resealing.reseal_blocks.Given as goal

abbrev pub invariant-loop-i : goal.invariant-loop-i
invariant-loop-i l = record {
  written : Writing (bytes_at (across l.rounds (stepping l.initial.from) (stepping l.initial.to)) l.s) 128 l.i-end l.initial.out l.out l.i;
  summed : l.sum ≡ xor_over (made_at (under true l.rounds (stepping l.initial.from)) l.s) l.i;
  from_at : l.from ≡ stepping l.initial.from l.i;
  to_at : l.to ≡ stepping l.initial.to l.i;
}
