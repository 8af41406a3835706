-- One block more in each turn. Assumes nothing.
use mathlib.Core.Path.{◌≡◌}
use mathlib.Core.Bool.{not}
use lib.Dec.{eqb}
use Prim.Native.Nat.{◌/◌}
use lib.ListN.{length}
use Rattle.words.specs.Sequence.{fold}
use Rattle.words.specs.Block.{xor_block}
use Rattle.words.proofs.Loops.{Writing}
use Rattle.blockplan.specs.Pass.{bytes_at, plain_at, under}
use Rattle.quads.specs.Quads.{from_run}
use Rattle.opp_run_blocks.proofs.ones.pass_ones.Given as goal

abbrev pub invariant-loop-i : goal.invariant-loop-i
invariant-loop-i g l =
    (l.count ≡ length l.s / 128)
    × (Writing (bytes_at (under (not (eqb g.row.OPENING 0)) l.rounds (from_run 0 l.run l.n)) l.s) 128 l.count l.initial.out l.out l.i
    × (l.sum ≡ fold (λ j t. xor_block t (plain_at (not (eqb g.row.OPENING 0)) (under (not (eqb g.row.OPENING 0)) l.rounds (from_run 0 l.run l.n)) l.s j)) l.initial.sum l.i))
