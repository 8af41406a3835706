-- The loop's invariant: the first i blocks are in the sum, and the rest is the part behind them. Assumes nothing.
use mathlib.Core.Path.{◌≡◌}
use mathlib.Core.Bool.{false}
use Prim.Native.Nat.{◌*◌, ◌+◌}
use lib.ListN.{length, drop}
use Rattle.words.specs.Sequence.{fold}
use Rattle.words.specs.Block.{xor_block}
use Rattle.blockplan.specs.Pass.{made_at, under}
use Rattle.quads.specs.Quads.{from_run}
use Rattle.runs.specs.Kinds.{neighbours_in}
use Rattle.run_sums.proofs.absorb_ones.Given as goal

abbrev pub invariant-loop-i : goal.invariant-loop-i
invariant-loop-i l =
    (128 * l.i + length l.rest ≡ length l.s) × ((l.rest ≡ drop (128 * l.i) l.s) × (l.sum ≡ fold (λ j t. xor_block t (made_at (under false l.rounds (from_run (neighbours_in l.kind) l.run l.n)) l.s j)) l.initial.sum l.i))
