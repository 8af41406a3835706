-- The loop's invariant: the first 4 * i blocks are in the sum, and the rest is the part behind them. Assumes nothing.
use mathlib.Core.Path.{◌≡◌}
use mathlib.Core.Bool.{false}
use Prim.Native.Nat.{◌*◌, ◌/◌, ◌≤◌, ◌+◌}
use lib.ListN.{length, drop}
use Rattle.masks.specs.Run.{mask_from}
use Rattle.blockplan.specs.Plan.{xor_over}
use Rattle.blockplan.specs.Pass.{made_at, under}
use Rattle.runs.specs.Kinds.{neighbours_in}
use Rattle.run_sums.proofs.absorb.Given as goal

abbrev pub invariant-loop-i : goal.invariant-loop-i
invariant-loop-i l =
    (l.count ≡ length l.s / 512)
    × ((l.i ≤ l.count) × ((512 * l.i + length l.rest ≡ length l.s) × ((l.rest ≡ drop (512 * l.i) l.s) × (l.sum ≡ xor_over (made_at (under false l.rounds (mask_from (neighbours_in l.kind) l.run)) l.s) (4 * l.i)))))
