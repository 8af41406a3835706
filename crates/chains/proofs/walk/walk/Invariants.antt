use mathlib.Core.Path.{◌≡◌}
use mathlib.Core.Bool.{Bool}
use mathlib.Core.List.{List}
use Prim.Native.Nat.{ℕ, ◌/◌}
use lib.ListN.{length}
use Rattle.cells.specs.Chains.{count}
use Rattle.cells.specs.Cells.{kind_of, kind_fits, is_sales}
use Rattle.cells.specs.Faults.{walk_of}
use Rattle.chains.specs.Marks.{Marks, Unreached, FirstMisfit}
use Rattle.chains.proofs.Walks.{On}
use Rattle.chains.proofs.walk.walk.Given as goal

abbrev pub invariant-loop-at : goal.invariant-loop-at
invariant-loop-at l =
    ((length l.marks ≡ length l.initial.marks) × Unreached (length l.s / 64) l.marks l.left)
    × ((fits : ℕ → Bool) (reached : List ℕ) → Marks l.initial.marks reached → FirstMisfit fits reached (length l.s / 64) l.fn.seen.lowest → ((c : ℕ) → count c reached ≡ 0 → fits c ≡ kind_fits (is_sales l.chain) (kind_of l.s c)) → On fits l.s l.marks (is_sales l.chain) l.left l.lowest l.from l.at (walk_of l.s (length l.s / 64) reached 0 l.first))

abbrev pub decreases-loop-at : goal.decreases-loop-at
decreases-loop-at l = l.left
