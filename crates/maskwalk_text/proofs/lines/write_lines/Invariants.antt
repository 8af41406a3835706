-- The loop's invariant: the first i lines are in. Assumes nothing.
use mathlib.Core.Path.{◌≡◌}
use mathlib.Core.List.{◌++◌}
use Prim.Native.Nat.{◌*◌}
use lib.ListN.{get_or, drop}
use Rattle.words.specs.Sequence.{cat}
use Rattle.maskwalk_text.specs.Text.{line}
use Rattle.maskwalk_text.proofs.lines.write_lines.Given as goal

abbrev pub invariant-loop-i : goal.invariant-loop-i
invariant-loop-i l = l.out ≡ cat (λ k. line k (get_or l.fn.b k 0)) l.i ++ drop (20 * l.i) l.initial.out
