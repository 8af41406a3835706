-- The loop's invariant: the digits of what is left, and those that are in. Assumes nothing.
use mathlib.Core.Path.{◌≡◌}
use mathlib.Core.List.{◌++◌}
use lib.ListN.{length, drop}
use Rattle.maskwalk_text.specs.Text.{digits}
use Rattle.maskwalk_text.proofs.lines.digits.Given as goal

abbrev pub invariant-loop-i : goal.invariant-loop-i
invariant-loop-i l = digits l.base (length l.initial.out) l.fn.n ≡ digits l.base l.i l.rest ++ drop l.i l.out
