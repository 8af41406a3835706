use mathlib.Core.Path.{◌≡◌}
use Prim.Native.Nat.{◌-◌}
use Rattle.cells.specs.Chains.{first_from}
use Rattle.chains.specs.Marks.{unmarked}
use Rattle.chains.proofs.form.first_unmarked.Given as goal

abbrev pub invariant-loop-c : goal.invariant-loop-c
invariant-loop-c l = first_from (unmarked l.marks) 1 (l.end - 1) ≡ first_from (unmarked l.marks) l.c (l.end - l.c)
