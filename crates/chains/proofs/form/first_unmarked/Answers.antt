use mathlib.Core.Path.{◌≡◌, sym, ap, ◌∙◌}
use mathlib.Core.Bool.{not}
use Prim.Native.Nat.{ℕ, ◌+◌, ◌-◌}
use native.Mathlib.Omega.{arith}
use Rattle.cells.specs.Chains.{first_from}
use Rattle.chains.specs.Marks.{unmarked}
use Rattle.cells.proofs.Counts.{first-here, first_on, first-none, first-skip}
use Rattle.chains.proofs.form.first_unmarked.Goals as goal

pub loop-c-init : goal.loop-c-init
loop-c-init c =
    let r = c.marked_below-c.result in
    let h = c.marked_below-c.ensures in
    let e : 1 + (r - 1) ≡ r = omega (arith, h.0.0) in
    first-skip _ 1 (r - 1) _ (omega (arith, h.0.0, h.0.1)) (λ i a l. h.1 i a (omega (arith, h.0.0)))
    ∙ ap (λ (k : ℕ). first_from (unmarked c.args.marks.now) k (c.args.end - k)) e

pub loop-c-preserved : goal.loop-c-preserved
unfolding unmarked
loop-c-preserved c =
    let at = c.loop-c in
    at.invariant ∙ first_on _ at.c _ (omega arith) (ap not (sym c.is_marked.ensures ∙ c.if-not-is_marked.false))

pub returns-then-not-is_marked : goal.returns-then-not-is_marked
unfolding unmarked
returns-then-not-is_marked c =
    let at = c.loop-c in
    sym (at.invariant ∙ first-here _ at.c _ (omega arith) (ap not (sym c.is_marked.ensures ∙ c.if-not-is_marked.true)))

pub returns : goal.returns
returns c =
    let at = c.loop-c in
    let h = c.marked_below-c.ensures in
    let e : at.c ≡ c.args.end = omega (arith, h.0.1) in
    sym (at.invariant ∙ first-none _ at.c _ (omega arith) ∙ e)
