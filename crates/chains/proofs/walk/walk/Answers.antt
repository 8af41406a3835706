use mathlib.Core.Path.{refl, sym, ◌∙◌}
use Prim.Native.Nat.{◌/◌}
use native.Mathlib.Omega.{arith}
use lib.ListN.{length}
use Rattle.cells.specs.Cells.{cells}
use Rattle.cells.proofs.Walks.{walk_end, walk-past, walk-twice}
use Rattle.chains.proofs.Walks.{arrived, stopped, onward}
use Rattle.chains.proofs.Bits.{bit-none, bit-some, unreached-one, unreached-less}
use Rattle.chains.proofs.walk.walk.Goals as goal
use Rattle.chains.proofs.walk.walk.Goals.{then-at-cells-via-then-at-cells, then-at-cells-via-else-at-cells+then-is_marked}

pub loop-at-init : goal.loop-at-init
unfolding cells
loop-at-init c =
    let p = c.requires in
    ((refl, p.1), λ fits reached h k f. record { reached = reached; steps = length c.args.s.now / 64; enough = omega (arith, p.1.many); marks = h; least = k; fresh = f; rest = refl })

pub mark-requires : goal.mark-requires
unfolding cells
mark-requires c = (omega arith, bit-none _ _ (sym c.is_marked.ensures ∙ c.if-is_marked.false))

pub overflow_sub-left : goal.overflow_sub-left
unfolding cells
overflow_sub-left c =
    let l = c.loop-at in
    unreached-one l.marks l.at _ l.left (omega arith) l.invariant.0.1 c.loop-at-test.true (omega arith) (bit-none _ _ (sym c.is_marked.ensures ∙ c.if-is_marked.false))

pub loop-at-smaller : goal.loop-at-smaller
unfolding cells
loop-at-smaller c =
    let l = c.loop-at in
    let h = unreached-one l.marks l.at _ l.left (omega arith) l.invariant.0.1 c.loop-at-test.true (omega arith) (bit-none _ _ (sym c.is_marked.ensures ∙ c.if-is_marked.false)) in
    omega arith

pub loop-at-preserved : goal.loop-at-preserved
unfolding cells
loop-at-preserved c =
    let l = c.loop-at in
    let new = bit-none _ _ (sym c.is_marked.ensures ∙ c.if-is_marked.false) in
    let set = c.mark.ensures in
    let some = unreached-one l.marks l.at _ l.left (omega arith) l.invariant.0.1 c.loop-at-test.true (omega arith) new in
    let link = c.link_of-link.ensures in (
      (omega arith, unreached-less l.marks _ l.at _ l.left (omega arith) l.invariant.0.1 c.loop-at-test.true (omega arith) new set),
      λ fits reached h k f.
          rw link.0
          (onward fits _ l.marks _ _ l.left l.lowest _ l.from l.at _ some c.loop-at-test.true (omega arith) (omega arith) new set (rw (c.takes.ensures, link.1) at c.lesser-lowest.ensures) (l.invariant.1 fits reached h k f)),
    )

pub returns-then-at-cells : goal.returns-then-at-cells
unfolding cells
returns-then-at-cells c =
    let l = c.loop-at in (
      (l.left, l.invariant.0.1),
      λ fits reached h k f. let o = l.invariant.1 fits reached h k f in stopped fits _ _ _ l.left l.lowest l.from l.at _ o (elim c.then-at-cells.branch [
        | then-at-cells-via-then-at-cells w ↦ walk-past _ _ _ l.from l.at c.loop-at-test.true (omega arith)
        | then-at-cells-via-else-at-cells+then-is_marked w ↦ walk-twice _ _ _ l.from l.at c.loop-at-test.true (omega arith) (λ e. bit-some _ _ (sym w.is_marked.ensures ∙ w.if-is_marked.true) (o.marks.each l.at ∙ e))
      ]),
    )

pub returns : goal.returns
unfolding cells
returns c =
    let l = c.loop-at in
    (l.invariant.0.1, λ fits reached h k f. let o = l.invariant.1 fits reached h k f in arrived fits _ _ _ l.left l.lowest l.from l.at _ _ o (walk_end _ _ _ l.from l.at c.loop-at-test.false) refl)
