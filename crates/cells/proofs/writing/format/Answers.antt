use mathlib.Core.Path.{◌≡◌, refl}
use Prim.Native.Nat.{◌-◌, ◌/◌}
use native.Mathlib.Omega.{arith}
use lib.ListN.{length}
use Rattle.words.specs.Sequence.{cat}
use Rattle.cells.specs.Cells.{cells}
use Rattle.cells.proofs.Written.{first-put, next-cell, last-cell, cell-more, all-cells}
use Rattle.cells.proofs.writing.format.Goals as goal

pub loop-c-init : goal.loop-c-init
unfolding cells cat
loop-c-init c =
    let s = c.args.s.now in
    let n = length s / 64 in
    cell-more n 0 s _ _ refl refl (first-put s _ _ _ (omega arith) c.put_index.ensures c.put_index-2.ensures (c.fill.ensures.after (λ y h. h)) n)

pub loop-c-preserved : goal.loop-c-preserved
unfolding cells
loop-c-preserved c =
    let at = c.loop-c in
    let n = length c.args.s.now / 64 in
    cell-more n at.c _ _ _ at.invariant (next-cell n at.c (omega arith) (omega arith)) c.put_free.ensures

pub returns : goal.returns
unfolding cells
returns c =
    let at = c.loop-c in
    let n = length c.args.s.now / 64 in
    let e : at.c ≡ n - 1 = omega arith in
    all-cells n (n - 1) _ (omega arith) (omega arith)
    (cell-more n (n - 1) _ _ _ (rw e at at.invariant) (last-cell n (n - 1) (omega arith) (omega arith)) c.put_free-2.ensures)
