-- The loop's invariant: n words stand behind the first sixteen, the others are as they were. Assumes nothing.
use mathlib.Core.Path.{◌≡◌, refl, sym, ap, ap₂, ◌∙◌}
use mathlib.Core.List.{List, ◌++◌}
use Prim.Native.Nat.{ℕ, ◌+◌}
use native.Mathlib.Omega.{arith}
use lib.ListN.{take, drop, length-set, take-append-drop}
use lib.Seq.{length-take-le, take_at}
use Rattle.words.specs.Block.{Block}
use Rattle.words.proofs.Arrays.{array-block}
use Rattle.masks.specs.Run.{grown}
use Rattle.runs.proofs.Grown.{grown-more, behind-first}
use borrow.Author.Rules.{rules}
use Rattle.runs.proofs.growing.grow.Goals as goal

pub loop-n-init : goal.loop-n-init
unfolding grown
loop-n-init c = (search rules, (omega arith, (refl, sym (take-append-drop 16 _))))

pub loop-n-preserved : goal.loop-n-preserved
loop-n-preserved c =
    let at = c.loop-n in
    let old = c.put_first.new.run in (
      omega arith,
      (
        at.invariant.1.0,
        (
          simp length-set at.invariant.1.1.0,
          grown-more (take 16 old) old at.run at.n _ (length-take-le 16 old (omega arith)) (omega arith) at.invariant.1.1.1 c.next_word-w.ensures,
        ),
      ),
    )

pub returns : goal.returns
returns c =
    let at = c.loop-n in
    let a = c.args in
    let put = c.put_first in
    let e : at.n ≡ a.more = omega arith in
    let b : Block a.start = array-block _ _ c.well_formed.0 in
    rw e at at.invariant.1.1.1
    ∙ ap₂ (λ (x y : List ℕ). x ++ y)
    (ap (λ (x : List ℕ). grown x a.more) (ap (take 16) put.ensures ∙ take_at a.start _ 16 b.long))
    (ap (drop (16 + a.more)) put.ensures ∙ behind-first a.start a.run.now a.more b.long)
