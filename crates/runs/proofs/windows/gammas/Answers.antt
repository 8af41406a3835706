-- The loop's invariant: the first i words are in, and the others are as they were. Assumes nothing.
use mathlib.Core.Path.{◌≡◌, refl}
use native.Mathlib.Omega.{arith}
use lib.ListN.{length-set}
use Rattle.words.specs.Sequence.{tab}
use Rattle.words.proofs.Lists.{placed}
use borrow.Author.Rules.{rules}
use Rattle.runs.proofs.windows.gammas.Goals as goal

pub loop-i-init : goal.loop-i-init
unfolding tab
loop-i-init c = (search rules, (refl, refl))

pub loop-i-preserved : goal.loop-i-preserved
loop-i-preserved c =
    let at = c.loop-i in
    (omega arith, (simp length-set at.invariant.1.0, placed _ at.i _ at.masks _ (omega arith) at.invariant.1.1 c.mask_word-word.ensures))

pub returns : goal.returns
returns c =
    let at = c.loop-i in
    let e : at.i ≡ c.args.count = omega arith in
    rw e at at.invariant.1.1
