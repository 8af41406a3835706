-- The loop's invariant: the first i lines are in. Assumes nothing.
use mathlib.Core.Path.{◌≡◌}
use native.Mathlib.Omega.{arith}
use lib.ListN.{get_or}
use Rattle.words.proofs.Lists.{appended}
use Rattle.maskwalk_text.specs.Text.{lines}
use Rattle.maskwalk_text.proofs.Writing.{length-line}
use Rattle.maskwalk_text.proofs.lines.write_lines.Goals as goal

pub loop-i-preserved : goal.loop-i-preserved
loop-i-preserved c =
    let at = c.loop-i in
    appended _ 20 at.i _ _ _ (λ k. length-line k (get_or c.args.b k 0)) (omega arith) at.invariant c.write_line.ensures

pub returns : goal.returns
unfolding lines
returns c =
    let e : c.loop-i.i ≡ 16 = omega arith in
    rw e at c.loop-i.invariant
