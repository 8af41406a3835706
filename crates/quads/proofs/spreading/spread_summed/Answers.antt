-- The loop's invariant: the first i words of each lane and of the sum are in. Assumes nothing.
use mathlib.Core.Path.{◌≡◌, refl, sym, ◌∙◌}
use Prim.Native.Nat.{ℕ, ◌<◌}
use native.Mathlib.Omega.{arith}
use lib.ListN.{length}
use Rattle.words.proofs.Lists.{tab-get_or}
use Rattle.words.proofs.Loops.{filling-none, filling-more, filling-done}
use Rattle.lanes.proofs.Laws.{in_four}
use Rattle.quads.specs.Quads.{nth}
use Rattle.quads.proofs.Laws.{spreading-none, spreading-more, spreading-done, sum-tab}
use borrow.Author.Rules.{rules}
use Rattle.quads.proofs.spreading.spread_summed.Goals as goal

pub loop-i-init : goal.loop-i-init
loop-i-init c = (spreading-none _ refl, filling-none _ refl)

pub loop-i-preserved : goal.loop-i-preserved
unfolding nth
loop-i-preserved c =
    let at = c.loop-i in
    (spreading-more at.invariant.0 (omega arith) refl refl refl refl, filling-more at.invariant.1 (omega arith) refl)

pub returns : goal.returns
unfolding nth
returns c =
    let at = c.loop-i in
    let sum = c.args.sum in
    let f = c.args.f in
    let long : (m : ℕ) → m < 4 → length (nth f m) ≡ 16 = in_four (λ m. length (nth f m) ≡ 16) (search rules) (search rules) (search rules) (search rules) in (
      record { long = at.invariant.0.long; each = λ m h. spreading-done at.invariant.0 (omega arith) m h ∙ sym (tab-get_or (nth f m) 16 (long m h)) },
      filling-done at.invariant.1 (omega arith) ∙ sum-tab sum f,
    )
