-- The loop's invariant: no setting before n opens the parcel, and the last four have left their starts. Assumes nothing.
use mathlib.Core.Path.{refl, sym, ap, ◌∙◌}
use native.Mathlib.Decide.{ℕ_discrete}
use native.Mathlib.Omega.{arith}
use Rattle.diagnosing.specs.Diagnosing.{sixteen, nth, start_under}
use Rattle.diagnosing.specs.declared.Setting.{Setting}
use Rattle.diagnosing.proofs.Found.{first-is, first-none}
use Rattle.diagnosing.proofs.Reasons.{within-here, within-none}
use Rattle.diagnosing.proofs.Trying.{sixteen-long, left-none, left-found, left-more, tried-under}
use Rattle.diagnosing.proofs.Trial.first_opening.Goals as goal

pub loop-n-init : goal.loop-n-init
loop-n-init c = (left-none _ _ _ refl, (λ m h. absurd (omega arith)))

pub start_under-block-requires : goal.start_under-block-requires
start_under-block-requires c =
    let self = c.args.self.now in
    let loop = c.loop-n in
    let e = c.setting_at-s.ensures in
    λ o. left-found _ _ loop.starts loop.n loop.invariant.0 (omega arith) (λ q. o (ap (λ (s : Setting). s.mode) e ∙ q))
    ∙ ap (start_under self.of.key.now self.of.nonce.now) (sym e)

pub returns-then-tries : goal.returns-then-tries
returns-then-tries c =
    let loop = c.loop-n in
    let s = c.setting_at-s in
    within-here loop.n (first-is _ sixteen loop.n (rw sixteen-long (omega arith)) loop.invariant.1
    (tried-under _ _ _ _ c.args.self.now.asked c.requires s.result (nth sixteen loop.n) s.ensures c.start_under-block.ensures c.tries.ensures c.if-tries.true)) (omega arith)

pub loop-n-preserved : goal.loop-n-preserved
loop-n-preserved c =
    let self = c.args.self.now in
    let loop = c.loop-n in
    let s = c.setting_at-s in
    let start = c.start_under-block.ensures in
    let shut = tried-under _ _ _ _ self.asked c.requires s.result (nth sixteen loop.n) s.ensures start c.tries.ensures c.if-tries.false in (
      left-more _ _ loop.starts loop.n loop.invariant.0 (start ∙ ap (start_under self.of.key.now self.of.nonce.now) s.ensures),
      (λ m h. elim (ℕ_discrete m loop.n) [
        | yes q ↦ rw q shut
        | no q ↦ loop.invariant.1 m (omega arith)
      ]),
    )

pub returns : goal.returns
returns c =
    let loop = c.loop-n in
    within-none _ (rw (first-none _ sixteen (λ m h. loop.invariant.1 m (omega (arith, rw sixteen-long at h)))) (omega (arith, sixteen-long)))
