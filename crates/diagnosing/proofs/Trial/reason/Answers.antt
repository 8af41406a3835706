-- Judged as asked, then by the first of the sixteen that opens it. Assumes nothing.
use mathlib.Core.Path.{refl, sym, ◌∙◌}
use Rattle.modes.specs.Modes.{mode_of}
use Rattle.diagnosing.proofs.Trying.{judged-under}
use Rattle.diagnosing.proofs.Reasons.{reason-asked, reason-other, reason-none, within-some, within-past}
use Rattle.diagnosing.proofs.Trial.reason.Goals as goal

pub returns-then-judge : goal.returns-then-judge
unfolding mode_of
returns-then-judge c =
    let self = c.args.self.now in
    let judged = c.judge.ensures in
    reason-asked _ self.asked (judged-under self.of.key.now self.of.nonce.now self.of.header.now self.parcel.now self.asked self.started judged c.if-judge.true)

pub first_opening-requires : goal.first_opening-requires
unfolding mode_of
first_opening-requires c =
    let self = c.args.self.now in
    let judged = c.judge.ensures in
    judged-under self.of.key.now self.of.nonce.now self.of.header.now self.parcel.now self.asked self.started judged c.if-judge.false

pub setting_at-requires : goal.setting_at-requires
setting_at-requires c = (within-some _ _ (sym c.in-Some.is ∙ c.first_opening.ensures)).1

pub returns-in-Some : goal.returns-in-Some
unfolding mode_of
returns-in-Some c =
    let self = c.args.self.now in
    let judged = c.judge.ensures in
    let shut = judged-under self.of.key.now self.of.nonce.now self.of.header.now self.parcel.now self.asked self.started judged c.if-judge.false in
    let found = within-some _ _ (sym c.in-Some.is ∙ c.first_opening.ensures) in
    reason-other _ self.asked shut found.0 found.1 c.setting_at.ensures c.compare.ensures

pub returns-in-None : goal.returns-in-None
unfolding mode_of
returns-in-None c =
    let self = c.args.self.now in
    let judged = c.judge.ensures in
    let shut = judged-under self.of.key.now self.of.nonce.now self.of.header.now self.parcel.now self.asked self.started judged c.if-judge.false in
    reason-none _ self.asked shut refl (within-past _ (sym c.in-None.is ∙ c.first_opening.ensures))
