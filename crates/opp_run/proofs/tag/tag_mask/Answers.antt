-- Two beta steps on from the last gamma mask, or three. Assumes nothing.
use mathlib.Core.Path.{◌≡◌}
use Prim.Native.Nat.{◌*◌}
use native.Mathlib.Omega.{arith}
use lib.ListN.{length}
use Rattle.blockplan.specs.Plan.{whole}
use Rattle.blockplan.proofs.Leftovers.{no-left, some_left}
use Rattle.opp_run.proofs.tag.tag_mask.Goals as goal

pub beta_twice_of-requires : goal.beta_twice_of-requires
unfolding whole
beta_twice_of-requires c = omega arith

pub returns-then-m-s : goal.returns-then-m-s
unfolding whole
returns-then-m-s c =
    let s = c.args.s.now in
    let e : 128 * whole s ≡ length s = omega arith in
    rw (no-left s e) c.beta_twice_of.ensures

pub beta_thrice_of-requires : goal.beta_thrice_of-requires
unfolding whole
beta_thrice_of-requires c = omega arith

pub returns : goal.returns
unfolding whole
returns c =
    let s = c.args.s.now in
    let q : 128 * whole s ≡ length s → ⊥ = λ e. c.if-m-s.false (omega arith) in
    rw (some_left s q) c.beta_thrice_of.ensures
