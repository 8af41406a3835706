-- The whole blocks, and the leftover where there is one. Assumes nothing.
use mathlib.Core.Path.{◌≡◌}
use mathlib.Core.Bool.{not}
use lib.Dec.{eqb}
use Prim.Native.Nat.{◌*◌}
use native.Mathlib.Omega.{arith}
use lib.ListN.{length, take}
use Rattle.words.specs.Block.{Bytes}
use Rattle.words.proofs.Lists.{tail_part}
use Rattle.blockplan.specs.Plan.{whole, left}
use Rattle.opp.proofs.Passes.{all_whole, all_left}
use Rattle.opp_run.proofs.FromRun.{blocks-from-run, left-mask}
use Rattle.opp_run.proofs.message.pass.Goals as goal

pub gammas-requires : goal.gammas-requires
unfolding whole
gammas-requires g c = (rw c.words.ensures.same (omega arith), omega arith)

pub pass_blocks-sum-requires : goal.pass_blocks-sum-requires
unfolding whole
pass_blocks-sum-requires g c = (omega arith, omega arith)

pub returns-then-at-s : goal.returns-then-at-s
unfolding whole
returns-then-at-s g c =
    let a = c.args in
    let w = a.run.now in
    let is = c.words.ensures.is_run in
    let block = c.words.ensures.start in
    let s = a.s.now in
    let bytes : Bytes s = record { bytes = λ i. (c.type_inv.s i).fits } in
    let blocks = blocks-from-run w is block s c.requires.0 _ _ (rw c.words.ensures.same at c.gammas.ensures) (not (eqb g.row.OPENING 0)) a.rounds c.pass_blocks-sum.ensures in
    let all = all_whole a.rounds (take 16 w) s block bytes (not (eqb g.row.OPENING 0)) a.out.now _ _ _ blocks (omega arith) in
    record { out_after = all.all-written; value = all.all-checked; start = block }

pub beta_of-mask-requires : goal.beta_of-mask-requires
unfolding whole
beta_of-mask-requires g c = omega arith

pub returns : goal.returns
unfolding whole left
returns g c =
    let a = c.args in
    let w = a.run.now in
    let is = c.words.ensures.is_run in
    let block = c.words.ensures.start in
    let s = a.s.now in
    let bytes : Bytes s = record { bytes = λ i. (c.type_inv.s i).fits } in
    let room = c.requires.0 in
    let made = (rw c.words.ensures.same at c.gammas.ensures) in
    let blocks = blocks-from-run w is block s room _ _ made (not (eqb g.row.OPENING 0)) a.rounds c.pass_blocks-sum.ensures in
    let q : 128 * whole s ≡ length s → ⊥ = λ e. c.if-at-s.false (omega arith) in
    let mask = left-mask w is block s room _ _ made _ c.beta_of-mask.ensures in
    let rest = rw (tail_part (128 * whole s) s, mask) at c.pass_leftover_under.ensures in
    let all = all_left a.rounds (take 16 w) s block bytes (not (eqb g.row.OPENING 0)) a.out.now _ _ _ blocks _ _ _ q rest.out_after rest.value mask in
    record { out_after = all.all-written; value = all.all-checked; start = block }
