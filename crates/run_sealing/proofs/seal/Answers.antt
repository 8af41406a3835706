-- What the checks find is refused; where they are clear, the run is grown and the parcel written. Assumes nothing.
use mathlib.Core.Path.{◌≡◌, sym, ◌∙◌}
use native.Mathlib.Omega.{arith}
use lib.ListN.{length}
use borrow.Author.Rules.{rules}
use Rattle.std.specs.Prelude.{Err}
use Rattle.answers.proofs.Values.{refused, allowed}
use Rattle.blockplan.specs.Plan.{whole}
use Rattle.checks.proofs.Clears.{seal-clear}
use Rattle.checks.proofs.Runs.{run_long, seal-run-clear}
use Rattle.modes.specs.Modes.{mode_of}
use Rattle.run_sealing.specs.RunSealing.{seal_run_call}
use Rattle.run_sealing.proofs.seal.Goals as goal

pub returns-in_err-check_seal_run : goal.returns-in_err-check_seal_run
unfolding seal_run_call
returns-in_err-check_seal_run c =
    let found = rw c.request.ensures at c.check_seal_run.ensures in
    let answer : c.from_residual.result ≡ Err c.in_err-check_seal_run.field-0.0 = search rules in
    rw answer (refused _ _ _ found c.in_err-check_seal_run.was)

pub grow_front-requires : goal.grow_front-requires
grow_front-requires c =
    let found = rw c.request.ensures at c.check_seal_run.ensures in
    let clear = seal-run-clear _ _ _ _ _ _ _ _ (sym found ∙ c.in_ok-check_seal_run.was) in
    let reach = run_long (length c.args.of.now.header.now) (length c.args.message.now) in
    ((seal-clear _ _ _ _ _ _ _ clear.0).0, (omega (arith, reach.0, c.run_length-long.ensures), omega (arith, clear.1, c.run_length-long.ensures)))

pub slice_bounds-new-end : goal.slice_bounds-new-end
slice_bounds-new-end c =
    let found = rw c.request.ensures at c.check_seal_run.ensures in
    let clear = seal-run-clear _ _ _ _ _ _ _ _ (sym found ∙ c.in_ok-check_seal_run.was) in
    omega (arith, clear.1, c.run_length-long.ensures)

pub new-run-requires : goal.new-run-requires
new-run-requires c = c.grow_front.ensures.run

pub seal-requires : goal.seal-requires
unfolding whole
seal-requires c =
    let found = rw c.request.ensures at c.check_seal_run.ensures in
    let clear = seal-run-clear _ _ _ _ _ _ _ _ (sym found ∙ c.in_ok-check_seal_run.was) in
    let reach = run_long (length c.args.of.now.header.now) (length c.args.message.now) in
    let front = c.grow_front.ensures in
    let of = (seal-clear _ _ _ _ _ _ _ clear.0).1 in
    rw (c.new-run.ensures, front.len) (omega (arith, reach.0, c.run_length-long.ensures), (omega (arith, reach.1, c.run_length-long.ensures), (of.0, of.1)))

pub returns : goal.returns
unfolding seal_run_call mode_of
returns c =
    let found = rw c.request.ensures at c.check_seal_run.ensures in
    let front = c.grow_front.ensures in
    rw (rw (c.new-run.ensures, front.start) at c.seal.ensures, front.buffer, c.run_length-long.ensures) (allowed _ _ found c.in_ok-check_seal_run.was)
