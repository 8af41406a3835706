-- What the checks find is refused; where they are clear, the run is grown, the parcel opened, and its verdict answered. Assumes nothing.
use mathlib.Core.Path.{◌≡◌, sym, ◌∙◌}
use Prim.Native.Nat.{◌-◌}
use native.Mathlib.Omega.{arith}
use lib.ListN.{length}
use borrow.Author.Rules.{rules}
use Rattle.std.specs.Prelude.{Err}
use Rattle.answers.proofs.Values.{refused, allowed}
use Rattle.blockplan.specs.Plan.{whole}
use Rattle.checks.proofs.Clears.{open-clear}
use Rattle.checks.proofs.Runs.{run_long, open-run-clear}
use Rattle.modes.specs.Modes.{mode_of}
use Rattle.run_sealing.specs.RunSealing.{open_run_call}
use Rattle.run_sealing.proofs.Answered.{done-beside, nine-beside}
use Rattle.run_sealing.proofs.open.Goals as goal

pub returns-in_err-check_open_run : goal.returns-in_err-check_open_run
unfolding open_run_call
returns-in_err-check_open_run c =
    let found = rw c.request.ensures at c.check_open_run.ensures in
    let answer : c.from_residual.result ≡ Err c.in_err-check_open_run.field-0.0 = search rules in
    rw answer (refused _ _ _ found c.in_err-check_open_run.was)

pub overflow_sub-written : goal.overflow_sub-written
overflow_sub-written c =
    let found = rw c.request.ensures at c.check_open_run.ensures in
    (open-clear _ _ _ _ _ _ _ (open-run-clear _ _ _ _ _ _ _ _ (sym found ∙ c.in_ok-check_open_run.was)).0).1.0.0

pub grow_front-requires : goal.grow_front-requires
grow_front-requires c =
    let found = rw c.request.ensures at c.check_open_run.ensures in
    let clear = open-run-clear _ _ _ _ _ _ _ _ (sym found ∙ c.in_ok-check_open_run.was) in
    let reach = run_long (length c.args.of.now.header.now) (length c.args.parcel.now - 32) in
    ((open-clear _ _ _ _ _ _ _ clear.0).0, (omega (arith, reach.0, c.run_length-long.ensures), omega (arith, clear.1, c.run_length-long.ensures)))

pub slice_bounds-new-end : goal.slice_bounds-new-end
slice_bounds-new-end c =
    let found = rw c.request.ensures at c.check_open_run.ensures in
    let clear = open-run-clear _ _ _ _ _ _ _ _ (sym found ∙ c.in_ok-check_open_run.was) in
    omega (arith, clear.1, c.run_length-long.ensures)

pub new-run-requires : goal.new-run-requires
new-run-requires c = c.grow_front.ensures.run

pub open-requires : goal.open-requires
unfolding whole
open-requires c =
    let found = rw c.request.ensures at c.check_open_run.ensures in
    let clear = open-run-clear _ _ _ _ _ _ _ _ (sym found ∙ c.in_ok-check_open_run.was) in
    let reach = run_long (length c.args.of.now.header.now) (length c.args.parcel.now - 32) in
    let front = c.grow_front.ensures in
    let of = (open-clear _ _ _ _ _ _ _ clear.0).1 in
    rw (c.new-run.ensures, front.len) (omega (arith, reach.0, c.run_length-long.ensures), (omega (arith, reach.1, c.run_length-long.ensures), (of.0.0, (of.0.1, omega (arith, of.1)))))

pub returns-then-open : goal.returns-then-open
unfolding open_run_call mode_of
returns-then-open c =
    let found = rw c.request.ensures at c.check_open_run.ensures in
    let front = c.grow_front.ensures in
    rw (front.buffer, c.run_length-long.ensures)
    (done-beside _ _ (rw (c.new-run.ensures, front.start) at c.«open».ensures) c.if-open.true
    ∙ allowed _ _ found c.in_ok-check_open_run.was)

pub returns-else-open : goal.returns-else-open
unfolding open_run_call mode_of
returns-else-open c =
    let found = rw c.request.ensures at c.check_open_run.ensures in
    let front = c.grow_front.ensures in
    rw (c.from-differs.ensures, front.buffer, c.run_length-long.ensures)
    (nine-beside _ _ (rw (c.new-run.ensures, front.start) at c.«open».ensures) c.if-open.false
    ∙ allowed _ _ found c.in_ok-check_open_run.was)
