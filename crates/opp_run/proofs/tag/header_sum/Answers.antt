-- The masks are the plan's, so the call gives the sum. Assumes nothing.
use mathlib.Core.Path.{ap₂, ◌∙◌}
use mathlib.Core.List.{List}
use Prim.Native.Nat.{ℕ}
use native.Mathlib.Omega.{arith}
use Rattle.mem.specs.Mem.{encipher, E}
use Rattle.runs.proofs.Planned.{plan-beta}
use Rattle.blockplan.specs.Plan.{whole, left, has_left, xor_if}
use Rattle.opp.specs.Opp.{padded, opp_sum}
use Rattle.opp_run.proofs.FromRun.{header-from-run}
use Rattle.opp_run.proofs.tag.header_sum.Goals as goal

pub returns : goal.returns
unfolding opp_sum padded E
returns c =
    let a = c.args in
    let w = a.run.now in
    let is = c.words.ensures.is_run in
    let block = c.words.ensures.start in
    let header = a.header.now in
    rw c.words.ensures.same at c.absorb.ensures
    ∙ ap₂ (λ (sum mask : List ℕ). xor_if (has_left header) sum (encipher a.rounds mask (padded (left header))))
    (header-from-run w is block header c.requires a.rounds) (plan-beta w is block (whole header) (omega arith))
