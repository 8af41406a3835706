-- Four blocks: loaded, enciphered, summed. Assumes nothing.
use mathlib.Core.Path.{ap, ◌∙◌}
use mathlib.Core.Bool.{false}
use Prim.Native.Nat.{◌+◌}
use Rattle.masks.specs.Run.{mask_from}
use Rattle.mem.specs.Mem.{encipher}
use Rattle.blockplan.specs.Pass.{made_at, under}
use Rattle.quads.specs.Quads.{from_run}
use Rattle.quads.proofs.Laws.{sum-is-of}
use Rattle.runs.specs.Kinds.{neighbours_in}
use Rattle.run_sums.proofs.absorb_four.Goals as goal

pub returns : goal.returns
unfolding made_at under from_run
returns c =
    let a = c.args in
    let made = c.encipher4 in
    c.sum4.ensures
    ∙ sum-is-of made.result (made_at (under false a.rounds (from_run (neighbours_in a.kind) a.run.now a.n)) a.s.now)
    (record { each = λ m h. made.ensures.each m h ∙ ap (encipher a.rounds (mask_from (neighbours_in a.kind) a.run.now (a.n + m))) (c.load4.ensures.each m h) })
    a.sum
