-- Four blocks: loaded, spread and masked, turned, stored and summed. Assumes nothing.
use mathlib.Core.Path.{ap, ◌∙◌}
use mathlib.Core.Bool.{false}
use mathlib.Core.List.{List, ◌++◌}
use Prim.Native.Nat.{ℕ, ◌+◌}
use lib.ListN.{drop}
use Rattle.permutation.specs.Permutation.{perm}
use Rattle.masks.specs.Run.{mask_from}
use Rattle.mem.specs.Mem.{encipher}
use Rattle.blockplan.specs.Plan.{block_at}
use Rattle.blockplan.specs.Pass.{made_at, bytes_at, plain_at, under}
use Rattle.quads.specs.Quads.{nth, FourAre, from_run}
use Rattle.quads.proofs.Laws.{bytes-are-of, sum-is-of}
use Rattle.quads.proofs.Masking.{turned}
use Rattle.opp_run_blocks.proofs.fours.seal_four.Goals as goal

pub returns : goal.returns
unfolding bytes_at plain_at made_at under from_run encipher
returns c =
    let a = c.args in
    let s = a.s.now in
    let given = c.load4-given in
    let made = c.gather in
    let mask : ℕ → List ℕ = λ m. mask_from 0 a.run.now (a.n + m) in
    let of = made_at (under false a.rounds (from_run 0 a.run.now a.n)) s in
    let turn = turned (perm a.rounds) mask (nth given.result) c.spread_summed-put.ensures.0 c.mask_lanes.ensures c.permute4.ensures made.ensures in
    let are : FourAre made.result of = record { each = λ m h. turn.each m h ∙ ap (encipher a.rounds (mask m)) (given.ensures.each m h) } in
    record {
      written = c.store4.ensures ∙ ap (λ (l : List ℕ). l ++ drop 512 a.out.now) (bytes-are-of made.result of are);
      summed = c.spread_summed-put.ensures.1 ∙ sum-is-of given.result (block_at s) given.ensures a.sum;
    }
