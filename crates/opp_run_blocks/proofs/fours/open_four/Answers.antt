-- Four blocks: loaded, spread and masked, turned, stored and summed. Assumes nothing.
use mathlib.Core.Path.{ap, ◌∙◌}
use mathlib.Core.Bool.{true}
use mathlib.Core.List.{List, ◌++◌}
use Prim.Native.Nat.{ℕ, ◌+◌}
use lib.ListN.{drop}
use Rattle.permutation.specs.Permutation.{back_perm}
use Rattle.masks.specs.Run.{mask_from}
use Rattle.mem.specs.Mem.{decipher}
use Rattle.blockplan.specs.Pass.{made_at, bytes_at, plain_at, under}
use Rattle.quads.specs.Quads.{nth, FourAre, from_run}
use Rattle.quads.proofs.Laws.{bytes-are-of, sum-is-of}
use Rattle.quads.proofs.Masking.{turned}
use Rattle.opp_run_blocks.proofs.fours.open_four.Goals as goal

pub returns : goal.returns
unfolding bytes_at plain_at made_at under from_run decipher
returns c =
    let a = c.args in
    let s = a.s.now in
    let given = c.load4-given in
    let made = c.gather-made in
    let mask : ℕ → List ℕ = λ m. mask_from 0 a.run.now (a.n + m) in
    let of = made_at (under true a.rounds (from_run 0 a.run.now a.n)) s in
    let turn = turned (back_perm a.rounds) mask (nth given.result) c.spread-w.ensures c.mask_lanes.ensures c.permute4.ensures made.ensures in
    let are : FourAre made.result of = record { each = λ m h. turn.each m h ∙ ap (decipher a.rounds (mask m)) (given.ensures.each m h) } in
    record {
      written = c.store4.ensures ∙ ap (λ (l : List ℕ). l ++ drop 512 a.out.now) (bytes-are-of made.result of are);
      summed = c.sum4.ensures ∙ sum-is-of made.result of are a.sum;
    }
