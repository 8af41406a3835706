-- The front of a buffer that a run was grown in. Assumes nothing.
use Rattle.words.specs.Block.{Bytes}
use Rattle.mem.proofs.Laws.{start-block}
use Rattle.run_sealing.proofs.Answered.{front-run, front-start, front_long, in_buffer}
use Rattle.run_sealing.proofs.grow_front.Goals as goal

pub returns : goal.returns
returns c =
    let key : Bytes c.args.key.now = record { bytes = λ i. (c.type_inv.key i).fits } in
    let nonce : Bytes c.args.nonce.now = record { bytes = λ i. (c.type_inv.nonce i).fits } in
    let block = start-block c.args.rounds c.args.key.now c.args.nonce.now key nonce in
    let long = c.requires.1.0 in
    let made = rw c.start.ensures at c.grow.ensures in
    record {
      buffer = in_buffer _ _ _ _ block long made;
      run = front-run _ _ _ _ block long made;
      start = front-start _ _ _ _ block long made;
      len = front_long _ _ _ _ block long made;
    }
