-- The first block's bytes, the second's behind them, and both blocks in the check. Assumes nothing.
use lib.ListN.{drop}
use Rattle.words.specs.Block.{block_of, bytes_of}
use Rattle.words.proofs.Lists.{fronted, tail_part}
use Rattle.words.proofs.Blocks.{length-bytes_of}
use Rattle.mem.specs.Mem.{encipher}
use Rattle.opp_blocks.proofs.sealing.seal_pair.Goals as goal

pub returns : goal.returns
returns c =
    let a = c.args in
    let behind = tail_part 128 a.s.now in
    let first_made = encipher a.rounds a.mask (block_of a.s.now) in
    let second-made = encipher a.rounds a.next (block_of (drop 128 a.s.now)) in
    let first = rw (c.encipher.ensures, c.load.ensures) at c.store.ensures in
    let second = rw (c.encipher-2.ensures, c.load-2.ensures, behind) at c.store-2.ensures in record {
      out_after = fronted 128 128 (bytes_of first_made) (bytes_of second-made) a.out.now _ _ (length-bytes_of first_made) first second;
      value = rw (c.xor.ensures, c.load-4.ensures, behind, c.xor-more.ensures, c.load-3.ensures);
    }
