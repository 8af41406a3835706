-- The sixteen lines of the block reached. Assumes nothing.
use borrow.Author.Tests.{le-ltb}
use Rattle.maskwalk_text.specs.Scan.{counted}
use Rattle.maskwalk_text.proofs.Writing.{lines-written}
use Rattle.maskwalk_text.proofs.Reader.count_text.Goals as goal

pub returns : goal.returns
unfolding counted
returns c =
    rw (
      le-ltb _ _ c.if-n-lt-START.false,
      le-ltb _ _ c.if-n-gt-HELD.false,
      ← c.load.ensures,
      ← c.take_all-b.ensures,
    )
    (lines-written _ _ _ c.write_lines.ensures)
