use Rattle.cells.proofs.Written.{emptied-put}
use Rattle.cells.proofs.writing.empty.Goals as goal

pub returns : goal.returns
returns c =
    emptied-put _ _ _ _ _ _ _ _ c.next_of-next.ensures c.index_at-free.ensures c.put_index.ensures
    c.put_free.ensures c.put_index-2.ensures
