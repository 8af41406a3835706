use Rattle.store.proofs.Calls.{located-inside, located-part, unlocated-part}
use Rattle.store.proofs.read.Goals as goal

pub body_of-requires : goal.body_of-requires
body_of-requires c = located-inside _ _ _ c.locate.ensures c.in-Ok.is

pub returns-in-Ok : goal.returns-in-Ok
returns-in-Ok c = located-part _ _ _ c.locate.ensures c.in-Ok.is c.body_of.ensures

pub returns-in-Err : goal.returns-in-Err
returns-in-Err c = unlocated-part _ _ _ c.locate.ensures c.in-Err.is
