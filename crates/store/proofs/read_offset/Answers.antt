use native.Mathlib.Omega.{arith}
use Rattle.cells.proofs.Form.{form_of}
use Rattle.store.specs.Store.{read_offset}
use Rattle.store.proofs.Calls.{error-is, located, located-inside, located-formed, located-judged, unlocated-judged}
use Rattle.store.proofs.read_offset.Goals as goal

pub returns-in_err-c : goal.returns-in_err-c
unfolding read_offset
returns-in_err-c c = rw (error-is _ c.from_residual.ensures.1) (unlocated-judged _ _ _ c.locate.ensures c.in_err-c.was _)

pub overflow_mul-result : goal.overflow_mul-result
overflow_mul-result c =
    let f = (form_of _ (located-formed _ _ _ c.locate.ensures c.in_ok-c.was)).size in
    omega (arith, located-inside _ _ _ c.locate.ensures c.in_ok-c.was, f.whole, f.most)

pub overflow_add-result : goal.overflow_add-result
overflow_add-result c =
    let f = (form_of _ (located-formed _ _ _ c.locate.ensures c.in_ok-c.was)).size in
    omega (arith, located-inside _ _ _ c.locate.ensures c.in_ok-c.was, f.whole, f.most)

pub returns : goal.returns
unfolding read_offset
returns c =
    rw (located _ _ _ c.locate.ensures c.in_ok-c.was).1 (located-judged _ _ _ c.locate.ensures c.in_ok-c.was _)
