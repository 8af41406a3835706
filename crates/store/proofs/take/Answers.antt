use mathlib.Core.Path.{sym, ◌∙◌}
use native.Mathlib.Omega.{arith}
use Rattle.cells.specs.Cells.{first_free}
use Rattle.cells.proofs.Form.{form_of}
use Rattle.store.proofs.Sought.{found-is_some, free-inside}
use Rattle.store.proofs.Calls.{error-is, key-clear, take-stopped, take-present, take-full, take_done}
use Rattle.store.proofs.take.Goals as goal

pub returns-in_err-key : goal.returns-in_err-key
returns-in_err-key c = rw (error-is _ c.from_residual.ensures.1) (take-stopped _ _ _ c.in_err-key.ensures)

pub find-requires : goal.find-requires
find-requires c = (key-clear _ _ c.in_ok-key.ensures.1).1

pub returns-then-is_some : goal.returns-then-is_some
returns-then-is_some c = rw c.from.ensures (take-present _ _ _ c.in_ok-key.ensures.1 (sym (found-is_some _ _ _) ∙ (rw c.find.ensures at (sym c.is_some.ensures ∙ c.if-is_some.true))))

pub index_at-c-requires : goal.index_at-c-requires
index_at-c-requires c = let f = form_of _ (key-clear _ _ c.in_ok-key.ensures.1).1 in omega (arith, f.size.least)

pub returns-then-c-eq0 : goal.returns-then-c-eq0
unfolding first_free
returns-then-c-eq0 c = rw c.from-then-c-eq0.ensures (take-full _ _ _ c.in_ok-key.ensures.1 (sym (found-is_some _ _ _) ∙ (rw c.find.ensures at (sym c.is_some.ensures ∙ c.if-is_some.false))) (sym c.index_at-c.ensures ∙ c.if-c-eq0.true))

pub fill-requires : goal.fill-requires
unfolding first_free
fill-requires c =
    let h = key-clear _ _ c.in_ok-key.ensures.1 in
    let e = c.index_at-c.ensures in
    (e, rw e (free-inside _ h.1 (λ z. c.if-c-eq0.false (e ∙ z))))

pub returns : goal.returns
unfolding first_free
returns c =
    take_done _ _ _ c.in_ok-key.ensures.1 _ _ (sym (found-is_some _ _ _) ∙ (rw c.find.ensures at (sym c.is_some.ensures ∙ c.if-is_some.false))) c.index_at-c.ensures c.if-c-eq0.false (c.fill.ensures ∙ rw c.in_ok-key.ensures.0)
