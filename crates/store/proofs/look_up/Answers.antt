-- What was named, by its kind. Assumes nothing.
use mathlib.Core.Path.{sym, ◌∙◌}
use Rattle.store.proofs.Calls.{error-is, named-inside, looked-priced, looked-unpriced, looked-refused}
use Rattle.store.proofs.look_up.Goals as goal

pub returns-in_err-named : goal.returns-in_err-named
returns-in_err-named c = rw (error-is _ c.from_residual.ensures.1) (looked-refused _ _ _ _ (sym c.in_err-named.was ∙ c.open_named.ensures))

pub link_of-requires : goal.link_of-requires
link_of-requires c = (named-inside _ _ _ _ (sym c.in_ok-named.was ∙ c.open_named.ensures)).1

pub returns-then-link_of-ne-PRICED : goal.returns-then-link_of-ne-PRICED
returns-then-link_of-ne-PRICED c =
    looked-unpriced _ _ _ _ (sym c.in_ok-named.was ∙ c.open_named.ensures) (λ k. c.if-link_of-ne-PRICED.true (c.link_of.ensures.1 ∙ k))

pub returns : goal.returns
returns c =
    looked-priced _ _ _ _ (sym c.in_ok-named.was ∙ c.open_named.ensures) (sym c.link_of.ensures.1 ∙ c.if-link_of-ne-PRICED.false)
