-- The call's answer, put into one number, and the total, into its variable. Assumes nothing.
use mathlib.Core.Path.{◌≡◌, sym, ◌∙◌, subst}
use mathlib.Core.List.{List}
use Prim.Native.Nat.{ℕ, ◌^◌, ◌<◌}
use Rattle.std.specs.Prelude.{Err}
use Rattle.answers.specs.declared.Refusal.{Refusal}
use Rattle.answers.specs.Answers.{Check, Answer}
use Rattle.answers.proofs.Values.{place_of, judged-refused}
use Rattle.answers.proofs.Numbers.{total-done, total-refused}
use Rattle.store.specs.Store.{total_call}
use Rattle.store.proofs.Small.{total-place}
use Rattle.calmbaize.proofs.calmbaize_store_total.Goals as goal

refused-small : (key s : List ℕ) {a : Answer} {why : Refusal} → a ≡ total_call key s → a ≡ Err why → why.place < 2 ^ 32
unfolding total_call
refused-small key s e q = subst (λ (c : Check). place_of c < 2 ^ 32) (judged-refused _ _ _ (sym e ∙ q)) (total-place key s)

pub code-requires : goal.code-requires
code-requires c = refused-small _ _ c.total.ensures c.in-Err.is

pub returns-in-Ok : goal.returns-in-Ok
returns-in-Ok c = total-done _ _ _ (sym c.total.ensures ∙ c.in-Ok.is)

pub returns-in-Err : goal.returns-in-Err
returns-in-Err c = total-refused _ _ _ (sym c.total.ensures ∙ c.in-Err.is) c.code.ensures
