-- The look_up's answer, put into one number, and amount and price, into their variables. Assumes nothing.
use mathlib.Core.Path.{◌≡◌, sym, subst, ◌∙◌}
use mathlib.Core.List.{List}
use Prim.Native.Nat.{ℕ, ◌^◌, ◌<◌}
use Rattle.std.specs.Prelude.{Result, Ok, Err, Some, None}
use Rattle.answers.specs.declared.Refusal.{Refusal}
use Rattle.answers.specs.Answers.{value_of, code_of}
use Rattle.store.specs.declared.LookUp.{LookUp}
use Rattle.store.specs.Store.{look_up_call, kind_told, amount_told, price_told, looked_up}
use Rattle.store.proofs.Small.{look-up-small}
use Rattle.calmbaize.proofs.calmbaize_store_look_up.Goals as goal

refused-small : (key : List ℕ) (machine sale : ℕ) (s : List ℕ) {r : Result LookUp Refusal} {why : Refusal} → r ≡ look_up_call key machine sale s → r ≡ Err why → why.place < 2 ^ 32
unfolding kind_told
refused-small key machine sale s e q = subst (λ (x : Result LookUp Refusal). value_of (kind_told x) < 2 ^ 32) (sym e ∙ q) (look-up-small key machine sale s)

pub code-requires : goal.code-requires
code-requires c = refused-small _ _ _ _ c.look_up.ensures c.in-Err.is

pub returns-in-Err : goal.returns-in-Err
unfolding looked_up kind_told amount_told price_told
returns-in-Err c = rw (c.code.ensures, sym c.look_up.ensures ∙ c.in-Err.is)

-- with a price, and without
told-some : {r : Result LookUp Refusal} {told : LookUp} (price before other : ℕ) → r ≡ Ok told → told.price ≡ Some price → (2, (told.amount, price)) ≡ looked_up r before other
unfolding looked_up kind_told amount_told price_told code_of
told-some price before other e q = rw (e, q)

told-none : {r : Result LookUp Refusal} {told : LookUp} (before other : ℕ) → r ≡ Ok told → told.price ≡ None → (1, (told.amount, other)) ≡ looked_up r before other
unfolding looked_up kind_told amount_told price_told code_of
told-none before other e q = rw (e, q)

pub returns-in-Some : goal.returns-in-Some
returns-in-Some c = (told-some _ _ _ (sym c.look_up.ensures ∙ c.in-Ok.is) c.in-Some.is)

pub returns-in-None : goal.returns-in-None
returns-in-None c = (told-none _ _ (sym c.look_up.ensures ∙ c.in-Ok.is) c.in-None.is)
