-- A sale named and opened, for cancel and look-up: what functions promise each other. Assumes nothing.
use Rattle.std.specs.Prelude.{List, ℕ, Result, Ok}
use Rattle.cells.specs.Cells.{body_of, cell_named}
use Rattle.chains.specs.Found.{stands_at}
use Rattle.sales.specs.Sale.{record_in, numbers_in}
use Rattle.answers.specs.declared.Refusal.{Refusal}
use Rattle.answers.specs.Answers.{judged}
use Rattle.store.specs.Store.{cancel_checks}
use Rattle.store.specs.declared.Named.{Named}

-- after the checks of both: where the sale stands, and the numbers of its record
unfoldable pub named_of : List ℕ → ℕ → ℕ → List ℕ → Result Named Refusal
named_of key machine sale s =
    judged (cancel_checks key machine sale s)
    (Ok (record { place = stands_at machine sale s; held = numbers_in (record_in key (body_of s (cell_named machine sale s))) }))
