-- The amount times 1 or 0. Assumes nothing.
use native.Mathlib.Nat.{le_of_eq}
use lib.Dec.{eqb}
use mir.Facts.{Fits-le}
use Rattle.sales.proofs.Cash.{times-chosen, chosen-le}
use borrow.Author.Rules.{rules}
use Rattle.sales.proofs.Record.cash.Goals as goal

pub overflow_mul-result : goal.overflow_mul-result
overflow_mul-result c =
    let coin = eqb c.args.self.means 1 in
    let n = c.args.self.amount in
    rw c.from.ensures (Fits-le (le_of_eq (times-chosen coin n c.coin.result c.coin.ensures)) (Fits-le (chosen-le coin n) (search rules)))

pub returns : goal.returns
returns c = rw c.from.ensures (times-chosen (eqb c.args.self.means 1) c.args.self.amount c.coin.result c.coin.ensures)
