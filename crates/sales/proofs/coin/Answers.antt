-- The factor is 1 where means is 1, and else 0. Assumes nothing.
use native.Mathlib.Omega.{arith}
use Rattle.sales.proofs.Cash.{by_eqb}
use Rattle.sales.proofs.coin.Goals as goal

pub returns : goal.returns
returns c = by_eqb c.args.means 1 1 0 _ (λ e. omega (arith, e)) (λ n. omega (arith, n))
