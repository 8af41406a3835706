use native.Mathlib.Omega.{arith}
use Rattle.chains.proofs.form.first_unreached.Goals as goal

pub first_unmarked-requires : goal.first_unmarked-requires
first_unmarked-requires c = (omega arith, omega arith)
