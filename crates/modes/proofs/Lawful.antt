-- Each mode is lawful over a start that is a block. Assumes nothing.
use mathlib.Core.List.{List}
use Prim.Native.Nat.{ℕ}
use Rattle.words.specs.Block.{Block}
use Rattle.blockplan.specs.Lawful.{Lawful}
use Rattle.opp.proofs.Opened.{opp-lawful}
use Rattle.mro.proofs.Opened.{mro-lawful}
use Rattle.modes.specs.declared.Mode.{Mode as Name}
use Rattle.modes.specs.declared.Mode.TheVariants.{Opp, Mro}
use Rattle.modes.specs.Modes.{numbered, mode_over, mode_of}

lawful-over : (mode : Name) (rounds : ℕ) (start : List ℕ) → Block start → Lawful (mode_over mode rounds start)
unfolding mode_over
lawful-over Opp rounds start b = opp-lawful rounds start b
lawful-over Mro rounds start b = mro-lawful rounds start

pub mode-lawful : (mode rounds : ℕ) (start : List ℕ) → Block start → Lawful (mode_of mode rounds start)
unfolding mode_of
mode-lawful mode rounds start b = lawful-over (numbered mode) rounds start b
