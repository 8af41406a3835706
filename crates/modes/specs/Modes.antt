-- A mode by its number (document 01, "Entry points and where each call is checked"). Assumes nothing.
use Rattle.std.specs.Prelude.{cond, List, ℕ, eqb}
use Rattle.blockplan.specs.Parcel.{Mode}
use Rattle.modes.specs.declared.Mode.{Mode as Name}
use Rattle.modes.specs.declared.Mode.TheVariants.{Opp, Mro}
use Rattle.opp.specs.Opp.{opp_mode}
use Rattle.mro.specs.Mro.{mro_mode}

-- the mode with this number: 1 is OPP, 2 is MRO
unfoldable pub numbered : ℕ → Name
numbered mode = cond (eqb mode 1) Opp Mro

-- a mode, over a round count and a start block
unfoldable pub mode_over : Name → ℕ → List ℕ → Mode
mode_over Opp rounds start = opp_mode rounds start
mode_over Mro rounds start = mro_mode rounds start

-- the mode with this number, over a round count and a start block
unfoldable pub mode_of : ℕ → ℕ → List ℕ → Mode
mode_of mode rounds start = mode_over (numbered mode) rounds start
