-- A refusal from its parts (document 01, "Entry points and where each call is checked"). Assumes nothing.
use Rattle.std.specs.Prelude.{ℕ}
use Rattle.answers.specs.declared.Ground.{Ground}
use Rattle.answers.specs.declared.Refusal.{Refusal}

-- the refusal on a ground, at a place
abbrev pub refusal : Ground → ℕ → Refusal
refusal why place = record { why = why; place = place }
