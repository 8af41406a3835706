-- The kinds of masks by their numbers. Assumes nothing.
use Rattle.std.specs.Prelude.{ℕ}
use Rattle.runs.specs.declared.kinds.Kind.{Kind}
use Rattle.runs.specs.declared.kinds.Kind.TheVariants.{Alpha, Beta, Gamma}

-- how many neighbours are xored to each word of a mask of the kind
abbrev pub neighbours_in : Kind → ℕ
neighbours_in Alpha = 0
neighbours_in Beta = 1
neighbours_in Gamma = 2

-- how many beta steps are in a mask of the kind
abbrev pub beta_steps : Kind → ℕ
beta_steps Alpha = 0
beta_steps Beta = 1
beta_steps Gamma = 0

-- how many gamma steps
abbrev pub gamma_steps : Kind → ℕ
gamma_steps Alpha = 0
gamma_steps Beta = 0
gamma_steps Gamma = 1
