-- What the checks read of a call, from its parts (document 01, "Entry points and where each call is checked"). Assumes nothing.
use Rattle.std.specs.Prelude.{ℕ}
use Rattle.checks.specs.declared.Request.{Request}

-- a call's settings, and the lengths of its inputs
abbrev pub request : ℕ → ℕ → ℕ → ℕ → ℕ → ℕ → Request
request mode rounds key nonce header input = record { mode = mode; rounds = rounds; key = key; nonce = nonce; header = header; input = input }
