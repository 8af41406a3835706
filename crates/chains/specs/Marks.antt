-- One bit for each cell, in words of 64: the marks that the code keeps of the cells reached; what functions promise each other. Assumes nothing.
use Rattle.std.specs.Prelude.{◌≡◌, Bool, true, false, not, List, ℕ, zero, suc, ◌+◌, ◌/◌, ◌%◌, ◌^◌, ◌≤◌, ◌<◌, eqb, get_or, set, Result, Ok, Err, MatchResult}
use Rattle.cells.specs.Chains.{count}
use Rattle.cells.specs.declared.Fault.{Fault}
use Rattle.cells.specs.Faults.{Stop, Finding, sound, broken_or}
use Rattle.chains.specs.declared.MarkedWalk.{MarkedWalk}

-- mark c, 0 or 1
unfoldable pub bit_at : List ℕ → ℕ → ℕ
bit_at m c = get_or m (c / 64) 0 / 2 ^ (c % 64) % 2

-- mark c made 1, where it was 0
unfoldable pub marked : List ℕ → ℕ → List ℕ
marked m c = set m (c / 64) (get_or m (c / 64) 0 + 2 ^ (c % 64))

-- cell c is marked
unfoldable pub is_marked : List ℕ → ℕ → Bool
is_marked m c = not (eqb (bit_at m c) 0)

-- cell c is not marked
unfoldable pub unmarked : List ℕ → ℕ → Bool
unmarked m c = not (is_marked m c)

-- the marks are those of the cells reached
pub record Marks (m reached : List ℕ) : Type 0 where
  pub each : (k : ℕ) → bit_at m k ≡ count k reached

-- how many of the cells below n are marked
unfoldable pub bits : List ℕ → ℕ → ℕ
bits m zero = 0
bits m (suc n) = bits m n + bit_at m n

-- cell 0 is not marked, and beside it so many of the n cells are not
pub record Unreached (n : ℕ) (m : List ℕ) (left : ℕ) : Type 0 where
  pub head : bit_at m 0 ≡ 0
  pub many : left + 1 + bits m n ≡ n

-- the lowest of the cells reached that does not pass the test; n where each does
pub record FirstMisfit (fits : ℕ → Bool) (reached : List ℕ) (n lowest : ℕ) : Type 0 where
  pub most : lowest ≤ n
  pub least : (c : ℕ) → c < lowest → 0 < count c reached → fits c ≡ true
  pub found : lowest < n → (0 < count lowest reached) × (fits lowest ≡ false)

-- what is found by a walk: nothing where it came to the end of its chain
abbrev pub found_by : Result MarkedWalk Fault → Finding
found_by (Ok seen) = sound
found_by (Err fault) = Err fault

-- what a walk leaves; where it is stopped, the lowest misfit is not told
pub record Walked (fits : ℕ → Bool) (n : ℕ) (r : Result MarkedWalk Fault) (m : List ℕ) (w : Stop × List ℕ) : Type 0 where
  pub stop : found_by r ≡ broken_or w.0 sound
  pub marks : Marks m w.1
  pub lowest : MatchResult r (λ seen. FirstMisfit fits w.1 n seen.lowest) (λ fault. (lowest : ℕ) × FirstMisfit fits w.1 n lowest)
