-- What a way through the rounds is made of: the same words for P and for the back permutation; no passage of document 01. Assumes nothing.
use Rattle.std.specs.Prelude.{◌≡◌, refl, ℕ, zero, suc, ◌+◌, ◌-◌, ◌<◌, List, [], slice_index, slice_index_or}
use Rattle.std.proofs.Common.{add-one}
use Rattle.words.specs.Sequence.{times}
use Rattle.permutation.specs.declared.g.Quad.{Quad}
use Rattle.permutation.specs.Permutation.{g_of, back_g_of, step_at, g_at, back_g_at, over, back_over, columns, diagonals, groups, round, back_round, perm, back_perm}

-- a row of word numbers: four places of a block
abbrev pub InBlock : List ℕ → Type 0
InBlock row = (slice_index row 0 < 16) × ((slice_index row 1 < 16) × ((slice_index row 2 < 16) × (slice_index row 3 < 16)))

-- a step on four words, taken at the groups of the table that are numbered order 0, order 1, .., order (n - 1)
unfoldable pub stepped : (Quad → Quad) → (ℕ → ℕ) → ℕ → List ℕ → List ℕ
stepped f order zero s = s
stepped f order (suc n) s = step_at f (slice_index_or groups (order n) []) (stepped f order n s)

-- a round takes the step at the eight groups in the way's order, and rounds are one round after another
pub record WayLaws (quad : Quad → Quad) (group : ℕ → ℕ) (round_of : List ℕ → List ℕ) (rounds_of : ℕ → List ℕ → List ℕ) : Type 0 where
  pub one-round : (s : List ℕ) → round_of s ≡ stepped quad group 8 s
  pub no-rounds : (s : List ℕ) → rounds_of 0 s ≡ s
  pub one-more : (n : ℕ) (s : List ℕ) → rounds_of (n + 1) s ≡ round_of (rounds_of n s)

-- P is such a way: the table read forward
pub forward_laws : WayLaws g_of (λ k. k) round perm
unfolding stepped round over g_at groups columns diagonals perm times
forward_laws = record { one-round = λ s. refl; no-rounds = λ s. refl; one-more = λ n s. rw add-one }

-- and so is the back permutation: the table read backward
pub back_laws : WayLaws back_g_of (λ k. 7 - k) back_round back_perm
unfolding stepped back_round back_over back_g_at groups columns diagonals back_perm times
back_laws = record { one-round = λ s. refl; no-rounds = λ s. refl; one-more = λ n s. rw add-one }
