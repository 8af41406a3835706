-- Counts of either sign: the steps they ask for, and what the machine reads back of them. Assumes nothing.
use mathlib.Core.Path.{◌≡◌, refl}
use mathlib.Core.Bool.{true, false, true≢false}
use Prim.Native.Nat.{ℕ, ◌<◌}
use native.Mathlib.Omega.{arith}
use mathlib.Core.List.{List}
use lib.IntN.{ℤ, pos, negsuc, nat_abs}
use lib.Signed.{lt_z}
use Rattle.words.specs.Sequence.{times}
use Rattle.walking.specs.Walking.{net_steps}
use borrow.Author.Tests.{ltb-true}

-- ---- a kind taken a signed number of times, by its size

pub net_steps-back : (f g : List ℕ → List ℕ) (z : ℤ) (b : List ℕ) → lt_z z (pos 0) ≡ true → times g (nat_abs z) b ≡ net_steps f g z b
unfolding net_steps
net_steps-back f g (pos n) b h = let p : n < 0 = ltb-true n 0 h in absurd (omega arith)
net_steps-back f g (negsuc n) b h = refl

pub net_steps-on : (f g : List ℕ → List ℕ) (z : ℤ) (b : List ℕ) → lt_z z (pos 0) ≡ false → times f (nat_abs z) b ≡ net_steps f g z b
unfolding net_steps
net_steps-on f g (pos n) b h = refl
net_steps-on f g (negsuc n) b h = absurd (true≢false h)
