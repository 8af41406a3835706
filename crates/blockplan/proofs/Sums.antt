-- Laws of sums of blocks. Assumes nothing.
use mathlib.Core.Path.{◌≡◌, refl, ap₂}
use mathlib.Core.List.{List}
use Prim.Native.Nat.{ℕ, zero, suc, ◌+◌, ◌<◌}
use native.Mathlib.Nat.{add-zero, add-suc}
use native.Mathlib.Numerals.{add-one}
use native.Mathlib.Omega.{arith}
use Rattle.words.specs.Sequence.{fold}
use Rattle.words.specs.Block.{xor_block}
use Rattle.blockplan.specs.Plan.{xor_over}

-- one block more
pub summed : (f : ℕ → List ℕ) (i : ℕ) (sum next : List ℕ) → sum ≡ xor_over f i → next ≡ xor_block sum (f i) → next ≡ xor_over f (i + 1)
unfolding xor_over fold
summed f i sum next e q = rw (add-one, q, e)

-- k blocks more
pub summed-more : (f : ℕ → List ℕ) (i k : ℕ) (sum : List ℕ) → sum ≡ xor_over f i → fold (λ j t. xor_block t (f (i + j))) sum k ≡ xor_over f (i + k)
unfolding xor_over fold
summed-more f i zero sum e = rw (add-zero i) e
summed-more f i (suc k) sum e = rw (add-suc i k, summed-more f i k sum e)

pub xor_over-ext : (f g : ℕ → List ℕ) (n : ℕ) → ((i : ℕ) → i < n → f i ≡ g i) → xor_over f n ≡ xor_over g n
unfolding xor_over fold
xor_over-ext f g zero h = refl
xor_over-ext f g (suc n) h = ap₂ xor_block (xor_over-ext f g n (λ i p. h i (omega arith))) (h n (omega arith))
