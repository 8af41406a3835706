-- Words of 64 bits (document 01, "Words, bytes, blocks", "The permutation" and, for the shift, "Masks"). Assumes nothing.
use Rattle.std.specs.Prelude.{ℕ, ◌+◌, ◌-◌, ◌*◌, ◌/◌, ◌%◌, ◌^◌}

-- the sum, which wraps at 64 bits
unfoldable pub add_w : ℕ → ℕ → ℕ
add_w x y = (x + y) % 2 ^ 64

-- the difference, which wraps at 64 bits
unfoldable pub sub_w : ℕ → ℕ → ℕ
sub_w x y = (x + (2 ^ 64 - y)) % 2 ^ 64

-- x rotated right by n, for n from 1 to 63
unfoldable pub rot_r : ℕ → ℕ → ℕ
rot_r n x = (x % 2 ^ n) * 2 ^ (64 - n) + x / 2 ^ n

-- x rotated left by n, for n from 1 to 63
unfoldable pub rot_l : ℕ → ℕ → ℕ
rot_l n x = rot_r (64 - n) x

-- x shifted left by n, its top n bits lost
unfoldable pub shl : ℕ → ℕ → ℕ
shl n x = x * 2 ^ n % 2 ^ 64
