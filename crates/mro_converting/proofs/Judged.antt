-- The sum over the blocks of a message that the stream makes, one by one, of a parcel's bytes. Assumes nothing.
use mathlib.Core.Path.{◌≡◌, sym, ap, ap₂, ◌∙◌}
use mathlib.Core.Bool.{false}
use mathlib.Core.List.{List}
use Prim.Native.Nat.{ℕ, ◌*◌, ◌<◌}
use lib.ListN.{length, drop}
use Rattle.words.specs.Sequence.{fold}
use Rattle.words.specs.Block.{Block, Bytes, block_of, bytes_of, xor_block, xor_bytes}
use Rattle.words.proofs.Blocks.{xor-block}
use Rattle.mem.specs.Mem.{encipher}
use Rattle.blockplan.specs.Plan.{whole, left, block_at, xor_over, ciphered}
use Rattle.blockplan.specs.Parcel.{message_of, cipher_part, tag_part}
use Rattle.blockplan.specs.Pass.{made_at, under}
use Rattle.blockplan.proofs.Sums.{xor_over-ext}
use Rattle.blockplan.proofs.Leftovers.{no-left, some_left, block-block_at}
use Rattle.blockplan.proofs.Ciphered.{whole-ciphered, has_left-ciphered, left-ciphered, block_at-ciphered}
use Rattle.mro.specs.Mro.{blocks, mro_stream, streamed, mro_cipher, mro_mode}
use Rattle.mro.specs.Streams.{xored}

-- a block as the sum takes it in: xored with block i of the stream, and E of that
unfoldable pub taken_at : ℕ → (ℕ → List ℕ) → (ℕ → List ℕ) → ℕ → List ℕ → List ℕ
taken_at rounds masks k i block = encipher rounds (masks i) (xored k i block)

module _ (rounds : ℕ) (masks k : ℕ → List ℕ) (s : List ℕ) (h : Bytes s) (b : (i : ℕ) → i < whole s → Block (k i)) where
  -- the message
  abbrev message : List ℕ
  message = ciphered (xored k) k s

  taken_is : (i : ℕ) → i < whole s → made_at (taken_at rounds masks k) s i ≡ made_at (under false rounds masks) message i
  unfolding made_at taken_at under xored
  taken_is i p = ap (encipher rounds (masks i)) (sym (block_at-ciphered (xored k) k s i p (xor-block (block_at s i) (k i) (block-block_at s i h) (b i p))))

  last-is : block_at message (whole s) ≡ block_of (xor_bytes (left s) (bytes_of (k (whole s))))
  unfolding block_at left
  last-is = ap (λ (n : ℕ). block_of (drop (128 * n) message)) (sym (whole-ciphered (xored k) k s)) ∙ ap block_of (left-ciphered (xored k) k s)

  module _ (sum : List ℕ) (e : sum ≡ xor_over (made_at (taken_at rounds masks k) s) (whole s)) where
    fronts : sum ≡ xor_over (made_at (under false rounds masks) message) (whole s)
    fronts = e ∙ xor_over-ext _ _ (whole s) taken_is

    -- no leftover
    pub sum-whole : 128 * whole s ≡ length s → sum ≡ xor_over (made_at (under false rounds masks) message) (blocks s)
    unfolding blocks
    sum-whole q = rw (no-left s q) fronts

    -- a leftover
    pub sum_left : (more : List ℕ) → (128 * whole s ≡ length s → ⊥)
        → more ≡ xor_block sum (encipher rounds (masks (whole s)) (block_of (xor_bytes (left s) (bytes_of (k (whole s))))))
        → more ≡ xor_over (made_at (under false rounds masks) message) (blocks s)
    unfolding blocks xor_over fold made_at under
    sum_left more q m = m ∙ rw (some_left s q) (ap₂ (λ (x y : List ℕ). xor_block x (encipher rounds (masks (whole s)) y)) fronts (sym last-is))

-- a parcel's message has as many blocks as its ciphertext
pub blocks-message : (rounds : ℕ) (start parcel : List ℕ) → blocks (message_of (mro_mode rounds start) parcel) ≡ blocks (cipher_part parcel)
unfolding blocks message_of mro_mode mro_cipher
blocks-message rounds start parcel =
    let f = streamed rounds start (tag_part parcel) in
    let k = mro_stream rounds start (tag_part parcel) in
    rw (has_left-ciphered f k (cipher_part parcel), whole-ciphered f k (cipher_part parcel))
