-- P10 and P11 with every count of rounds, over the section 4 start: P, the steps and the masks leave the zero block as it is. Assumes nothing.
use mathlib.Core.Path.{◌≡◌, refl, ap, ap₂, ◌∙◌}
use mathlib.Core.List.{List, [], ◌++◌}
use Prim.Native.Nat.{ℕ, zero, suc}
use Rattle.words.specs.Word.{add_w, rot_r, rot_l, shl}
use Rattle.words.specs.Sequence.{tab, cat, fold, times, zeros}
use Rattle.words.specs.Block.{le, low_bytes, word_at, block_of, word_bytes, bytes_of, zero_block, xor_at, xor_block, xor_bytes}
use Rattle.permutation.specs.Permutation.{g_of, pick, put, step_at, g_at, over, columns, diagonals, groups, round, perm}
use Rattle.masks.specs.Steps.{alpha_w, alpha, beta, gamma}
use Rattle.mem.specs.Mem.{start_words, old_start_block, old_start_of, mask_at, encipher, E}
use Rattle.blockplan.specs.Plan.{whole, left, has_left, block_at, xor_over, xor_if, ciphered, tag_bytes}
use Rattle.blockplan.specs.Parcel.{parcel_of}
use Rattle.opp.specs.Opp.{opp_sum, opp_check, opp_tag, seal_at, opp_cipher, opp_mode}
use Rattle.mro.specs.Mro.{blocks, mro_sum, lengths, mro_tag, mro_cipher, mro_mode}
use Rattle.modes.specs.Modes.{numbered, mode_over, mode_of}
use Rattle.known_answers.specs.KnownAnswers.{sealed_old}

-- a map that leaves a list as it is does so any number of times
stays : (f : List ℕ → List ℕ) (s : List ℕ) → f s ≡ s → (n : ℕ) → times f n s ≡ s
unfolding times
stays f s e zero = refl
stays f s e (suc n) = ap f (stays f s e n) ∙ e

-- ---- what leaves the zero block as it is

round-zero : round zero_block ≡ zero_block
unfolding round over groups columns diagonals g_at step_at pick put g_of add_w rot_r zero_block zeros tab
round-zero = refl

xor-zero : xor_block zero_block zero_block ≡ zero_block
unfolding xor_block xor_at zero_block zeros tab
xor-zero = refl

alpha-zero : alpha zero_block ≡ zero_block
unfolding alpha alpha_w rot_l rot_r shl zero_block zeros tab
alpha-zero = refl

beta-zero : beta zero_block ≡ zero_block
unfolding beta
beta-zero = rw (alpha-zero, xor-zero)

gamma-zero : gamma zero_block ≡ zero_block
unfolding gamma
gamma-zero = rw (alpha-zero, alpha-zero, xor-zero, xor-zero)

perm-zero : (n : ℕ) → perm n zero_block ≡ zero_block
unfolding perm
perm-zero n = stays round zero_block round-zero n

mask-zero : (i j k : ℕ) → mask_at zero_block i j k ≡ zero_block
unfolding mask_at
mask-zero i j k = rw (stays alpha zero_block alpha-zero i, stays beta zero_block beta-zero j, stays gamma zero_block gamma-zero k)

E-zero : (n i j k : ℕ) → E n zero_block i j k zero_block ≡ zero_block
unfolding E encipher
E-zero n i j k = rw (mask-zero i j k, xor-zero, perm-zero n, xor-zero)

start-zero : (n : ℕ) → old_start_of n (zeros 32) (zeros 16) ≡ zero_block
unfolding old_start_of old_start_block start_words zero_block zeros tab word_at le
start-zero n = perm-zero n

-- ---- sealing under the zero start

-- the tag of the zero block
tag-zero : (b : List ℕ) → b ≡ zero_block → tag_bytes b ≡ zeros 32
unfolding tag_bytes bytes_of word_bytes low_bytes zero_block zeros tab cat
tag-zero b e = ap tag_bytes e

opp-empty : (n : ℕ) → parcel_of (opp_mode n zero_block) [] [] ≡ zeros 32
unfolding parcel_of opp_mode opp_tag opp_sum opp_check opp_cipher ciphered whole left has_left xor_over xor_if xor_bytes cat fold tab
opp-empty n = tag-zero _ (ap (xor_block zero_block) (E-zero n 0 2 1) ∙ xor-zero)

mro-empty : (n : ℕ) → parcel_of (mro_mode n zero_block) [] [] ≡ zeros 32
unfolding parcel_of mro_mode mro_tag mro_sum mro_cipher ciphered whole left has_left blocks lengths xor_over xor_bytes cat fold xor_block xor_at zero_block zeros tab
mro-empty n = tag-zero _ (E-zero n 0 2 0)

opp-block : (n : ℕ) → parcel_of (opp_mode n zero_block) [] (zeros 128) ≡ zeros 160
unfolding parcel_of opp_mode opp_tag opp_sum opp_check opp_cipher seal_at ciphered whole left has_left xor_over xor_if xor_bytes cat fold block_at block_of word_at le bytes_of word_bytes low_bytes xor_block xor_at zero_block zeros tab
opp-block n = ap₂ (λ (b t : List ℕ). bytes_of b ++ t) (E-zero n 0 0 1) (tag-zero _ (ap (xor_block zero_block) (E-zero n 1 2 1) ∙ xor-zero))

pub zero-tags : (rounds : ℕ) → (sealed_old 1 rounds [] ≡ zeros 32) × (sealed_old 2 rounds [] ≡ zeros 32)
unfolding sealed_old numbered mode_over mode_of
zero-tags n = (rw (start-zero n) (opp-empty n), rw (start-zero n) (mro-empty n))

pub zero-parcel : (rounds : ℕ) → sealed_old 1 rounds (zeros 128) ≡ zeros 160
unfolding sealed_old numbered mode_over mode_of
zero-parcel n = rw (start-zero n) (opp-block n)
