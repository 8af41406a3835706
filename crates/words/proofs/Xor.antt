-- Laws of exclusive or on numbers that the library lacks: it is associative, its parts change places, and it cancels. Assumes nothing.
use mathlib.Core.Path.{◌≡◌, refl, sym, ap, ap₂, ◌∙◌}
use Prim.Native.Nat.{ℕ, zero, suc, ◌+◌, ◌*◌, ◌/◌, ◌%◌, ◌<◌}
use native.Mathlib.Omega.{arith}
use lib.Arith.{bin_ind}
use lib.Bits.{bit_xor, differ, xor_step, xor_zero_l, xor_zero_r, xor_self, xor_comm, xor_shr, xor_mod}

-- two digits
pub data Digit : ℕ → Type 0 where
  off : Digit 0
  on : Digit 1

pub digit : (n : ℕ) → n < 2 → Digit n
digit zero h = off
digit (suc zero) h = on
digit (suc (suc n)) h = absurd (omega arith)

differ-assoc : {x y z : ℕ} → Digit x → Digit y → Digit z → differ (bit_xor x y) z ≡ differ x (bit_xor y z)
differ-assoc off off off = refl
differ-assoc off off on = refl
differ-assoc off on off = refl
differ-assoc off on on = refl
differ-assoc on off off = refl
differ-assoc on off on = refl
differ-assoc on on off = refl
differ-assoc on on on = refl

pub xor_assoc : (a b c : ℕ) → bit_xor (bit_xor a b) c ≡ bit_xor a (bit_xor b c)
xor_assoc =
    bin_ind (λ (n : ℕ). (b c : ℕ) → bit_xor (bit_xor n b) c ≡ bit_xor n (bit_xor b c))
    (λ b c. refl)
    (λ n ih b c.
    xor_step (bit_xor n b) c
    ∙ ap₂ (λ (x y : ℕ). x * 2 + y)
    (ap (λ (x : ℕ). bit_xor x (c / 2)) (xor_shr n b 1) ∙ ih (b / 2) (c / 2) ∙ ap (bit_xor (n / 2)) (sym (xor_shr b c 1)))
    (ap (λ (x : ℕ). differ x (c % 2)) (xor_mod n b 1)
    ∙ differ-assoc (digit (n % 2) (omega arith)) (digit (b % 2) (omega arith)) (digit (c % 2) (omega arith))
    ∙ ap (differ (n % 2)) (sym (xor_mod b c 1)))
    ∙ sym (xor_step n (bit_xor b c)))

pub xor-cancel-l : (a b : ℕ) → bit_xor a (bit_xor a b) ≡ b
xor-cancel-l a b = sym (xor_assoc a a b) ∙ ap (λ (x : ℕ). bit_xor x b) (xor_self a) ∙ xor_zero_l b

pub xor-cancel-r : (a b : ℕ) → bit_xor (bit_xor a b) b ≡ a
xor-cancel-r a b = xor_assoc a b b ∙ ap (bit_xor a) (xor_self b) ∙ xor_zero_r a

-- b and a change places
pub xor-left : (a b c : ℕ) → bit_xor a (bit_xor b c) ≡ bit_xor b (bit_xor a c)
xor-left a b c = sym (xor_assoc a b c) ∙ ap (λ (x : ℕ). bit_xor x c) (xor_comm a b) ∙ xor_assoc b a c

-- (a b)(c d) = (a c)(b d)
pub xor-swap : (a b c d : ℕ) → bit_xor (bit_xor a b) (bit_xor c d) ≡ bit_xor (bit_xor a c) (bit_xor b d)
xor-swap a b c d = xor_assoc a b (bit_xor c d) ∙ ap (bit_xor a) (xor-left b c d) ∙ sym (xor_assoc a c (bit_xor b d))

-- two numbers are equal where their exclusive or is that of two equal numbers
pub same-where : (a c u v : ℕ) → bit_xor a c ≡ bit_xor u v → u ≡ v → a ≡ c
same-where a c u v e q =
    sym (xor-cancel-r a c) ∙ ap (λ (x : ℕ). bit_xor x c) (e ∙ ap (λ (x : ℕ). bit_xor x v) q ∙ xor_self v) ∙ xor_zero_l c
