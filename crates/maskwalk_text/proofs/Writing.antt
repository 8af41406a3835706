-- Laws of text that is written to a list in place, cited by the loops. Assumes nothing.
use mathlib.Core.Path.{◌≡◌, refl, ap, ◌∙◌}
use mathlib.Core.List.{List, [], ◌∷◌, ◌++◌, append_assoc}
use Prim.Native.Nat.{ℕ, zero, suc, ◌+◌, ◌/◌, ◌%◌, ◌≤◌, ◌<◌}
use native.Mathlib.Numerals.{add-one}
use native.Mathlib.Omega.{arith}
use lib.ListN.{length, get_or, drop, set, length-append}
use lib.Seq.{drop-cons, set_at, append_snoc}
use Rattle.std.proofs.lemmas.List.{drop-set}
use Rattle.words.proofs.Lists.{length-cat}
use Rattle.maskwalk_text.specs.Text.{digit, digits, line, lines, written}

-- one digit more in front of those that are in
pub digit-in : (base rest i j v : ℕ) (out : List ℕ) → i ≡ j + 1 → j < length out → v ≡ digit (rest % base)
    → digits base i rest ++ drop i out ≡ digits base j (rest / base) ++ drop j (set out j v)
unfolding digits
digit-in base rest i j v out e h q = rw (e, drop-set out j v h, add-one, q, append_assoc)

-- a byte after a front
pub put-after : (p old xs : List ℕ) (n v : ℕ) → length p ≡ n → n < length old → xs ≡ p ++ drop n old
    → set xs n v ≡ p ++ (v ∷ []) ++ drop (suc n) old
put-after p old xs n v e h q = rw (q, drop-cons old n 0 h, set_at p (get_or old n 0) (drop (suc n) old) v n e, append_snoc)

pub length_digits : (base k n : ℕ) → length (digits base k n) ≡ k
unfolding digits
length_digits base zero n = refl
length_digits base (suc k) n = length-append (digits base k (n / base)) (digit (n % base) ∷ []) ∙ add-one _ ∙ ap suc (length_digits base k (n / base))

pub length-line : (i word : ℕ) → length (line i word) ≡ 20
unfolding line
length-line i word = simp (length-append, length_digits)

pub length-lines : (b : List ℕ) → length (lines b) ≡ 320
unfolding lines
length-lines b = length-cat (λ i. line i (get_or b i 0)) 20 16 (λ i. length-line i (get_or b i 0))

-- the sixteen lines, and their length
pub lines-written : (b out xs : List ℕ) → xs ≡ lines b ++ drop 320 out → (320, xs) ≡ written (lines b) out
unfolding written
lines-written b out xs e = rw (e, length-lines)

-- what is written stands within the output
pub written-within : (text out : List ℕ) {r : ℕ} {now : List ℕ} → (r, now) ≡ written text out → r ≤ length now
unfolding written
written-within text out {r} {now} e =
    let count : r ≡ length text = ap (λ (x : ℕ × List ℕ). x.0) e in
    let all : length now ≡ length text + length (drop (length text) out) = ap (λ (x : ℕ × List ℕ). length x.1) e ∙ length-append text (drop (length text) out) in
    omega arith
