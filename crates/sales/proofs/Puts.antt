-- Bytes written from the front on: the low bytes of a number one by one, and parts one behind the other. Assumes nothing.
use mathlib.Core.List.{List, [], ◌∷◌, ◌++◌, append_assoc}
use mathlib.Core.Path.{◌≡◌, refl, sym, ap, ◌∙◌}
use Prim.Native.Nat.{ℕ, ◌+◌, ◌/◌, ◌%◌, ◌≤◌, ◌<◌}
use native.Mathlib.Numerals.{add-one}
use native.Mathlib.Omega.{arith}
use lib.ListN.{length, take, drop, set, length-append, length-set, length-take, length-drop}
use lib.Seq.{take_at, take_all, take-suc-set, length-take-le}
use borrow.Rule.Slice.PartMut.{put_mid}
use Rattle.words.specs.Block.{low_bytes}
use Rattle.words.proofs.Blocks.{length-low_bytes}

-- ---- low bytes

-- of a number of two, and of four bytes
pub low-two : (w : ℕ) → w % 256 ∷ (w / 256 % 256 ∷ []) ≡ low_bytes 2 w
unfolding low_bytes
low-two w = refl

pub low-four : (w : ℕ) → w % 256 ∷ (w / 256 % 256 ∷ (w / 65536 % 256 ∷ (w / 16777216 % 256 ∷ []))) ≡ low_bytes 4 w
unfolding low_bytes
low-four w =
    let a : w / 65536 ≡ w / 256 / 256 = omega arith in
    let b : w / 16777216 ≡ w / 256 / 256 / 256 = omega arith in
    rw (a, b)

-- ---- parts

-- a list of m bytes that begins with these a
pub record Begins (m a : ℕ) (before xs : List ℕ) : Type 0 where
  pub long : length xs ≡ m
  pub front : take a xs ≡ before

module _ {m : ℕ} where
  pub begins-none : (xs : List ℕ) → length xs ≡ m → Begins m 0 [] xs
  begins-none xs e = record { long = e; front = refl }

  module _ {a : ℕ} {before xs : List ℕ} (here : Begins m a before xs) where
    -- the next n bytes
    part-long : (n : ℕ) → a + n ≤ m → length (take n (drop a xs)) ≡ n
    part-long n h = simp (length-take, length-drop) (omega (arith, here.long))

    -- they came back as new ones
    pub begins-more : (n : ℕ) (new ys : List ℕ) → a + n ≤ m → length new ≡ n → ys ≡ new → Begins m (a + n) (before ++ new) (put_mid a n xs ys)
    begins-more n new ys h e q =
        let head : length (take a xs) ≡ a = length-take-le a xs (omega (arith, here.long)) in
        let both : length (take a xs ++ new) ≡ a + n = length-append (take a xs) new ∙ rw (head, e) in
        rw q
        (record {
          long = simp (length-append, head, e, length-drop) (omega (arith, here.long));
          front = ap (take (a + n)) (sym (append_assoc (take a xs) new (drop n (drop a xs))))
              ∙ take_at (take a xs ++ new) (drop n (drop a xs)) (a + n) both ∙ ap (λ (l : List ℕ). l ++ new) here.front;
        })

    -- the next byte
    pub begins-byte : (v : ℕ) → a < m → v < 256 → Begins m (a + 1) (before ++ low_bytes 1 v) (set xs a v)
    unfolding low_bytes
    begins-byte v h f =
        let m : v % 256 ≡ v = omega arith in
        record {
          long = length-set xs a v ∙ here.long;
          front = rw (add-one, take-suc-set xs a v (omega (arith, here.long)), here.front, m);
        }

    -- two or four bytes of a number
    pub begins-two : (w : ℕ) (ys : List ℕ) → a + 2 ≤ m → ys ≡ w % 256 ∷ (w / 256 % 256 ∷ []) → Begins m (a + 2) (before ++ low_bytes 2 w) (put_mid a 2 xs ys)
    begins-two w ys h e = begins-more 2 (low_bytes 2 w) ys h (length-low_bytes 2 w) (e ∙ low-two w)

    pub begins-four : (w : ℕ) (ys : List ℕ) → a + 4 ≤ m → ys ≡ w % 256 ∷ (w / 256 % 256 ∷ (w / 65536 % 256 ∷ (w / 16777216 % 256 ∷ []))) → Begins m (a + 4) (before ++ low_bytes 4 w) (put_mid a 4 xs ys)
    begins-four w ys h e = begins-more 4 (low_bytes 4 w) ys h (length-low_bytes 4 w) (e ∙ low-four w)

    pub begins-all : m ≤ a → xs ≡ before
    begins-all h = sym (take_all a xs (omega (arith, here.long))) ∙ here.front
