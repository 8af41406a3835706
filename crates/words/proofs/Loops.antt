-- Where a loop stands: a list filled from the front, and pieces written one after the other. For each the start, one more turn
-- and the end. Assumes nothing.
use mathlib.Core.Path.{◌≡◌, refl, ap, ◌∙◌}
use mathlib.Core.List.{List, ◌++◌}
use Prim.Native.Nat.{ℕ, ◌+◌, ◌-◌, ◌*◌, ◌≤◌, ◌<◌}
use native.Mathlib.Nat.{mul-suc, mul-zero}
use native.Mathlib.Numerals.{add-one}
use native.Mathlib.Omega.{arith}
use lib.ListN.{length, take, drop, set, length-append, length-drop, length-set}
use borrow.Rule.Slice.PartMut.{put_mid}
use Rattle.words.specs.Sequence.{tab, cat}
use Rattle.words.proofs.Lists.{stored, filled, length-cat, appended}

-- ---- a list of n entries, filled from the front

-- the first i entries of r are f 0, f 1, .., f (i - 1)
pub record Filling (f : ℕ → ℕ) (n : ℕ) (r : List ℕ) (i : ℕ) : Type 0 where
  pub most : i ≤ n
  pub long : length r ≡ n
  pub front : take i r ≡ tab f i

module _ {f : ℕ → ℕ} {n : ℕ} where
  pub filling-none : (r : List ℕ) → length r ≡ n → Filling f n r 0
  unfolding tab
  filling-none r e = record { most = omega arith; long = e; front = refl }

  module _ {r : List ℕ} {i : ℕ} (here : Filling f n r i) where
    pub filling-more : {v : ℕ} → i < n → v ≡ f i → Filling f n (set r i v) (i + 1)
    filling-more {v} h e = record {
      most = omega arith;
      long = length-set r i v ∙ here.long;
      front = stored f i r v (omega arith) here.front e;
    }

    pub filling-done : n ≤ i → r ≡ tab f n
    filling-done h = let e : i ≡ n = omega arith in filled f n r here.long (rw e at here.front)

-- ---- n pieces of w entries each, written to the front of a list

-- the first i pieces are in, and what follows them is as it was
pub record Writing (f : ℕ → List ℕ) (w n : ℕ) (old out : List ℕ) (i : ℕ) : Type 0 where
  pub most : i ≤ n
  pub long : length out ≡ length old
  pub text : out ≡ cat f i ++ drop (w * i) old

module _ {f : ℕ → List ℕ} {w n : ℕ} {old : List ℕ} where
  pub writing-none : Writing f w n old old 0
  unfolding cat
  writing-none = record { most = omega arith; long = refl; text = rw mul-zero }

  module _ {out : List ℕ} {i : ℕ} (here : Writing f w n old out i) where
    -- the part from the next piece on came back with that piece as its front
    pub writing_more : {part : List ℕ} → ((k : ℕ) → length (f k) ≡ w) → i < n → w * i + w ≤ length old
        → part ≡ f i ++ drop w (take (length out - w * i) (drop (w * i) out)) → Writing f w n old (put_mid (w * i) (length out - w * i) out part) (i + 1)
    writing_more {part} each h fits e =
        let next = appended f w i old out part each fits here.text e in
        let far : w * (i + 1) ≤ length old = rw (add-one, mul-suc) fits in
        record {
          most = omega arith;
          long = ap length next ∙ length-append (cat f (i + 1)) (drop (w * (i + 1)) old) ∙ rw (length-cat f w (i + 1) each, length-drop) (omega arith);
          text = next;
        }

    pub writing-done : n ≤ i → out ≡ cat f n ++ drop (w * n) old
    writing-done h = let e : i ≡ n = omega arith in rw e at here.text
