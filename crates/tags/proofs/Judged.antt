-- A tag is right exactly where no bit of its four words differs. Assumes nothing.
use mathlib.Core.Path.{◌≡◌, refl, sym, ap, ◌∙◌, subst}
use mathlib.Core.Bool.{Bool, true, false}
use mathlib.Core.List.{List}
use Prim.Native.Nat.{ℕ, ◌<◌}
use native.Mathlib.Omega.{arith}
use lib.Dec.{eqb}
use lib.ListN.{length, get_or, take}
use lib.Seq.{length-take-le, get_or-take, ext_get_or}
use Rattle.words.specs.Block.{Block, Bytes, low_bytes, word_at, word_bytes, block_of}
use Rattle.words.proofs.Lists.{length-tab, get_or-tab, cat-ext}
use Rattle.blockplan.specs.Plan.{tag_bytes}
use Rattle.blockplan.specs.Parcel.{same}
use Rattle.blockplan.specs.Compare.{differing}
use Rattle.blockplan.proofs.Tags.{tag_is, word-tag, tag-of-block}
use Rattle.blockplan.proofs.Compared.{compared, same_true, same_refl}

-- two tests agree where each follows from the other
alike : (s t : Bool) → (s ≡ true → t ≡ true) → (t ≡ true → s ≡ true) → s ≡ t
alike true t f g = sym (f refl)
alike false true f g = g refl
alike false false f g = refl

module _ (b t : List ℕ) (h : Block b) (bytes : Bytes t) (e : length t ≡ 32) where
  word_of : (i : ℕ) → i < 4 → get_or (block_of t) i 0 ≡ word_at t i
  unfolding block_of
  word_of i p = get_or-tab (word_at t) 16 i (omega arith)

  long : length (block_of t) ≡ 16
  unfolding block_of
  long = length-tab (word_at t) 16

  -- the tag is right where the words agree
  by-words : take 4 b ≡ take 4 (block_of t) → tag_bytes b ≡ t
  unfolding word_bytes
  by-words q =
      tag_is b
      ∙ cat-ext (word_bytes b) (word_bytes (block_of t)) 4
      (λ i p. ap (low_bytes 8) (sym (get_or-take 4 b i 0 p) ∙ ap (λ (l : List ℕ). get_or l i 0) q ∙ get_or-take 4 (block_of t) i 0 p))
      ∙ sym (tag_is (block_of t)) ∙ tag-of-block t bytes e

  -- and the words agree where the tag is right
  by-tag : tag_bytes b ≡ t → take 4 b ≡ take 4 (block_of t)
  by-tag q =
      ext_get_or 0 (take 4 b) (take 4 (block_of t))
      (length-take-le 4 b (omega (arith, h.long)) ∙ sym (length-take-le 4 (block_of t) (omega (arith, long))))
      (λ i p. let r : i < 4 = subst (λ (n : ℕ). i < n) (length-take-le 4 b (omega (arith, h.long))) p in
      get_or-take 4 b i 0 r ∙ sym (word-tag b h i r) ∙ ap (λ (l : List ℕ). word_at l i) q ∙ sym (word_of i r) ∙ sym (get_or-take 4 (block_of t) i 0 r))

  -- a tag is right exactly where no bit of its words differs
  pub judged : (d : ℕ) → d ≡ differing b (block_of t) 4 → eqb d 0 ≡ same (tag_bytes b) t
  judged d q =
      ap (λ (x : ℕ). eqb x 0) q ∙ compared b (block_of t) 4 (omega (arith, h.long)) (omega (arith, long))
      ∙ alike (same (take 4 b) (take 4 (block_of t))) (same (tag_bytes b) t)
      (λ s. ap (λ (l : List ℕ). same l t) (by-words (same_true (take 4 b) (take 4 (block_of t)) s)) ∙ same_refl t)
      (λ s. ap (λ (l : List ℕ). same l (take 4 (block_of t))) (by-tag (same_true (tag_bytes b) t s)) ∙ same_refl (take 4 (block_of t)))
