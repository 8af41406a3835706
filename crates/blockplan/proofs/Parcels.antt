-- Laws of parcels, for every mode that is lawful: a message comes back from its parcel, and a genuine parcel is that of its message. Assumes nothing.
use mathlib.Core.Path.{◌≡◌, refl, ap, ap₂, ◌∙◌}
use mathlib.Core.Bool.{Bool, true, false, cond}
use mathlib.Core.List.{List, ◌++◌, append_assoc}
use Prim.Native.Nat.{ℕ, ◌+◌, ◌-◌, ◌≤◌}
use native.Mathlib.Omega.{arith}
use lib.ListN.{length, take, drop, length-append, take-append-drop}
use lib.Seq.{take_at, drop_at, length-take-le}
use borrow.Rule.Slice.PartMut.{put_mid}
use Rattle.words.specs.Sequence.{zeros}
use Rattle.words.specs.Block.{Bytes}
use Rattle.words.proofs.Lists.{fronted}
use Rattle.words.proofs.Blocks.{bytes-append, bytes_take}
use Rattle.blockplan.specs.Parcel.{Mode, parcel_of, cipher_part, tag_part, message_of, genuine, opened}
use Rattle.blockplan.specs.Lawful.{Lawful}
use Rattle.blockplan.specs.Compare.{verified}
use Rattle.blockplan.proofs.Compared.{same_true, same_refl}

module _ (m : Mode) (law : Lawful m) (header : List ℕ) where
  -- ---- the parcel of a message

  module _ (message : List ℕ) where
    pub parcel-long : length (parcel_of m header message) ≡ length message + 32
    unfolding parcel_of
    parcel-long =
        let tag = m.tag header message in
        length-append (m.cipher tag message) tag ∙ ap₂ (λ (a b : ℕ). a + b) (law.cipher-long tag message) (law.tag-long header message)

    pub parcel-bytes : Bytes message → Bytes (parcel_of m header message)
    unfolding parcel_of
    parcel-bytes h =
        let tag = m.tag header message in
        bytes-append (m.cipher tag message) tag ((law.undo tag).forth-keeps message h) (law.tag-bytes header message)

    parcel-cipher : cipher_part (parcel_of m header message) ≡ m.cipher (m.tag header message) message
    unfolding cipher_part parcel_of
    parcel-cipher =
        let tag = m.tag header message in
        take_at (m.cipher tag message) tag (length (parcel_of m header message) - 32) (omega (arith, parcel-long, law.cipher-long tag message))

    pub parcel-tag : tag_part (parcel_of m header message) ≡ m.tag header message
    unfolding tag_part parcel_of
    parcel-tag =
        let tag = m.tag header message in
        drop_at (m.cipher tag message) tag (length (parcel_of m header message) - 32) (omega (arith, parcel-long, law.cipher-long tag message))

    -- the ciphertext is in front, and the tag was written behind it
    pub sealed-as : (n : ℕ) → length message ≡ n → (tag old xs ys : List ℕ) → tag ≡ m.tag header message → xs ≡ m.cipher tag message ++ drop n old
        → ys ≡ tag ++ drop 32 (take (length xs - n) (drop n xs))
        → put_mid n (length xs - n) xs ys ≡ parcel_of m header message ++ drop (n + 32) old
    unfolding parcel_of
    sealed-as n l tag old xs ys t e q =
        fronted n 32 (m.cipher tag message) tag old xs ys (law.cipher-long tag message ∙ l) e q
        ∙ rw (t, append_assoc)

    -- its message comes back
    pub parcel-message : Bytes message → message_of m (parcel_of m header message) ≡ message
    unfolding message_of
    parcel-message h = ap₂ m.plain parcel-tag parcel-cipher ∙ (law.undo (m.tag header message)).back-forth message h

    -- and it is genuine
    pub parcel-genuine : Bytes message → genuine m header (parcel_of m header message) ≡ true
    unfolding genuine
    parcel-genuine h = rw (parcel-message h, parcel-tag) (same_refl (m.tag header message))

  -- ---- the message of a parcel

  module _ (parcel : List ℕ) where
    pub message-long : 32 ≤ length parcel → length (message_of m parcel) ≡ length parcel - 32
    unfolding message_of cipher_part
    message-long h = law.plain-long (tag_part parcel) (take (length parcel - 32) parcel) ∙ length-take-le (length parcel - 32) parcel (omega arith)

    pub message-bytes : Bytes parcel → Bytes (message_of m parcel)
    unfolding message_of cipher_part
    message-bytes h = (law.undo (tag_part parcel)).back-keeps (take (length parcel - 32) parcel) (bytes_take (length parcel - 32) parcel h)

    -- a genuine parcel is that of its message
    pub message-parcel : Bytes parcel → genuine m header parcel ≡ true → parcel_of m header (message_of m parcel) ≡ parcel
    unfolding genuine parcel_of message_of tag_part cipher_part
    message-parcel h e =
        let n = length parcel - 32 in
        rw (same_true _ _ e)
        (ap (λ (c : List ℕ). c ++ drop n parcel) ((law.undo (drop n parcel)).forth-back (take n parcel) (bytes_take n parcel h))
        ∙ take-append-drop n parcel)

    -- the message is in front, and then stayed or was cleared
    pub opened-is : (old : List ℕ) → 32 ≤ length parcel
        → verified (m.tag header (message_of m parcel)) parcel (message_of m parcel ++ drop (length parcel - 32) old) ≡ opened m header parcel old
    unfolding verified opened genuine
    opened-is old h = ap (λ (l : List ℕ). (genuine m header parcel, l)) (chosen (genuine m header parcel))
      where
        n : ℕ
        n = length parcel - 32

        chosen : (right : Bool) → cond right (message_of m parcel ++ drop n old) (zeros n ++ drop n (message_of m parcel ++ drop n old))
            ≡ cond right (message_of m parcel) (zeros n) ++ drop n old
        chosen true = refl
        chosen false = rw (drop_at (message_of m parcel) (drop n old) n (message-long h))
