-- Parcels of a mode, and opening them (document 01, "Words, bytes, blocks" and "Block plan"). Assumes nothing.
use Rattle.std.specs.Prelude.{Bool, true, false, cond, ◌&&◌, List, [], ◌∷◌, ◌++◌, ℕ, ◌-◌, eqb, length, take, drop}
use Rattle.words.specs.Sequence.{zeros}

-- a mode, over a round count and a start block: the tag of a header and a message, the ciphertext of a message under its tag, and back
pub record Mode : Type 0 where
  pub tag : List ℕ → List ℕ → List ℕ
  pub cipher : List ℕ → List ℕ → List ℕ
  pub plain : List ℕ → List ℕ → List ℕ

-- a parcel is the ciphertext, as long as the message, and then the tag
unfoldable pub parcel_of : Mode → List ℕ → List ℕ → List ℕ
parcel_of m header message = m.cipher (m.tag header message) message ++ m.tag header message

-- a parcel's ciphertext
unfoldable pub cipher_part : List ℕ → List ℕ
cipher_part parcel = take (length parcel - 32) parcel

-- a parcel's tag, its last 32 bytes
unfoldable pub tag_part : List ℕ → List ℕ
tag_part parcel = drop (length parcel - 32) parcel

-- the message that a parcel holds if it is genuine
unfoldable pub message_of : Mode → List ℕ → List ℕ
message_of m parcel = m.plain (tag_part parcel) (cipher_part parcel)

-- whether two lists agree in every byte and in length
unfoldable pub same : List ℕ → List ℕ → Bool
same [] [] = true
same [] (y ∷ ys) = false
same (x ∷ xs) [] = false
same (x ∷ xs) (y ∷ ys) = eqb x y && same xs ys

-- whether a parcel is genuine: its tag agrees in all 32 bytes with the tag of its message
unfoldable pub genuine : Mode → List ℕ → List ℕ → Bool
genuine m header parcel = same (m.tag header (message_of m parcel)) (tag_part parcel)

-- opening: whether the parcel is genuine, and the output, which holds the message where it is and zeros in its place where it is not
unfoldable pub opened : Mode → List ℕ → List ℕ → List ℕ → Bool × List ℕ
opened m header parcel out =
    (genuine m header parcel, cond (genuine m header parcel) (message_of m parcel) (zeros (length parcel - 32)) ++ drop (length parcel - 32) out)
