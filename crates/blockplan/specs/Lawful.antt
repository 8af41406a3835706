-- What each mode is shown to be, and what the laws of parcels ask of one; no passage of document 01. Assumes nothing.
use Rattle.std.specs.Prelude.{◌≡◌, List, ℕ, length}
use Rattle.words.specs.Block.{Bytes}
use Rattle.words.specs.Undo.{Undo}
use Rattle.blockplan.specs.Parcel.{Mode}

-- what holds of a mode: the tag has 32 bytes, the ciphertext is as long as the message, and under each tag the two undo each other
pub record Lawful (m : Mode) : Type 0 where
  pub tag-long : (header message : List ℕ) → length (m.tag header message) ≡ 32
  pub tag-bytes : (header message : List ℕ) → Bytes (m.tag header message)
  pub cipher-long : (tag message : List ℕ) → length (m.cipher tag message) ≡ length message
  pub plain-long : (tag cipher : List ℕ) → length (m.plain tag cipher) ≡ length cipher
  pub undo : (tag : List ℕ) → Undo Bytes (m.cipher tag) (m.plain tag)
