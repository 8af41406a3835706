-- The promise of the scan: its parts do not matter; no passage of document 01. Assumes nothing.
use Rattle.std.specs.Prelude.{◌≡◌, false, ℕ, length}
use mathlib.Core.List.{List, [], ◌∷◌, flatten}
use Rattle.maskwalk_text.specs.declared.Scan.{Scan}
use Rattle.maskwalk_text.specs.declared.Scan.TheVariants.{Reading}
use Rattle.maskwalk_text.specs.Text.{text_of, written}
use Rattle.maskwalk_text.specs.Scan.{is_open, fed, report}

-- the parts of an input, one after another
unfoldable pub feeds : List (List ℕ) → Scan → List ℕ → Scan × List ℕ
feeds [] s held = (s, held)
feeds (part ∷ parts) s held = let next = fed part s held in feeds parts next.0 next.1

-- what is written at the end, after all the parts of an input
unfoldable pub after_parts : List (List ℕ) → List ℕ → List ℕ → ℕ × List ℕ
after_parts parts held out = let end = feeds parts (Reading 0) held in written (report end.0 end.1) out

-- how an input is cut into parts changes nothing
pub record Whole : Type 0 where
  -- for every list of parts, it is the text of the whole input, whatever the buffer held before
  pub whole : (parts : List (List ℕ)) (held out : List ℕ) → length held ≡ 4224 → after_parts parts held out ≡ written (text_of (flatten parts)) out
  -- once the scan is closed, no part to come changes it: the rest of the input need not be read
  pub closed : (parts : List (List ℕ)) (s : Scan) (held : List ℕ) → is_open s ≡ false → feeds parts s held ≡ (s, held)
