-- The text written after all the parts is the text of the whole input. Assumes nothing.
use mathlib.Core.Path.{◌≡◌, refl, sym, ap, ◌∙◌}
use mathlib.Core.List.{List, [], ◌∷◌, flatten}
use Prim.Native.Nat.{ℕ}
use Rattle.maskwalk_text.specs.declared.Scan.{Scan}
use Rattle.maskwalk_text.specs.declared.Scan.TheVariants.{Reading}
use Rattle.maskwalk_text.specs.Text.{written}
use Rattle.maskwalk_text.specs.Scan.{fed, report}
use Rattle.maskwalk_text.specs.Whole.{Whole, feeds, after_parts}
use Rattle.maskwalk_text.proofs.Scanning.{fed-append, fed-shut, scanned}

-- the parts one after another are one part
feeds-flatten : (parts : List (List ℕ)) (s : Scan) (held : List ℕ) → feeds parts s held ≡ fed (flatten parts) s held
unfolding feeds fed flatten
feeds-flatten [] s held = refl
feeds-flatten (part ∷ parts) s held =
    feeds-flatten parts (fed part s held).0 (fed part s held).1 ∙ sym (fed-append part (flatten parts) s held)

pub all-parts : Whole
unfolding after_parts
all-parts = record {
  whole = λ parts held out e.
      ap (λ (x : Scan × List ℕ). written (report x.0 x.1) out) (feeds-flatten parts (Reading 0) held)
      ∙ ap (λ (t : List ℕ). written t out) (scanned (flatten parts) held e);
  closed = λ parts s held e. feeds-flatten parts s held ∙ fed-shut (flatten parts) s held e;
}
