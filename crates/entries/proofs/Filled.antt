-- A cell filled with a sale, piece by piece. Assumes nothing.
use mathlib.Core.Path.{◌≡◌, sym, ap, ◌∙◌}
use mathlib.Core.List.{List, [], ◌∷◌, ◌++◌}
use Prim.Native.Nat.{ℕ, ◌+◌, ◌-◌, ◌*◌, ◌≤◌}
use native.Mathlib.Omega.{arith}
use lib.ListN.{length, length-append}
use borrow.Rule.Slice.PartMut.{put_mid}
use Rattle.words.specs.Block.{low_bytes}
use Rattle.words.proofs.Blocks.{length-low_bytes}
use Rattle.cells.specs.Numbers.{number_at, put_at}
use Rattle.cells.specs.Cells.{first_sale, first_free, next_of}
use Rattle.cells.specs.Changes.{new_kind, cell_bytes, filled}
use Rattle.cells.proofs.Numbers.{length-put}
use Rattle.cells.proofs.Puts.{put-join, put-part}

module _ (s body : List ℕ) (c first : ℕ) (fits : 64 * c + 64 ≤ length s) (long : length body ≡ 61) where
  -- front and body make a cell
  pub sold-put : (s₁ new : List ℕ) → s₁ ≡ put_at (64 * c) (cell_bytes first new_kind []) s → new ≡ body
      → put_mid (64 * c + 3) (64 * c + 64 - (64 * c + 3)) s₁ new ≡ put_at (64 * c) (cell_bytes first new_kind body) s
  unfolding cell_bytes low_bytes
  sold-put s₁ new e n =
      let front = low_bytes 2 first ++ (new_kind ∷ []) in
      ap (put_mid (64 * c + 3) (64 * c + 64 - (64 * c + 3)) s₁) n ∙ put-part (64 * c + 3) (64 * c + 64) s₁ body (omega arith)
      ∙ ap (put_at (64 * c + 3) body) e ∙ put-join s (64 * c) front body (omega arith)

  -- and cell 0 names it
  pub filled_put : (rest : ℕ) (s₁ s₂ s₃ : List ℕ) → c ≡ first_free s → first ≡ number_at 2 0 s → rest ≡ next_of s c
      → s₁ ≡ put_at (64 * c) (cell_bytes first new_kind body) s → s₂ ≡ put_at 0 (low_bytes 2 c) s₁ → s₃ ≡ put_at 2 (low_bytes 2 rest) s₂ → s₃ ≡ filled body s
  unfolding filled first_sale low_bytes
  filled_put rest s₁ s₂ s₃ f i n e₁ e₂ e₃ =
      let two = length-low_bytes 2 c in
      let cell : length (cell_bytes first new_kind body) ≡ 64 = unfold cell_bytes in (length-append (low_bytes 2 first) (new_kind ∷ body) ∙ omega (arith, length-low_bytes 2 first)) in
      let l : length s₁ ≡ length s = ap length e₁ ∙ length-put (64 * c) (cell_bytes first new_kind body) s (omega arith) in
      e₃ ∙ ap (put_at 2 (low_bytes 2 rest)) e₂ ∙ ap (λ (k : ℕ). put_at k (low_bytes 2 rest) (put_at 0 (low_bytes 2 c) s₁)) (sym two)
      ∙ put-join s₁ 0 (low_bytes 2 c) (low_bytes 2 rest) (omega arith) ∙ rw (e₁, ← f, n, i)
