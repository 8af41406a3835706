-- Laws of a run that grows in a buffer. Assumes nothing.
use mathlib.Core.Path.{◌≡◌, sym, ap, ◌∙◌}
use mathlib.Core.List.{List, [], ◌∷◌, ◌++◌, append_assoc}
use Prim.Native.Nat.{ℕ, suc, ◌+◌, ◌<◌}
use native.Mathlib.Omega.{arith}
use lib.ListN.{length, get_or, drop, set, get_or-append}
use lib.Seq.{drop-drop, drop-cons, drop_at, set_at}
use Rattle.masks.specs.Run.{next_word, grown}
use Rattle.masks.proofs.Run.{length-grown}

-- the next word of a run is the same whatever follows
next-same : (s rest : List ℕ) (n : ℕ) → length s ≡ 16 → next_word (grown s n ++ rest) n ≡ next_word (grown s n) n
unfolding next_word
next-same s rest n ls =
    let l : length (grown s n) ≡ 16 + n = length-grown s ls n in
    rw (get_or-append (grown s n) rest 0 n (omega arith), get_or-append (grown s n) rest 0 (n + 5) (omega arith))

-- one more word of a run, the rest as it was
pub grown-more : (s old xs : List ℕ) (n v : ℕ) → length s ≡ 16 → 16 + n < length old → xs ≡ grown s n ++ drop (16 + n) old → v ≡ next_word xs n
    → set xs (n + 16) v ≡ grown s (n + 1) ++ drop (16 + (n + 1)) old
unfolding grown
grown-more s old xs n v ls h e q =
    let g = grown s n in
    let l : length g ≡ n + 16 = length-grown s ls n ∙ omega arith in
    let k : n + 1 ≡ suc n = omega arith in
    let far : 16 + suc n ≡ suc (16 + n) = omega arith in
    let vq : v ≡ next_word g n = q ∙ ap (λ (x : List ℕ). next_word x n) e ∙ next-same s (drop (16 + n) old) n ls in
    ap (λ (x : List ℕ). set x (n + 16) v) e
    ∙ ap (λ (d : List ℕ). set (g ++ d) (n + 16) v) (drop-cons old (16 + n) 0 h)
    ∙ set_at g (get_or old (16 + n) 0) (drop (suc (16 + n)) old) v (n + 16) l
    ∙ rw (k, far, vq) (sym (append_assoc g (next_word g n ∷ []) (drop (suc (16 + n)) old)))

-- what lies behind a new front of sixteen
pub behind-first : (s old : List ℕ) (m : ℕ) → length s ≡ 16 → drop (16 + m) (s ++ drop 16 old) ≡ drop (16 + m) old
behind-first s old m h = sym (drop-drop m 16 (s ++ drop 16 old)) ∙ ap (drop m) (drop_at s (drop 16 old) 16 h) ∙ drop-drop m 16 old
