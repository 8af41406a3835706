-- Demand 3 holds. Assumes nothing.
use mathlib.Core.Path.{◌≡◌, refl, sym, ap, ap₂, ◌∙◌, subst}
use mathlib.Core.Bool.{Bool, true, false, cond}
use mathlib.Core.List.{List, [], ◌∷◌, ◌++◌, append-nil}
use Prim.Native.Nat.{ℕ, zero, suc, ◌+◌, ◌-◌, ◌≤◌, ◌<◌}
use native.Mathlib.Omega.{arith}
use lib.Dec.{eqb, ltb, lit≤}
use lib.IntN.{pos, negsuc, nat_abs, ◌-ℤ◌}
use lib.ListN.{length, get_or, drop}
use borrow.Author.Tests.{eq-eqb, le-leb, le-ltb}
use Rattle.words.specs.Sequence.{zeros, tab, times}
use Rattle.words.specs.Block.{Block, block_of, bytes_of, xor_bytes}
use Rattle.words.proofs.Blocks.{length-bytes_of, bytes-bytes_of, block-block_of, block_of-bytes, bytes-are, bytes_of-xor, block_of-xor, length-xor_bytes, bytes-xor_bytes}
use Rattle.std.specs.Prelude.{Ok}
use Rattle.answers.specs.Answers.{line_at, line, room, checked, clear, Answer}
use Rattle.words.specs.Undo.{Undo}
use Rattle.back_steps.proofs.BackAlpha.{alpha-undo}
use Rattle.back_steps.proofs.Undoing.{beta-undo, gamma-undo}
use Rattle.walking.specs.Walking.{step, walked, net_steps, jumped, is_step, first_bad, in_range, walk_checks, jump_checks, walk_call, jump_call}
use Rattle.demands.specs.Demand3.{Start, Steps, count, net, mask, Demand3}
use Rattle.demands.proofs.Walked.{leads, walked-linear}

-- ---- a list of steps has no bad place

all-steps : (l : List ℕ) → ((i : ℕ) → i < length l → 1 ≤ get_or l i 0) → ((i : ℕ) → i < length l → get_or l i 0 ≤ 6) → first_bad l ≡ length l
unfolding first_bad is_step
all-steps [] low high = refl
all-steps (k ∷ l) low high =
    rw (le-leb 1 k (low 0 (omega arith)), le-leb k 6 (high 0 (omega arith)), all-steps l (λ i h. low (suc i) (omega arith)) (λ i h. high (suc i) (omega arith)))

-- ---- the net counts are in range

pick-le : (t : Bool) {m n : ℕ} → m ≤ n → cond t (suc m) m ≤ suc n
pick-le true h = omega arith
pick-le false h = omega arith

count-le : (k : ℕ) (l : List ℕ) → count k l ≤ length l
unfolding count
count-le k [] = lit≤ tt
count-le k (s ∷ l) = pick-le (eqb s k) (count-le k l)

pick-size : (t : Bool) {m n k : ℕ} → m ≤ k → n ≤ k → nat_abs (cond t (negsuc (n - suc m)) (pos (m - n))) ≤ suc k
pick-size true p q = omega arith
pick-size false p q = omega arith

size-le : (m n k : ℕ) → m ≤ k → n ≤ k → nat_abs (pos m -ℤ pos n) ≤ suc k
size-le m zero k p q = omega arith
size-le m (suc n) k p q = pick-size (ltb m (suc n)) p q

net-in-range : (kind : ℕ) (l : List ℕ) → length l ≤ 4096 → in_range (net kind l) ≡ true
unfolding in_range net
net-in-range kind l h =
    let p : count kind l ≤ 4096 = omega (arith, count-le kind l) in
    let q : count (kind + 3) l ≤ 4096 = omega (arith, count-le (kind + 3) l) in
    le-leb (nat_abs (pos (count kind l) -ℤ pos (count (kind + 3) l))) 65536 (omega (arith, size-le (count kind l) (count (kind + 3) l) 4096 p q))

-- ---- what walk and jump answer for a start and a list of steps

module _ (start steps out : List ℕ) (a : Start start) (l : Steps steps) where
  walk-answers : walk_call start steps out ≡ checked (room 128 (length out) clear) out (Ok 128, bytes_of (walked steps (block_of start)) ++ drop 128 out)
  unfolding walk_call walk_checks line line_at
  walk-answers =
      let none : first_bad steps ≡ length steps = all-steps steps l.low l.high in
      rw (eq-eqb (length start) 128 a.long, le-ltb 4096 (length steps) l.most, none, le-ltb (length steps) (length steps) (omega arith))

  jump-answers : jump_call start (net 1 steps) (net 2 steps) (net 3 steps) out
      ≡ checked (room 128 (length out) clear) out (Ok 128, bytes_of (jumped (net 1 steps) (net 2 steps) (net 3 steps) (block_of start)) ++ drop 128 out)
  unfolding jump_call jump_checks line line_at
  jump-answers =
      rw (eq-eqb (length start) 128 a.long, net-in-range 1 steps l.most, net-in-range 2 steps l.most, net-in-range 3 steps l.most)

-- the mask is the walked block's bytes
mask_is : (start steps : List ℕ) → Start start → Steps steps → mask start steps ≡ bytes_of (walked steps (block_of start))
unfolding mask room line line_at checked zeros tab
mask_is start steps a l = ap (λ (r : Answer × List ℕ). r.1) (walk-answers start steps (zeros 128) a l) ∙ append-nil (bytes_of (walked steps (block_of start)))

block : (start : List ℕ) → Start start → Block (block_of start)
block start a = block-block_of start a.bytes

start_of : (b : List ℕ) → Start (bytes_of b)
start_of b = record { long = length-bytes_of b; bytes = bytes-bytes_of b }

start-bytes : (start : List ℕ) → Start start → bytes_of (block_of start) ≡ start
start-bytes start a = bytes-are start a.bytes a.long

walk-is-jump : (start steps out : List ℕ) → Start start → Steps steps
    → walk_call start steps out ≡ jump_call start (net 1 steps) (net 2 steps) (net 3 steps) out
walk-is-jump start steps out a l =
    walk-answers start steps out a l
    ∙ ap (λ (b : List ℕ). checked (room 128 (length out) clear) out (Ok 128, bytes_of b ++ drop 128 out)) (leads steps (block_of start) (block start a))
    ∙ sym (jump-answers start steps out a l)

zero-nets : (start l : List ℕ) → Start start → Steps l → net 1 l ≡ pos 0 → net 2 l ≡ pos 0 → net 3 l ≡ pos 0 → mask start l ≡ start
unfolding jumped net_steps times
zero-nets start l a h p q r =
    mask_is start l a h
    ∙ ap bytes_of (leads l (block_of start) (block start a) ∙ rw (p, q, r))
    ∙ start-bytes start a

linear : (s t l : List ℕ) → Start s → Start t → Steps l → mask (xor_bytes s t) l ≡ xor_bytes (mask s l) (mask t l)
linear s t l a b h =
    mask_is (xor_bytes s t) l (record { long = length-xor_bytes s t ∙ a.long; bytes = bytes-xor_bytes s t a.bytes b.bytes }) h
    ∙ ap (λ (x : List ℕ). bytes_of (walked l x)) (block_of-xor s t a.bytes b.bytes a.long b.long)
    ∙ ap bytes_of (walked-linear l (block_of s) (block_of t) (block s a) (block t b))
    ∙ bytes_of-xor (walked l (block_of s)) (walked l (block_of t))
    ∙ ap₂ xor_bytes (sym (mask_is s l a h)) (sym (mask_is t l b h))

-- ---- one step and its back step

single : (k : ℕ) → 1 ≤ k → k ≤ 6 → Steps (k ∷ [])
single k low high = record { most = lit≤ tt; low = only (λ n. 1 ≤ n) low; high = only (λ n. n ≤ 6) high }
  where
    only : (P : ℕ → Type 0) → P k → (i : ℕ) → i < 1 → P (get_or (k ∷ []) i 0)
    only P p zero h = p
    only P p (suc i) h = absurd (omega arith)

-- the forward step of a kind and its back step undo each other
kind-undo : (kind : ℕ) → 1 ≤ kind → kind ≤ 3 → Undo Block (step kind) (step (kind + 3))
unfolding step
kind-undo zero p q = absurd (omega arith)
kind-undo (suc zero) p q = alpha-undo
kind-undo (suc (suc zero)) p q = beta-undo
kind-undo (suc (suc (suc zero))) p q = gamma-undo
kind-undo (suc (suc (suc (suc k)))) p q = absurd (omega arith)

mask_step : (k : ℕ) (s : List ℕ) → 1 ≤ k → k ≤ 6 → Start s → mask s (k ∷ []) ≡ bytes_of (step k (block_of s))
unfolding walked
mask_step k s p q a = mask_is s (k ∷ []) a (single k p q)

module _ (kind : ℕ) (s : List ℕ) (p : 1 ≤ kind) (q : kind ≤ 3) (a : Start s) where
  before : List ℕ
  before = step (kind + 3) (block_of s)

  before-block : Block before
  unfolding before
  before-block = (kind-undo kind p q).back-keeps (block_of s) (block s a)

  before-is : mask s ((kind + 3) ∷ []) ≡ bytes_of before
  unfolding before
  before-is = mask_step (kind + 3) s (omega arith) (omega arith) a

  back : mask (mask s ((kind + 3) ∷ [])) (kind ∷ []) ≡ s
  unfolding before
  back =
      ap (λ (x : List ℕ). mask x (kind ∷ [])) before-is
      ∙ mask_step kind (bytes_of before) p (omega arith) (start_of before)
      ∙ ap (λ (b : List ℕ). bytes_of (step kind b)) (block_of-bytes before before-block)
      ∙ ap bytes_of ((kind-undo kind p q).forth-back (block_of s) (block s a))
      ∙ start-bytes s a

  only : (t : List ℕ) → Start t → mask t (kind ∷ []) ≡ s → t ≡ mask s ((kind + 3) ∷ [])
  unfolding before
  only t b e =
      sym (start-bytes t b)
      ∙ ap bytes_of (sym ((kind-undo kind p q).back-forth (block_of t) (block t b)) ∙ ap (step (kind + 3))
      (sym (block_of-bytes (step kind (block_of t)) ((kind-undo kind p q).forth-keeps (block_of t) (block t b)))
      ∙ ap block_of (sym (mask_step kind t p (omega arith) b) ∙ e)))
      ∙ sym before-is

only-seven : (start steps out : List ℕ) → Start start → Steps steps
    → walk_call start steps out ≡ checked (room 128 (length out) clear) out (Ok 128, mask start steps ++ drop 128 out)
only-seven start steps out a l = walk-answers start steps out a l ∙ rw (mask_is start steps a l)

pub demand3 : Demand3
demand3 = record {
  walk-is-jump = walk-is-jump;
  only-seven = only-seven;
  jump-only-seven = λ start steps out a l. sym (walk-is-jump start steps out a l) ∙ only-seven start steps out a l;
  same-nets = λ start l m out a h g p q r. walk-is-jump start l out a h ∙ rw (p, q, r) (sym (walk-is-jump start m out a g));
  zero-nets = zero-nets;
  linear = linear;
  again = λ start l a h. subst Start (sym (mask_is start l a h)) (start_of (walked l (block_of start)));
  back = λ kind s p q a. back kind s p q a;
  only = λ kind s t p q a b e. only kind s p q a t b e;
}
