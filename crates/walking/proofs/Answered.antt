-- What walk and jump may count on where their checks are clear, and that what they answer is small. Assumes nothing.
use mathlib.Core.Path.{◌≡◌}
use mathlib.Core.Bool.{Bool, true, false, cond, not, ◌&&◌}
use mathlib.Core.List.{List, [], ◌∷◌}
use Prim.Native.Nat.{ℕ, suc, ◌^◌, ◌≤◌, ◌<◌}
use native.Mathlib.Omega.{arith}
use lib.Dec.{eqb, ltb, lit<, lit≤}
use lib.IntN.{ℤ}
use lib.ListN.{length}
use borrow.Author.Tests.{not-false, eqb-true, ltb-false}
use Rattle.answers.specs.Answers.{clear, value_of, line, room}
use Rattle.answers.proofs.Values.{line_clear, line_at-clear, room-clear, line_at-lt, checked-lt}
use Rattle.answers.specs.declared.Ground.TheVariants.{OutputLength, StartLength, NetCount, StepByte, ListLength}
use Rattle.walking.specs.Walking.{is_step, first_bad, in_range, walk_checks, jump_checks, walk_call, jump_call}

-- ---- checks that are clear

pub walk-clear : (start : ℕ) (steps : List ℕ) (out : ℕ) → walk_checks start steps out ≡ clear → (start ≡ 128) × (128 ≤ out)
unfolding walk_checks
walk-clear start steps out e =
    let a = line_clear (not (eqb start 128)) StartLength _ e in
    let b = line_clear (ltb 4096 (length steps)) ListLength _ a.1 in
    let c = line_at-clear (ltb (first_bad steps) (length steps)) StepByte (first_bad steps) _ b.1 in
    (eqb-true start 128 (not-false (eqb start 128) a.0), (room-clear 128 out clear c.1).0)

pub jump-clear : (start : ℕ) (i j k : ℤ) (out : ℕ) → jump_checks start i j k out ≡ clear → (start ≡ 128) × (128 ≤ out)
unfolding jump_checks
jump-clear start i j k out e =
    let a = line_clear (not (eqb start 128)) StartLength _ e in
    let b = line_clear (not (in_range i && (in_range j && in_range k))) NetCount _ a.1 in
    (eqb-true start 128 (not-false (eqb start 128) a.0), (room-clear 128 out clear b.1).0)

-- ---- the answer is small

pick-le : (t : Bool) {m n : ℕ} → m ≤ n → cond t (suc m) 0 ≤ suc n
pick-le true h = omega arith
pick-le false h = omega arith

bad-le : (l : List ℕ) → first_bad l ≤ length l
unfolding first_bad
bad-le [] = lit≤ tt
bad-le (k ∷ l) = pick-le (is_step k) (bad-le l)

pub walk-small : (start steps out : List ℕ) → value_of (walk_call start steps out).0 < 2 ^ 32
unfolding walk_call walk_checks room line
walk-small start steps out =
    checked-lt (2 ^ 32) _ out _
    (line_at-lt (2 ^ 32) (not (eqb (length start) 128)) StartLength 0 _ (λ t. lit< tt)
    (λ a. line_at-lt (2 ^ 32) (ltb 4096 (length steps)) ListLength 0 _ (λ t. lit< tt)
    (λ b. line_at-lt (2 ^ 32) (ltb (first_bad steps) (length steps)) StepByte (first_bad steps) _ (λ t. omega (arith, bad-le steps, ltb-false 4096 (length steps) b))
    (λ c. line_at-lt (2 ^ 32) (ltb (length out) 128) OutputLength 0 clear (λ t. lit< tt) (λ d. lit< tt)))))
    (λ e. lit< tt)

pub jump_small : (start : List ℕ) (i j k : ℤ) (out : List ℕ) → value_of (jump_call start i j k out).0 < 2 ^ 32
unfolding jump_call jump_checks room line
jump_small start i j k out =
    checked-lt (2 ^ 32) _ out _
    (line_at-lt (2 ^ 32) (not (eqb (length start) 128)) StartLength 0 _ (λ t. lit< tt)
    (λ a. line_at-lt (2 ^ 32) (not (in_range i && (in_range j && in_range k))) NetCount 0 _ (λ t. lit< tt)
    (λ b. line_at-lt (2 ^ 32) (ltb (length out) 128) OutputLength 0 clear (λ t. lit< tt) (λ c. lit< tt))))
    (λ e. lit< tt)
