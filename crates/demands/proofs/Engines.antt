-- The run is that of the masks, and the engine that works from it is the stepping one. Assumes nothing.
use mathlib.Core.Path.{◌≡◌, refl, sym, ap, ap₂, ◌∙◌}
use mathlib.Core.Bool.{Bool, true, false, true≢false}
use mathlib.Core.List.{List, ◌++◌}
use Prim.Native.Nat.{ℕ, ◌+◌, ◌-◌, ◌<◌}
use native.Mathlib.Omega.{arith}
use lib.Dec.{eqb}
use lib.ListN.{length, drop}
use borrow.Author.Tests.{lt-ltb}
use Rattle.words.specs.Sequence.{tab}
use Rattle.words.specs.Block.{Block}
use Rattle.std.specs.Prelude.{Ok, Err}
use Rattle.answers.specs.Refusals.{refusal}
use Rattle.answers.specs.Answers.{ground_number, line, line_at, room, checked, Check, clear, Answer}
use Rattle.answers.specs.declared.Ground.{Ground}
use Rattle.answers.specs.declared.Ground.TheVariants.{OutputLength, TagDiffers}
use Rattle.answers.proofs.Values.{is_done, stopped, passed_on}
use Rattle.masks.specs.Steps.{alpha_w}
use Rattle.masks.specs.Run.{run, grown}
use Rattle.masks.proofs.Run.{run_at, run-new, grown-run, window, window-beta, window-gamma}
use Rattle.mem.proofs.Laws.{start-block}
use Rattle.runs.proofs.Planned.{beta-on}
use Rattle.checks.specs.Checks.{settings, open_inputs, run_length, seal_run_checks, open_run_checks}
use Rattle.checks.proofs.Runs.{run_long, seal-run-after, open-run-after, seal-run-same, open-run-same}
use Rattle.sealing.specs.Sealing.{verdict, seal_from, open_from, seal_call, open_call}
use Rattle.run_sealing.specs.RunSealing.{run_in, seal_run_call, open_run_call}
use Rattle.demands.specs.Engines.{OneRun, without_words, SameEngine}

pub one-run : OneRun
unfolding alpha_w
one-run s b = record {
  first = run_at s b.long;
  next = run-new s b.long;
  so_far = grown-run s b.long;
  alphas = window s b;
  betas = window-beta s b;
  gammas = window-gamma s b;
  further = beta-on s b;
}

-- ---- a call that writes words too, after its checks

-- the words that it leaves
abbrev words_of : Answer × (List ℕ × List ℕ) → List ℕ
words_of r = r.1.1

module _ (out words : List ℕ) (r : Answer × (List ℕ × List ℕ)) where
  without_words-checked : (c : Check) → without_words (checked c (out, words) r) ≡ checked c out (without_words r)
  unfolding checked
  without_words-checked (Ok none) = refl
  without_words-checked (Err found) = refl

  -- what was not refused by the checks
  clear-done : (c : Check) (n : ℕ) → (checked c (out, words) r).0 ≡ Ok n → checked c (out, words) r ≡ r
  unfolding checked
  clear-done (Ok none) n e = refl
  clear-done (Err found) n e = absurd (true≢false (sym (ap is_done e)))

  -- what a call refuses that refuses nothing after its checks
  found_first : (c : Check) (g : Ground) (at : ℕ) → (r.0 ≡ Err (refusal g at) → ⊥) → (checked c (out, words) r).0 ≡ Err (refusal g at) → (checked c (out, words) r).1 ≡ (out, words)
  unfolding checked
  found_first (Ok none) g at never e = absurd (never e)
  found_first (Err found) g at never e = refl

-- where the checks find the same, and the same is written but for the words
same-checked : (out words : List ℕ) (r : Answer × (List ℕ × List ℕ)) (c d : Check) → c ≡ d → without_words (checked c (out, words) r) ≡ checked d out (without_words r)
same-checked out words r c d e = without_words-checked out words r c ∙ ap (λ (x : Check). checked x out (without_words r)) e

whatever : (out words other : List ℕ) (r q : Answer × (List ℕ × List ℕ)) (c d : Check) → without_words r ≡ without_words q → c ≡ d
    → without_words (checked c (out, words) r) ≡ without_words (checked d (out, other) q)
whatever out words other r q c d e f =
    without_words-checked out words r c ∙ ap₂ (λ (x : Check) (y : Answer × List ℕ). checked x out y) f e ∙ sym (without_words-checked out other q d)

refused_as : (before : List ℕ × List ℕ) (r : Answer × (List ℕ × List ℕ)) (c : Check) (g : Ground) (at : ℕ) → c ≡ Err (refusal g at) → checked c before r ≡ (Err (refusal g at), before)
unfolding checked
refused_as before r c g at e = ap (λ (x : Check). checked x before r) e

-- ---- no check finds 9

abbrev is_nine : Check → Bool
is_nine (Ok none) = false
is_nine (Err found) = eqb (ground_number found.why) 9

nine-line : (t : Bool) (g : Ground) (next : Check) → eqb (ground_number g) 9 ≡ false → is_nine next ≡ false → is_nine (line t g next) ≡ false
unfolding line line_at
nine-line true g next e h = e
nine-line false g next e h = h

open-not-nine : (mode rounds key nonce header parcel out words : ℕ) → is_nine (open_run_checks mode rounds key nonce header parcel out words) ≡ false
unfolding open_run_checks open_inputs settings room
open-not-nine mode rounds key nonce header parcel out words =
    nine-line _ _ _ refl (nine-line _ _ _ refl (nine-line _ _ _ refl (nine-line _ _ _ refl (nine-line _ _ _ refl (nine-line _ _ _ refl
    (nine-line _ _ _ refl (nine-line _ _ _ refl (nine-line _ _ _ refl refl))))))))

abbrev as_nine : Answer → Bool
as_nine (Ok n) = false
as_nine (Err found) = eqb (ground_number found.why) 9

nine-clear : (out words : List ℕ) (r : Answer × (List ℕ × List ℕ)) (c : Check) (at : ℕ) → is_nine c ≡ false → (checked c (out, words) r).0 ≡ Err (refusal TagDiffers at)
    → checked c (out, words) r ≡ r
unfolding checked
nine-clear out words r (Ok none) at h e = refl
nine-clear out words r (Err found) at h e = absurd (true≢false (sym (ap as_nine e) ∙ h))

-- ---- the buffer

holds : (start words : List ℕ) (header message : ℕ) → Block start → run_in start (run_length header message) words ≡ tab (run start) (run_length header message) ++ drop (run_length header message) words
unfolding run_in
holds start words header message b =
    let n = run_length header message in
    let e : 16 + (n - 16) ≡ n = omega (arith, (run_long header message).0) in
    let front : grown start (n - 16) ≡ tab (run start) n = grown-run start b.long (n - 16) ∙ ap (tab (run start)) e in
    ap (λ (l : List ℕ). l ++ drop n words) front

-- too few words, where all else is clear
short : (needed lent : ℕ) → lent < needed → room needed lent clear ≡ Err (refusal OutputLength 0)
unfolding room line line_at
short needed lent h = rw (lt-ltb lent needed h)

-- the ground of a refusal
abbrev ground_in : Answer → Ground
ground_in (Ok n) = TagDiffers
ground_in (Err found) = found.why

verdict-ground : (n : ℕ) (b : Bool) (out : List ℕ) (g : Ground) (at : ℕ) → (g ≡ TagDiffers → ⊥) → (verdict n (b, out)).0 ≡ Err (refusal g at) → ⊥
unfolding verdict
verdict-ground n true out g at never e = true≢false (ap is_done e)
verdict-ground n false out g at never e = never (sym (ap ground_in e))

pub same-engine : SameEngine
unfolding seal_run_call open_run_call seal_call open_call seal_from open_from
same-engine mode rounds key nonce header input out words =
    let of-seal = seal-run-after mode rounds (length key) (length nonce) (length header) (length input) (length out) (length words) in
    let of-open = open-run-after mode rounds (length key) (length nonce) (length header) (length input) (length out) (length words) in
    let not-nine = open-not-nine mode rounds (length key) (length nonce) (length header) (length input) (length out) (length words) in
    record {
      seals = λ h. same-checked out words _ _ _ (seal-run-same mode rounds (length key) (length nonce) (length header) (length input) (length out) (length words) h);
      opens = λ h. same-checked out words _ _ _ (open-run-same mode rounds (length key) (length nonce) (length header) (length input) (length out) (length words) h);
      seals-refused = λ g at e. refused_as (out, words) _ _ g at (stopped _ _ of-seal e);
      opens-refused = λ g at e. refused_as (out, words) _ _ g at (stopped _ _ of-open e);
      seals-short = λ clear h. refused_as (out, words) _ _ OutputLength 0 (passed_on _ _ of-seal clear ∙ short _ _ h);
      opens-short = λ clear h. refused_as (out, words) _ _ OutputLength 0 (passed_on _ _ of-open clear ∙ short _ _ h);
      seals-whatever = λ other e.
          whatever out words other _ _ _ _ refl (ap (seal_run_checks mode rounds (length key) (length nonce) (length header) (length input) (length out)) e);
      opens-whatever = λ other e.
          whatever out words other _ _ _ _ refl (ap (open_run_checks mode rounds (length key) (length nonce) (length header) (length input) (length out)) e);
      seals-words = λ bk bn n e. ap words_of (clear-done out words _ _ n e) ∙ holds _ words (length header) (length input) (start-block rounds key nonce bk bn);
      opens-words = λ bk bn n e. ap words_of (clear-done out words _ _ n e) ∙ holds _ words (length header) (length input - 32) (start-block rounds key nonce bk bn);
      nine_words = λ bk bn at e. ap words_of (nine-clear out words _ _ at not-nine e) ∙ holds _ words (length header) (length input - 32) (start-block rounds key nonce bk bn);
      seals-unchanged = λ g at e. found_first out words _ _ g at (λ q. true≢false (ap is_done q)) e;
      opens-unchanged = λ g at never e. found_first out words _ _ g at (verdict-ground _ _ _ g at never) e;
    }
