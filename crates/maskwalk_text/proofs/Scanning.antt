-- A scan of the input byte by byte ends with the text of the whole input. Assumes nothing.
use mathlib.Core.Path.{◌≡◌, refl, sym, ap, ap₂, ◌∙◌}
use mathlib.Core.Bool.{Bool, true, false, cond, not, true≢false}
use mathlib.Core.List.{List, [], ◌∷◌, ◌++◌, map, append_assoc, append-nil}
use Prim.Native.Nat.{ℕ, suc, ◌+◌, ◌-◌, ◌≤◌, ◌<◌}
use native.Mathlib.Nat.{zero-add}
use native.Mathlib.Omega.{arith}
use lib.Dec.{ltb, eqb}
use lib.ListN.{length, take, drop, set, length-append, length-drop, take-append-drop}
use lib.Seq.{set_at, append_snoc, take_at, drop_at, length-take-le}
use borrow.Author.Tests.{ltb-true, ltb-false, lt-ltb, le-ltb}
use Rattle.words.specs.Block.{block_of}
use Rattle.walking.specs.Walking.{walked}
use Rattle.maskwalk_text.specs.declared.Scan.{Scan}
use Rattle.maskwalk_text.specs.declared.Scan.TheVariants.{Reading, Ended, Wrong}
use Rattle.maskwalk_text.specs.Text.{up_to_feed, start, letters, step_of, all_letters, lines, letter, long, text_of}
use Rattle.maskwalk_text.specs.Scan.{is_open, kept_at, read_byte, take_byte, fed, counted, report}

-- a test that holds or not
by_test : {A : Type 0} (t : Bool) → (t ≡ true → A) → (t ≡ false → A) → A
by_test true f g = f refl
by_test false f g = g refl

abbrev report_of : Scan × List ℕ → List ℕ
report_of x = report x.0 x.1

-- ---- part by part

-- one byte of a part
pub fed-one : (b : ℕ) (bs : List ℕ) (s next : Scan) (held now : List ℕ) → (next, now) ≡ take_byte s b held → fed (b ∷ bs) s held ≡ fed bs next now
unfolding fed
fed-one b bs s next held now e = ap (λ (x : Scan × List ℕ). fed bs x.0 x.1) (sym e)

-- two parts one after the other
pub fed-append : (xs ys : List ℕ) (s : Scan) (held : List ℕ) → fed (xs ++ ys) s held ≡ fed ys (fed xs s held).0 (fed xs s held).1
unfolding fed
fed-append [] ys s held = refl
fed-append (b ∷ xs) ys s held = fed-append xs ys (take_byte s b held).0 (take_byte s b held).1

-- nothing changes after the line feed or a wrong byte
stays : (s : Scan) (b : ℕ) (held : List ℕ) → is_open s ≡ false → (s, held) ≡ take_byte s b held
unfolding take_byte
stays (Reading n) b held e = absurd (true≢false e)
stays (Ended n) b held e = refl
stays Wrong b held e = refl

pub fed-shut : (bs : List ℕ) (s : Scan) (held : List ℕ) → is_open s ≡ false → fed bs s held ≡ (s, held)
unfolding fed
fed-shut [] s held e = refl
fed-shut (b ∷ bs) s held e = fed-one b bs s s held held (stays s b held e) ∙ fed-shut bs s held e

-- ---- one byte

-- a byte kept after n others
kept : (p rest : List ℕ) (n y v : ℕ) → length p ≡ n → set (p ++ (y ∷ rest)) n v ≡ p ++ (v ∷ []) ++ rest
kept p rest n y v e = set_at p y rest v n e ∙ sym (append_snoc p v rest)

module _ (n b : ℕ) (held : List ℕ) where
  -- what a byte does, test by test
  read-start : n < 128 → (Reading (n + 1), set held n b) ≡ take_byte (Reading n) b held
  unfolding take_byte read_byte kept_at
  read-start h = rw (lt-ltb n 128 h)

  read-feed : 128 ≤ n → eqb b 10 ≡ true → (Ended n, held) ≡ take_byte (Reading n) b held
  unfolding take_byte read_byte
  read-feed h f = rw (le-ltb n 128 h, f)

  read-wrong : 128 ≤ n → eqb b 10 ≡ false → eqb (step_of b) 0 ≡ true → (Wrong, held) ≡ take_byte (Reading n) b held
  unfolding take_byte read_byte
  read-wrong h f w = rw (le-ltb n 128 h, f, w)

  read-letter : 128 ≤ n → eqb b 10 ≡ false → eqb (step_of b) 0 ≡ false → n < 4224 → (Reading (n + 1), set held n (step_of b)) ≡ take_byte (Reading n) b held
  unfolding take_byte read_byte kept_at
  read-letter h f w l = rw (le-ltb n 128 h, f, w, lt-ltb n 4224 l)

  read-over : 128 ≤ n → eqb b 10 ≡ false → eqb (step_of b) 0 ≡ false → 4224 ≤ n → (Reading 4225, held) ≡ take_byte (Reading n) b held
  unfolding take_byte read_byte
  read-over h f w l = rw (le-ltb n 128 h, f, w, le-ltb n 4224 l)

-- ---- the start

fed-start : (p rest bs : List ℕ) → length p + length bs ≤ 128 → length bs ≤ length rest
    → fed bs (Reading (length p)) (p ++ rest) ≡ (Reading (length (p ++ bs)), p ++ bs ++ drop (length bs) rest)
unfolding fed
fed-start p rest [] h g = rw append-nil
fed-start p [] (b ∷ bs) h g = absurd (omega arith)
fed-start p (y ∷ rest) (b ∷ bs) h g =
    let q = p ++ (b ∷ []) in
    let more : length q ≡ length p + 1 = length-append p (b ∷ []) in
    fed-one b bs (Reading (length p)) (Reading (length q)) (p ++ (y ∷ rest)) (q ++ rest)
    (ap₂ (λ (n : ℕ) (l : List ℕ). (Reading n, l)) more (sym (kept p rest (length p) y b refl)) ∙ read-start (length p) b (p ++ (y ∷ rest)) (omega arith))
    ∙ fed-start q rest bs (omega arith) (omega arith)
    ∙ ap (λ (l : List ℕ). (Reading (length l), l ++ drop (length bs) rest)) (append_snoc p b bs)

-- ---- the letters

-- the text for a start, the steps of the letters so far and the letters to come
unfoldable text_from : List ℕ → List ℕ → List ℕ → List ℕ
text_from s steps ls =
    cond (not (all_letters ls)) letter
    (cond (ltb 4096 (length steps + length ls)) long
    (lines (walked (steps ++ map step_of ls) (block_of s))))

-- a byte after the start, where `text` gives the text for the letters to come: the line feed ends them, a wrong byte decides, a letter is left to show
after-start : (n b : ℕ) (bs held : List ℕ) (text : List ℕ → List ℕ) → 128 ≤ n → counted n held ≡ text []
    → ((ls : List ℕ) → all_letters ls ≡ false → letter ≡ text ls)
    → (eqb b 10 ≡ false → eqb (step_of b) 0 ≡ false → report_of (fed (b ∷ bs) (Reading n) held) ≡ text (b ∷ up_to_feed bs))
    → report_of (fed (b ∷ bs) (Reading n) held) ≡ text (up_to_feed (b ∷ bs))
unfolding report up_to_feed all_letters
after-start n b bs held text h end wrong more =
    by_test (eqb b 10)
    (λ f. ap report_of (fed-one b bs (Reading n) (Ended n) held held (read-feed n b held h f) ∙ fed-shut bs (Ended n) held refl) ∙ rw f end)
    (λ f. by_test (eqb (step_of b) 0)
    (λ w. ap report_of (fed-one b bs (Reading n) Wrong held held (read-wrong n b held h f w) ∙ fed-shut bs Wrong held refl) ∙ rw f (wrong (b ∷ up_to_feed bs) (rw w)))
    (λ w. rw f (more f w)))

-- too many letters: the text is "long", unless a wrong byte comes before the line feed
unfoldable text_over : List ℕ → List ℕ
text_over ls = cond (not (all_letters ls)) letter long

over : (bs held : List ℕ) → report_of (fed bs (Reading 4225) held) ≡ text_over (up_to_feed bs)
unfolding fed report counted up_to_feed all_letters text_over
over [] held = refl
over (b ∷ bs) held =
    after-start 4225 b bs held text_over (omega arith) refl (λ ls e. rw e)
    (λ f w. ap report_of (fed-one b bs (Reading 4225) (Reading 4225) held held (read-over 4225 b held (omega arith) f w (omega arith))) ∙ over bs held ∙ rw w)

module _ (s : List ℕ) (long-start : length s ≡ 128) where
  -- the end, or the line feed
  counted_is : (steps rest : List ℕ) → length steps ≤ 4096 → counted (128 + length steps) (s ++ steps ++ rest) ≡ text_from s steps []
  unfolding counted text_from all_letters
  counted_is steps rest h =
      let n = 128 + length steps in
      let e : n - 128 ≡ length steps = omega arith in
      rw (
        le-ltb n 128 (omega arith),
        le-ltb 4224 n (omega arith),
        append_assoc s steps rest,
        take_at s (steps ++ rest) 128 long-start,
        drop_at s (steps ++ rest) 128 long-start,
        e,
        take_at steps rest (length steps) refl,
        le-ltb 4096 (length steps + 0) (omega arith),
        append-nil,
      )

  -- one letter more
  text_from-more : (steps ls : List ℕ) (b : ℕ) → eqb (step_of b) 0 ≡ false → text_from s (steps ++ (step_of b ∷ [])) ls ≡ text_from s steps (b ∷ ls)
  unfolding text_from all_letters
  text_from-more steps ls b w =
      let e : length (steps ++ (step_of b ∷ [])) + length ls ≡ length steps + suc (length ls) = simp length-append (omega arith) in
      rw (w, e, append_snoc)

  -- one letter too many
  text_from-over : (steps ls : List ℕ) (b : ℕ) → eqb (step_of b) 0 ≡ false → 4096 ≤ length steps → text_over ls ≡ text_from s steps (b ∷ ls)
  unfolding text_from text_over all_letters
  text_from-over steps ls b w h = rw (w, lt-ltb 4096 (length steps + suc (length ls)) (omega arith))

  -- the next step byte goes to the place after those that are held
  step_kept : (steps rest : List ℕ) (y v : ℕ)
      → ◌≡◌ {A = Scan × List ℕ} (Reading (128 + length (steps ++ (v ∷ []))), s ++ (steps ++ (v ∷ [])) ++ rest)
      (Reading (128 + length steps + 1), set (s ++ steps ++ (y ∷ rest)) (128 + length steps) v)
  step_kept steps rest y v =
      let more : length (steps ++ (v ∷ [])) ≡ length steps + 1 = length-append steps (v ∷ []) in
      let held : length (s ++ steps) ≡ 128 + length steps = length-append s steps ∙ ap (λ (n : ℕ). n + length steps) long-start in
      ap₂ (λ (n : ℕ) (l : List ℕ). (Reading n, l)) (omega arith)
      (ap (λ (l : List ℕ). l ++ rest) (sym (append_assoc s steps (v ∷ []))) ∙ sym (kept (s ++ steps) rest (128 + length steps) y v held))

  fed-letters : (steps rest bs : List ℕ) → length steps + length rest ≡ 4096
      → report_of (fed bs (Reading (128 + length steps)) (s ++ steps ++ rest)) ≡ text_from s steps (up_to_feed bs)
  unfolding fed report up_to_feed text_from
  fed-letters steps rest [] h = counted_is steps rest (omega arith)
  fed-letters steps [] (b ∷ bs) h =
      let n = 128 + length steps in
      let held = s ++ steps ++ [] in
      after-start n b bs held (text_from s steps) (omega arith) (counted_is steps [] (omega arith)) (λ ls e. rw e)
      (λ f w. ap report_of (fed-one b bs (Reading n) (Reading 4225) held held (read-over n b held (omega arith) f w (omega arith)))
      ∙ over bs held ∙ text_from-over steps (up_to_feed bs) b w (omega arith))
  fed-letters steps (y ∷ rest) (b ∷ bs) h =
      let n = 128 + length steps in
      let held = s ++ steps ++ (y ∷ rest) in
      let more = steps ++ (step_of b ∷ []) in
      let room : length more + length rest ≡ 4096 = simp length-append (omega arith) in
      after-start n b bs held (text_from s steps) (omega arith) (counted_is steps (y ∷ rest) (omega arith)) (λ ls e. rw e)
      (λ f w. ap report_of (fed-one b bs (Reading n) (Reading (128 + length more)) held (s ++ more ++ rest)
      (step_kept steps rest y (step_of b) ∙ read-letter n b held (omega arith) f w (omega arith)))
      ∙ fed-letters more rest bs room ∙ text_from-more steps (up_to_feed bs) b w)

-- ---- the whole input

-- the start is held as it is, and the letters come after it
fed-long : (input held : List ℕ) → 128 ≤ length input → length held ≡ 4224
    → fed input (Reading 0) held ≡ fed (drop 128 input) (Reading (128 + 0)) (take 128 input ++ [] ++ drop 128 held)
fed-long input held h e =
    let s = take 128 input in
    let full : length s ≡ 128 = length-take-le 128 input h in
    ap (λ (l : List ℕ). fed l (Reading 0) held) (sym (take-append-drop 128 input)) ∙ fed-append s (drop 128 input) (Reading 0) held
    ∙ ap (λ (x : Scan × List ℕ). fed (drop 128 input) x.0 x.1) (fed-start [] held s (omega arith) (omega arith))
    ∙ rw (full, append-nil)

pub scanned : (input held : List ℕ) → length held ≡ 4224 → report_of (fed input (Reading 0) held) ≡ text_of input
unfolding text_of text_from letters start report counted
scanned input held e =
    by_test (ltb (length input) 128)
    (λ t. let h : length input < 128 = ltb-true (length input) 128 t in
    ap report_of (fed-start [] held input (omega arith) (omega arith)) ∙ rw t)
    (λ t. let h : 128 ≤ length input = ltb-false (length input) 128 t in
    ap report_of (fed-long input held h e)
    ∙ fed-letters (take 128 input) (length-take-le 128 input h) [] (drop 128 held) (drop 128 input) (simp length-drop (omega arith))
    ∙ rw (t, zero-add))
