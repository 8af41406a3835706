-- Laws of the lists that count up from 0, stated once and cited by every loop. Assumes nothing.
use mathlib.Core.Path.{◌≡◌, refl, sym, ap, ap₂, ◌∙◌, subst}
use mathlib.Core.List.{List, [], ◌∷◌, ◌++◌, append_assoc, append-nil}
use Prim.Native.Nat.{ℕ, zero, suc, ◌+◌, ◌-◌, ◌*◌, ◌≤◌, ◌<◌}
use native.Mathlib.Nat.{add-zero, add-suc, mul-suc, mul-zero, le_of_eq, mul-le-mul_left}
use native.Mathlib.Numerals.{add-one}
use native.Mathlib.Omega.{arith}
use native.Mathlib.Decide.{dec_lt}
use lib.ListN.{length, get_or, take, drop, set, length-append, length-drop, get_or-append, get_or-eq_default, drop_of_length-le}
use lib.Seq.{drop-drop, get_or_at, take_at, drop_at, take_all, ext_get_or, take-add, length-take-le, get_or-take, get_or-drop, get_or-append-add, take-suc-set, drop-cons, set_at, take-append-le, get_or-set_same, get_or-set_other}
use borrow.Rule.Slice.PartMut.{put_mid}
use Rattle.words.specs.Sequence.{tab, cat, times, zeros}

pub length-tab : (f : ℕ → ℕ) (n : ℕ) → length (tab f n) ≡ n
unfolding tab
length-tab f zero = refl
length-tab f (suc n) = length-append (tab f n) (f n ∷ []) ∙ add-one _ ∙ ap suc (length-tab f n)

module _ (f : ℕ → ℕ) (n : ℕ) where
  get_or-last : (i : ℕ) → i ≡ n → get_or (tab f n ++ (f n ∷ [])) i 0 ≡ f i
  get_or-last i e =
      get_or_at (tab f n) (f n) [] 0 i (length-tab f n ∙ sym e) ∙ ap f (sym e)

pub get_or-tab : (f : ℕ → ℕ) (n i : ℕ) → i < n → get_or (tab f n) i 0 ≡ f i
unfolding tab
get_or-tab f zero i h = absurd (omega arith)
get_or-tab f (suc n) i h = elim (dec_lt i n) [
  | yes p ↦ get_or-append (tab f n) (f n ∷ []) 0 i (subst (λ (k : ℕ). i < k) (sym (length-tab f n)) p) ∙ get_or-tab f n i p
  | no q ↦ get_or-last f n i (omega arith)
]

-- past its end a list reads as zero
pub get_or-tab-past : (f : ℕ → ℕ) (n i : ℕ) → n ≤ i → get_or (tab f n) i 0 ≡ 0
get_or-tab-past f n i h = get_or-eq_default (tab f n) 0 (subst (λ (k : ℕ). k ≤ i) (sym (length-tab f n)) h)

-- two tables are equal when their entries are
pub tab-ext : (f g : ℕ → ℕ) (n : ℕ) → ((i : ℕ) → i < n → f i ≡ g i) → tab f n ≡ tab g n
tab-ext f g n h =
    ext_get_or 0 (tab f n) (tab g n) (length-tab f n ∙ sym (length-tab g n))
    (λ i p. let q : i < n = subst (λ (k : ℕ). i < k) (length-tab f n) p in get_or-tab f n i q ∙ h i q ∙ sym (get_or-tab g n i q))

-- a list is the table of its own entries
pub tab-get_or : (s : List ℕ) (n : ℕ) → length s ≡ n → s ≡ tab (λ i. get_or s i 0) n
tab-get_or s n e =
    ext_get_or 0 s (tab (λ i. get_or s i 0) n) (e ∙ sym (length-tab (λ i. get_or s i 0) n))
    (λ i p. sym (get_or-tab (λ i. get_or s i 0) n i (subst (λ (k : ℕ). i < k) e p)))

-- one more entry of a list that is filled from the front
pub stored : (f : ℕ → ℕ) (i : ℕ) (xs : List ℕ) (v : ℕ) → i < length xs → take i xs ≡ tab f i → v ≡ f i → take (i + 1) (set xs i v) ≡ tab f (i + 1)
unfolding tab
stored f i xs v h e q = rw (add-one, take-suc-set xs i v h, e, q)

-- all entries are in
pub filled : (f : ℕ → ℕ) (n : ℕ) (xs : List ℕ) → length xs ≡ n → take n xs ≡ tab f n → xs ≡ tab f n
filled f n xs h e = sym (take_all n xs (omega arith)) ∙ e

pub length-cat : (f : ℕ → List ℕ) (w n : ℕ) → ((k : ℕ) → length (f k) ≡ w) → length (cat f n) ≡ w * n
unfolding cat
length-cat f w zero h = sym (mul-zero w)
length-cat f w (suc n) h = rw (length-append, length-cat f w n h, h n, mul-suc)

-- `&s[a..]` is the list from place a on
pub tail_part : (a : ℕ) (s : List ℕ) → take (length s - a) (drop a s) ≡ drop a s
tail_part a s = take_all (length s - a) (drop a s) (simp length-drop (omega arith))

-- the part from a on came back with a new front of w bytes
pub fronted : (a w : ℕ) (before new old xs ys : List ℕ) → length before ≡ a → xs ≡ before ++ drop a old
    → ys ≡ new ++ drop w (take (length xs - a) (drop a xs))
    → put_mid a (length xs - a) xs ys ≡ before ++ (new ++ drop (a + w) old)
fronted a w before new old xs ys la e q =
    let back : drop a xs ≡ drop a old = ap (drop a) e ∙ drop_at before (drop a old) a la in
    let head : take a xs ≡ before = ap (take a) e ∙ take_at before (drop a old) a la in
    let none : drop (length xs - a) (drop a xs) ≡ [] = drop_of_length-le (drop a xs) {i = length xs - a} (simp length-drop (omega arith)) in
    rw (head, none, q, tail_part, back, drop-drop, append-nil)

-- such a front is one more piece
pub appended : (f : ℕ → List ℕ) (w i : ℕ) (old xs ys : List ℕ) → ((k : ℕ) → length (f k) ≡ w) → w * i + w ≤ length old
    → xs ≡ cat f i ++ drop (w * i) old → ys ≡ f i ++ drop w (take (length xs - w * i) (drop (w * i) xs))
    → put_mid (w * i) (length xs - w * i) xs ys ≡ cat f (i + 1) ++ drop (w * (i + 1)) old
unfolding cat
appended f w i old xs ys hw h e q =
    fronted (w * i) w (cat f i) (f i) old xs ys (length-cat f w i hw) e q ∙ rw (add-one, mul-suc) (sym (append_assoc (cat f i) (f i) (drop (w * i + w) old)))

-- the part from the next block on
pub next_part : (w i : ℕ) (t s : List ℕ) → t ≡ drop (w * i) s → take (length t - w) (drop w t) ≡ drop (w * (i + 1)) s
next_part w i t s e = tail_part w t ∙ rw (e, drop-drop, add-one, mul-suc)

pub timesed : (f : List ℕ → List ℕ) (s : List ℕ) (i : ℕ) (r next : List ℕ) → r ≡ times f i s → next ≡ f r → next ≡ times f (i + 1) s
unfolding times
timesed f s i r next e q = rw (add-one, q, e)

pub cat-ext : (f g : ℕ → List ℕ) (n : ℕ) → ((i : ℕ) → i < n → f i ≡ g i) → cat f n ≡ cat g n
unfolding cat
cat-ext f g zero h = refl
cat-ext f g (suc n) h = ap₂ (λ (x y : List ℕ). x ++ y) (cat-ext f g n (λ i p. h i (omega arith))) (h n (omega arith))

-- piece i of lists of one width, whatever follows
pub piece : (f : ℕ → List ℕ) (w n i : ℕ) (rest : List ℕ) → ((k : ℕ) → length (f k) ≡ w) → i < n
    → take w (drop (w * i) (cat f n ++ rest)) ≡ f i
unfolding cat
piece f w zero i rest hw h = absurd (omega arith)
piece f w (suc n) i rest hw h = elim (dec_lt i n) [
  | yes p ↦ rw append_assoc (piece f w n i (f n ++ rest) hw p)
  | no q ↦ let e : i ≡ n = omega arith in
      rw (e, append_assoc, drop_at (cat f n) (f n ++ rest) (w * n) (length-cat f w n hw), take_at (f n) rest w (hw n))
]

-- a list cut into n pieces of w, put together again
pub pieces : (w n : ℕ) (s : List ℕ) → cat (λ i. take w (drop (w * i) s)) n ≡ take (w * n) s
unfolding cat
pieces w zero s = rw mul-zero
pieces w (suc n) s = rw (pieces w n s, mul-suc, take-add)

-- the front of a list, entry by entry
pub front : (s : List ℕ) (n : ℕ) → n ≤ length s → take n s ≡ tab (λ i. get_or s i 0) n
front s n h =
    tab-get_or (take n s) n (length-take-le n s h)
    ∙ tab-ext (λ i. get_or (take n s) i 0) (λ i. get_or s i 0) n (λ i p. get_or-take n s i 0 p)

-- one more entry of a list whose rest is as it was
pub placed : (f : ℕ → ℕ) (i : ℕ) (old xs : List ℕ) (v : ℕ) → i < length old → xs ≡ tab f i ++ drop i old → v ≡ f i
    → set xs i v ≡ tab f (i + 1) ++ drop (i + 1) old
unfolding tab
placed f i old xs v h e q =
    rw (e, q, drop-cons old i 0, set_at (tab f i) (get_or old i 0) (drop (suc i) old) (f i) i (length-tab f i), add-one)
    (sym (append_assoc (tab f i) (f i ∷ []) (drop (suc i) old)))

-- the first pieces of lists of one width
pub take-cat : (f : ℕ → List ℕ) (w n k : ℕ) → ((i : ℕ) → length (f i) ≡ w) → k ≤ n → take (w * k) (cat f n) ≡ cat f k
unfolding cat
take-cat f w zero k hw h = let e : k ≡ 0 = omega arith in rw (e, mul-zero)
take-cat f w (suc n) k hw h = elim (dec_lt n k) [
  | yes p ↦ let e : k ≡ suc n = omega arith in rw e (take_all (w * suc n) (cat f n ++ f n) (le_of_eq (length-cat f w (suc n) hw)))
  | no q ↦ take-append-le (w * k) (cat f n) (f n) (subst (λ (m : ℕ). w * k ≤ m) (sym (length-cat f w n hw)) (mul-le-mul_left w (omega arith)))
      ∙ take-cat f w n k hw (omega arith)
]

-- a list read entry by entry, past its end as zero: one more entry behind those of t
pub extended : (xs t : List ℕ) (v : ℕ) → length t < length xs → ((j : ℕ) → get_or xs j 0 ≡ get_or t j 0)
    → (j : ℕ) → get_or (set xs (length t) v) j 0 ≡ get_or (t ++ (v ∷ [])) j 0
extended xs t v h e j = elim (dec_lt j (length t)) [
  | yes p ↦ get_or-set_other xs (length t) j v 0 (λ q. omega arith) ∙ e j ∙ sym (get_or-append t (v ∷ []) 0 j p)
  | no q ↦ elim (dec_lt (length t) j) [
    | yes r ↦ get_or-set_other xs (length t) j v 0 (λ u. omega arith) ∙ e j ∙ get_or-eq_default t 0 {n = j} (omega arith)
        ∙ sym (get_or-eq_default (t ++ (v ∷ [])) 0 {n = j} (simp length-append (omega arith)))
    | no u ↦ let s : j ≡ length t = omega arith in rw (s, get_or-set_same xs (length t) v 0 h) (sym (get_or_at t v [] 0 (length t) refl))
  ]
]

pub get_or-zeros : (n i : ℕ) → get_or (zeros n) i 0 ≡ 0
unfolding zeros
get_or-zeros n i = elim (dec_lt i n) [ yes p ↦ get_or-tab (λ j. 0) n i p | no q ↦ get_or-tab-past (λ j. 0) n i (omega arith) ]

-- what a list filled from the front still holds at the next place
pub untouched : (f : ℕ → ℕ) (i : ℕ) (old xs : List ℕ) → xs ≡ tab f i ++ drop i old → get_or xs i 0 ≡ get_or old i 0
untouched f i old xs e =
    let n : length (tab f i) + 0 ≡ i = add-zero (length (tab f i)) ∙ length-tab f i in
    ap (λ (l : List ℕ). get_or l i 0) e
    ∙ ap (λ (k : ℕ). get_or (tab f i ++ drop i old) k 0) (sym n) ∙ get_or-append-add (tab f i) (drop i old) 0 0
    ∙ get_or-drop i old 0 0 ∙ ap (λ (k : ℕ). get_or old k 0) (add-zero i)

-- the entries of both lists are below a bound, and so are those of the two joined
pub below-append : (m : ℕ) (s t : List ℕ) → ((i : ℕ) → get_or s i 0 < m) → ((i : ℕ) → get_or t i 0 < m) → (i : ℕ) → get_or (s ++ t) i 0 < m
below-append m [] t hs ht i = ht i
below-append m (x ∷ s) t hs ht zero = hs 0
below-append m (x ∷ s) t hs ht (suc i) = below-append m s t (λ j. hs (suc j)) ht i

-- zeros more at the end read the same
pub zeros-more : (s : List ℕ) (n i : ℕ) → get_or (s ++ zeros n) i 0 ≡ get_or s i 0
zeros-more [] n i = get_or-zeros n i
zeros-more (x ∷ xs) n zero = refl
zeros-more (x ∷ xs) n (suc i) = zeros-more xs n i

-- a table whose entries are zero from n on
pub tab-zeros : (f : ℕ → ℕ) (n m : ℕ) → ((i : ℕ) → n ≤ i → f i ≡ 0) → tab f (n + m) ≡ tab f n ++ zeros m
unfolding tab zeros
tab-zeros f n zero h = rw (add-zero n, append-nil)
tab-zeros f n (suc m) h = rw (add-suc n m, tab-zeros f n m h, h (n + m) (omega arith), append_assoc)

-- k pieces more
pub cat-add : (f : ℕ → List ℕ) (i k : ℕ) → cat f (i + k) ≡ cat f i ++ cat (λ j. f (i + j)) k
unfolding cat
cat-add f i zero = rw (add-zero i, append-nil)
cat-add f i (suc k) = rw (add-suc i k, cat-add f i k, append_assoc)
