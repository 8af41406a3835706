-- Laws of blocks: which lists are blocks and which blocks are equal, exclusive or, and bytes to words and back. Assumes nothing.
use mathlib.Core.Path.{◌≡◌, refl, sym, ap, ap₂, ◌∙◌, subst}
use mathlib.Core.List.{List, [], ◌∷◌, ◌++◌, append-nil}
use Prim.Native.Nat.{ℕ, zero, suc, ◌+◌, ◌*◌, ◌/◌, ◌%◌, ◌^◌, ◌≤◌, ◌<◌}
use native.Mathlib.Nat.{mod-lt, pow-suc, lt_of_lt_of_le, pow-le-pow_right}
use native.Mathlib.Omega.{arith}
use native.Mathlib.Decide.{dec_lt}
use lib.Dec.{lit<}
use lib.ListN.{length, get_or, take, drop, set, length-set, length-take, length-drop, get_or-eq_default}
use lib.Seq.{take_all, get_or-take, get_or-drop}
use lib.Bits.{bit_xor, xor_lt, xor_comm, xor_self, xor_zero_r, xor_mod, xor_shr}
use Rattle.words.specs.Sequence.{tab, cat}
use Rattle.words.specs.Block.{Block, Bytes, le, low_bytes, word_at, block_of, word_bytes, bytes_of, xor_at, xor_block, xor_bytes, zero_block}
use Rattle.words.proofs.Lists.{length-tab, get_or-tab, get_or-tab-past, tab-ext, tab-get_or, length-cat, cat-ext, piece, pieces}
use Rattle.words.proofs.Xor.{xor_assoc, xor-cancel-r}

-- ---- blocks

-- the entries of a table are below a bound, and so are the zeros past its end
pub below-tab : (f : ℕ → ℕ) (n m : ℕ) → 0 < m → ((i : ℕ) → i < n → f i < m) → (i : ℕ) → get_or (tab f n) i 0 < m
below-tab f n m z h i = elim (dec_lt i n) [
  | yes p ↦ rw (get_or-tab f n i p) (h i p)
  | no q ↦ rw (get_or-tab-past f n i (omega arith)) z
]

pub block-tab : (f : ℕ → ℕ) → ((i : ℕ) → i < 16 → f i < 2 ^ 64) → Block (tab f 16)
block-tab f h = record { long = length-tab f 16; words = below-tab f 16 (2 ^ 64) (lit< tt) h }

-- a block is sixteen words
pub block-is : (s : List ℕ) → Block s → s ≡ tab (λ i. get_or s i 0) 16
block-is s b = tab-get_or s 16 b.long

-- a list of sixteen is a block when each of its words fits
pub block-of : (s : List ℕ) → length s ≡ 16 → ((i : ℕ) → i < 16 → get_or s i 0 < 2 ^ 64) → Block s
block-of s e h = subst Block (sym (tab-get_or s 16 e)) (block-tab (λ i. get_or s i 0) h)

-- two blocks are equal when their words are
pub block-ext : (s t : List ℕ) → Block s → Block t → ((i : ℕ) → i < 16 → get_or s i 0 ≡ get_or t i 0) → s ≡ t
block-ext s t hs ht h = block-is s hs ∙ tab-ext (λ i. get_or s i 0) (λ i. get_or t i 0) 16 h ∙ sym (block-is t ht)

set_below : (s : List ℕ) (i v : ℕ) → ((k : ℕ) → get_or s k 0 < 2 ^ 64) → v < 2 ^ 64 → (k : ℕ) → get_or (set s i v) k 0 < 2 ^ 64
set_below [] i v hs hv k = lit< tt
set_below (x ∷ xs) zero v hs hv zero = hv
set_below (x ∷ xs) zero v hs hv (suc k) = hs (suc k)
set_below (x ∷ xs) (suc i) v hs hv zero = hs zero
set_below (x ∷ xs) (suc i) v hs hv (suc k) = set_below xs i v (λ j. hs (suc j)) hv k

-- a block with another word in one place
pub set-block : (s : List ℕ) (i v : ℕ) → Block s → v < 2 ^ 64 → Block (set s i v)
set-block s i v b hv = record { long = length-set s i v ∙ b.long; words = set_below s i v b.words hv }

-- ---- exclusive or of blocks

pub xor-block : (a b : List ℕ) → Block a → Block b → Block (xor_block a b)
unfolding xor_block xor_at
xor-block a b ha hb = block-tab (xor_at a b) (λ i h. xor_lt 64 (get_or a i 0) (get_or b i 0) (ha.words i) (hb.words i))

pub get_or-xor : (a b : List ℕ) (i : ℕ) → i < 16 → get_or (xor_block a b) i 0 ≡ bit_xor (get_or a i 0) (get_or b i 0)
unfolding xor_block xor_at
get_or-xor a b i h = get_or-tab (xor_at a b) 16 i h

pub xor_block-comm : (a b : List ℕ) → xor_block a b ≡ xor_block b a
unfolding xor_block xor_at
xor_block-comm a b = tab-ext (xor_at a b) (xor_at b a) 16 (λ i h. xor_comm (get_or a i 0) (get_or b i 0))

pub xor_block-assoc : (a b c : List ℕ) → xor_block (xor_block a b) c ≡ xor_block a (xor_block b c)
unfolding xor_block xor_at
xor_block-assoc a b c =
    tab-ext (xor_at (xor_block a b) c) (xor_at a (xor_block b c)) 16
    (λ i h. ap (λ (x : ℕ). bit_xor x (get_or c i 0)) (get_or-xor a b i h) ∙ xor_assoc (get_or a i 0) (get_or b i 0) (get_or c i 0)
    ∙ ap (bit_xor (get_or a i 0)) (sym (get_or-xor b c i h)))

pub xor_block-self : (a : List ℕ) → xor_block a a ≡ zero_block
unfolding xor_block xor_at zero_block
xor_block-self a = tab-ext (xor_at a a) (λ i. 0) 16 (λ i h. xor_self (get_or a i 0))

pub xor_block-zero : (a : List ℕ) → Block a → xor_block a zero_block ≡ a
unfolding xor_block xor_at zero_block
xor_block-zero a h =
    tab-ext (xor_at a zero_block) (λ i. get_or a i 0) 16
    (λ i p. ap (bit_xor (get_or a i 0)) (get_or-tab (λ i. 0) 16 i p) ∙ xor_zero_r (get_or a i 0))
    ∙ sym (block-is a h)

pub xor_block-cancel : (a b : List ℕ) → Block a → xor_block (xor_block a b) b ≡ a
xor_block-cancel a b h = xor_block-assoc a b b ∙ ap (xor_block a) (xor_block-self b) ∙ xor_block-zero a h

pub xor_block-swap : (a b c d : List ℕ) → xor_block (xor_block a b) (xor_block c d) ≡ xor_block (xor_block a c) (xor_block b d)
xor_block-swap a b c d =
    xor_block-assoc a b (xor_block c d)
    ∙ ap (xor_block a) (sym (xor_block-assoc b c d) ∙ ap (λ (x : List ℕ). xor_block x d) (xor_block-comm b c) ∙ xor_block-assoc c b d)
    ∙ sym (xor_block-assoc a c (xor_block b d))

-- ---- bytes of a number

pub length-low_bytes : (k w : ℕ) → length (low_bytes k w) ≡ k
unfolding low_bytes
length-low_bytes zero w = refl
length-low_bytes (suc k) w = ap suc (length-low_bytes k (w / 256))

pub low_bytes-byte : (k w i : ℕ) → get_or (low_bytes k w) i 0 < 256
unfolding low_bytes
low_bytes-byte zero w i = lit< tt
low_bytes-byte (suc k) w zero = mod-lt w (lit< tt)
low_bytes-byte (suc k) w (suc i) = low_bytes-byte k (w / 256) i

pub le-low_bytes : (k w : ℕ) → w < 256 ^ k → le (low_bytes k w) ≡ w
unfolding le low_bytes
le-low_bytes zero w h = omega arith
le-low_bytes (suc k) w h =
    let p : w < 256 ^ k * 256 = subst (λ (n : ℕ). w < n) (pow-suc 256 k) h in
    let q : w / 256 < 256 ^ k = omega arith in
    rw (le-low_bytes k (w / 256) q) (omega arith)

bytes-tail : (b : ℕ) (bs : List ℕ) → Bytes (b ∷ bs) → Bytes bs
bytes-tail b bs h = record { bytes = λ i. h.bytes (suc i) }

pub low_bytes-le : (s : List ℕ) → Bytes s → low_bytes (length s) (le s) ≡ s
unfolding le low_bytes
low_bytes-le [] h = refl
low_bytes-le (b ∷ bs) h =
    let p : b < 256 = h.bytes 0 in
    let low : (b + 256 * le bs) % 256 ≡ b = omega arith in
    let high : (b + 256 * le bs) / 256 ≡ le bs = omega arith in
    rw (low, high, low_bytes-le bs (bytes-tail b bs h))

pub le-lt : (s : List ℕ) → Bytes s → le s < 256 ^ length s
unfolding le
le-lt [] h = lit< tt
le-lt (b ∷ bs) h =
    let p : b < 256 = h.bytes 0 in
    let q : le bs < 256 ^ length bs = le-lt bs (bytes-tail b bs h) in
    rw pow-suc (omega arith)

-- ---- bytes

pub bytes-nil : Bytes []
bytes-nil = record { bytes = λ i. lit< tt }

byte-cons : (b : ℕ) (bs : List ℕ) → b < 256 → Bytes bs → (i : ℕ) → get_or (b ∷ bs) i 0 < 256
byte-cons b bs h hs zero = h
byte-cons b bs h hs (suc i) = hs.bytes i

pub bytes-append : (s t : List ℕ) → Bytes s → Bytes t → Bytes (s ++ t)
bytes-append [] t hs ht = ht
bytes-append (b ∷ bs) t hs ht = record { bytes = byte-cons b (bs ++ t) (hs.bytes 0) (bytes-append bs t (bytes-tail b bs hs) ht) }

pub bytes_drop : (n : ℕ) (s : List ℕ) → Bytes s → Bytes (drop n s)
bytes_drop n s h = record { bytes = λ i. rw (get_or-drop n s i 0) (h.bytes (n + i)) }

pub bytes_take : (n : ℕ) (s : List ℕ) → Bytes s → Bytes (take n s)
bytes_take n s h = record {
  bytes = λ i. elim (dec_lt i n) [
    | yes p ↦ rw (get_or-take n s i 0 p) (h.bytes i)
    | no q ↦ rw (get_or-eq_default (take n s) 0 {n = i} (simp length-take (omega arith))) (lit< tt)
  ];
}

pub bytes-cat : (f : ℕ → List ℕ) (n : ℕ) → ((i : ℕ) → Bytes (f i)) → Bytes (cat f n)
unfolding cat
bytes-cat f zero h = bytes-nil
bytes-cat f (suc n) h = bytes-append (cat f n) (f n) (bytes-cat f n h) (h n)

-- ---- bytes to words and back

pub length-word_bytes : (b : List ℕ) (i : ℕ) → length (word_bytes b i) ≡ 8
unfolding word_bytes
length-word_bytes b i = length-low_bytes 8 (get_or b i 0)

pub length-bytes_of : (b : List ℕ) → length (bytes_of b) ≡ 128
unfolding bytes_of
length-bytes_of b = length-cat (word_bytes b) 8 16 (length-word_bytes b)

pub bytes-bytes_of : (b : List ℕ) → Bytes (bytes_of b)
unfolding bytes_of word_bytes
bytes-bytes_of b = bytes-cat (word_bytes b) 16 (λ i. record { bytes = low_bytes-byte 8 (get_or b i 0) })

pub word_at-lt : (s : List ℕ) (i : ℕ) → Bytes s → word_at s i < 2 ^ 64
unfolding word_at
word_at-lt s i h =
    let part = take 8 (drop (8 * i) s) in
    lt_of_lt_of_le (le-lt part (bytes_take 8 (drop (8 * i) s) (bytes_drop (8 * i) s h)))
    (pow-le-pow_right {n = 256} (lit< tt) {i = length part} {j = 8} (simp length-take (omega arith)))

pub block-block_of : (s : List ℕ) → Bytes s → Block (block_of s)
unfolding block_of
block-block_of s h = block-tab (word_at s) (λ i p. word_at-lt s i h)

-- a block comes back from its bytes, whatever follows them
pub block_of-bytes_of : (b rest : List ℕ) → Block b → block_of (bytes_of b ++ rest) ≡ b
unfolding block_of bytes_of word_at word_bytes
block_of-bytes_of b rest h =
    tab-ext (word_at (bytes_of b ++ rest)) (λ i. get_or b i 0) 16 (λ i p. word i p) ∙ sym (block-is b h)
  where
    word : (i : ℕ) → i < 16 → word_at (cat (word_bytes b) 16 ++ rest) i ≡ get_or b i 0
    word i p =
        ap le (piece (word_bytes b) 8 16 i rest (length-word_bytes b) p) ∙ le-low_bytes 8 (get_or b i 0) (h.words i)

-- a block comes back from its bytes
pub block_of-bytes : (b : List ℕ) → Block b → block_of (bytes_of b) ≡ b
block_of-bytes b h = ap block_of (sym (append-nil (bytes_of b))) ∙ block_of-bytes_of b [] h

-- 128 bytes come back from their block
pub bytes_of-block_of : (s : List ℕ) → Bytes s → 128 ≤ length s → bytes_of (block_of s) ≡ take 128 s
unfolding bytes_of word_bytes block_of word_at
bytes_of-block_of s h p =
    cat-ext (word_bytes (block_of s)) (λ i. take 8 (drop (8 * i) s)) 16 (λ i q. word i q) ∙ pieces 8 16 s
  where
    word : (i : ℕ) → i < 16 → low_bytes 8 (get_or (tab (word_at s) 16) i 0) ≡ take 8 (drop (8 * i) s)
    word i q =
        let part = take 8 (drop (8 * i) s) in
        let eight : length part ≡ 8 = simp (length-take, length-drop) (omega arith) in
        ap (low_bytes 8) (get_or-tab (word_at s) 16 i q)
        ∙ ap (λ (k : ℕ). low_bytes k (le part)) (sym eight)
        ∙ low_bytes-le part (bytes_take 8 (drop (8 * i) s) (bytes_drop (8 * i) s h))

-- ---- exclusive or of bytes

pub length-xor_bytes : (s k : List ℕ) → length (xor_bytes s k) ≡ length s
unfolding xor_bytes
length-xor_bytes s k = length-tab (xor_at s k) (length s)

pub bytes-xor_bytes : (s k : List ℕ) → Bytes s → Bytes k → Bytes (xor_bytes s k)
unfolding xor_bytes xor_at
bytes-xor_bytes s k hs hk =
    record { bytes = below-tab (xor_at s k) (length s) 256 (lit< tt) (λ i p. xor_lt 8 (get_or s i 0) (get_or k i 0) (hs.bytes i) (hk.bytes i)) }

-- the same bytes twice give the bytes back
pub xor_bytes-cancel : (s k : List ℕ) → xor_bytes (xor_bytes s k) k ≡ s
unfolding xor_bytes xor_at
xor_bytes-cancel s k =
    ap (λ (n : ℕ). tab (xor_at (xor_bytes s k) k) n) (length-xor_bytes s k)
    ∙ tab-ext (xor_at (xor_bytes s k) k) (λ i. get_or s i 0) (length s)
    (λ i p. ap (λ (x : ℕ). bit_xor x (get_or k i 0)) (get_or-tab (xor_at s k) (length s) i p) ∙ xor-cancel-r (get_or s i 0) (get_or k i 0))
    ∙ sym (tab-get_or s (length s) refl)

-- ---- exclusive or of blocks is that of their bytes

tab-front : (f : ℕ → ℕ) (n : ℕ) → tab f (suc n) ≡ f 0 ∷ tab (λ i. f (suc i)) n
unfolding tab
tab-front f zero = refl
tab-front f (suc n) = ap (λ (l : List ℕ). l ++ (f (suc n) ∷ [])) (tab-front f n)

xor_bytes-cons : (x y : ℕ) (xs ys : List ℕ) → xor_bytes (x ∷ xs) (y ∷ ys) ≡ bit_xor x y ∷ xor_bytes xs ys
unfolding xor_bytes xor_at
xor_bytes-cons x y xs ys = tab-front (xor_at (x ∷ xs) (y ∷ ys)) (length xs)

xor_bytes-append : (a b c d : List ℕ) → length a ≡ length c → xor_bytes (a ++ b) (c ++ d) ≡ xor_bytes a c ++ xor_bytes b d
unfolding xor_bytes tab
xor_bytes-append [] b [] d e = refl
xor_bytes-append [] b (y ∷ ys) d e = absurd (omega arith)
xor_bytes-append (x ∷ xs) b [] d e = absurd (omega arith)
xor_bytes-append (x ∷ xs) b (y ∷ ys) d e =
    xor_bytes-cons x y (xs ++ b) (ys ++ d) ∙ ap (λ (l : List ℕ). bit_xor x y ∷ l) (xor_bytes-append xs b ys d (omega arith))
    ∙ ap (λ (l : List ℕ). l ++ xor_bytes b d) (sym (xor_bytes-cons x y xs ys))

xor_bytes-cat : (f g : ℕ → List ℕ) (w n : ℕ) → ((i : ℕ) → length (f i) ≡ w) → ((i : ℕ) → length (g i) ≡ w)
    → xor_bytes (cat f n) (cat g n) ≡ cat (λ i. xor_bytes (f i) (g i)) n
unfolding cat xor_bytes tab
xor_bytes-cat f g w zero hf hg = refl
xor_bytes-cat f g w (suc n) hf hg =
    xor_bytes-append (cat f n) (f n) (cat g n) (g n) (length-cat f w n hf ∙ sym (length-cat g w n hg))
    ∙ ap (λ (l : List ℕ). l ++ xor_bytes (f n) (g n)) (xor_bytes-cat f g w n hf hg)

low_bytes-xor : (k x y : ℕ) → low_bytes k (bit_xor x y) ≡ xor_bytes (low_bytes k x) (low_bytes k y)
unfolding low_bytes xor_bytes tab
low_bytes-xor zero x y = refl
low_bytes-xor (suc k) x y =
    rw (xor_mod x y 8, xor_shr x y 8, low_bytes-xor k (x / 256) (y / 256))
    (sym (xor_bytes-cons (x % 256) (y % 256) (low_bytes k (x / 256)) (low_bytes k (y / 256))))

pub bytes_of-xor : (a b : List ℕ) → bytes_of (xor_block a b) ≡ xor_bytes (bytes_of a) (bytes_of b)
unfolding bytes_of word_bytes
bytes_of-xor a b =
    cat-ext (word_bytes (xor_block a b)) (λ i. xor_bytes (word_bytes a i) (word_bytes b i)) 16
    (λ i h. ap (low_bytes 8) (get_or-xor a b i h) ∙ low_bytes-xor 8 (get_or a i 0) (get_or b i 0))
    ∙ sym (xor_bytes-cat (word_bytes a) (word_bytes b) 8 16 (length-word_bytes a) (length-word_bytes b))

-- 128 bytes are those of their block
pub bytes-are : (s : List ℕ) → Bytes s → length s ≡ 128 → bytes_of (block_of s) ≡ s
bytes-are s h e = bytes_of-block_of s h (omega arith) ∙ take_all 128 s (omega arith)

pub block_of-xor : (s t : List ℕ) → Bytes s → Bytes t → length s ≡ 128 → length t ≡ 128
    → block_of (xor_bytes s t) ≡ xor_block (block_of s) (block_of t)
block_of-xor s t hs ht es et =
    ap₂ (λ (x y : List ℕ). block_of (xor_bytes x y)) (sym (bytes-are s hs es)) (sym (bytes-are t ht et))
    ∙ ap block_of (sym (bytes_of-xor (block_of s) (block_of t)))
    ∙ block_of-bytes (xor_block (block_of s) (block_of t)) (xor-block (block_of s) (block_of t) (block-block_of s hs) (block-block_of t ht))

-- ---- a block is what its bytes read as, zeros past their end

le-ext : (a b : List ℕ) → ((i : ℕ) → get_or a i 0 ≡ get_or b i 0) → le a ≡ le b
unfolding le
le-ext [] [] h = refl
le-ext [] (y ∷ ys) h = rw (sym (h 0), sym (le-ext [] ys (λ i. h (suc i))))
le-ext (x ∷ xs) [] h = rw (h 0, le-ext xs [] (λ i. h (suc i)))
le-ext (x ∷ xs) (y ∷ ys) h = rw (h 0, le-ext xs ys (λ i. h (suc i)))

reads : (n k : ℕ) (s t : List ℕ) → ((i : ℕ) → get_or s i 0 ≡ get_or t i 0) → (i : ℕ) → get_or (take n (drop k s)) i 0 ≡ get_or (take n (drop k t)) i 0
reads n k s t h i = elim (dec_lt i n) [
  | yes p ↦ get_or-take n (drop k s) i 0 p ∙ get_or-drop k s i 0 ∙ h (k + i) ∙ sym (get_or-take n (drop k t) i 0 p ∙ get_or-drop k t i 0)
  | no q ↦ past q s ∙ sym (past q t)
]
  where
    past : (i < n → ⊥) → (l : List ℕ) → get_or (take n (drop k l)) i 0 ≡ 0
    past q l = get_or-eq_default (take n (drop k l)) 0 {n = i} (simp length-take (omega arith))

pub block_of-ext : (s t : List ℕ) → ((i : ℕ) → get_or s i 0 ≡ get_or t i 0) → block_of s ≡ block_of t
unfolding block_of word_at
block_of-ext s t h = tab-ext (word_at s) (word_at t) 16 (λ i p. le-ext (take 8 (drop (8 * i) s)) (take 8 (drop (8 * i) t)) (reads 8 (8 * i) s t h))
