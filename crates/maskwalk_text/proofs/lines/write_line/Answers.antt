-- Two digits, a space, sixteen digits, a line feed, each after what is written before. Assumes nothing.
use mathlib.Core.Path.{◌≡◌, sym, ap, ◌∙◌}
use Prim.Native.Nat.{ℕ}
use mathlib.Core.List.{List, [], ◌∷◌, ◌++◌, append_assoc}
use native.Mathlib.Omega.{arith}
use lib.ListN.{length, take, drop, set, length-append, length-drop}
use lib.Seq.{append_snoc, length-take-le, take_at, drop_at, drop-drop}
use borrow.Rule.Slice.PartMut.{put_mid}
use Rattle.maskwalk_text.specs.Text.{line, digits}
use Rattle.maskwalk_text.proofs.Writing.{put-after, length_digits}
use Rattle.maskwalk_text.proofs.lines.write_line.Goals as goal

pub returns : goal.returns
unfolding line
returns c =
    let out = c.args.out.now in
    let front = digits 10 2 c.args.i in
    let word = digits 16 16 c.args.word in
    let before = front ++ (32 ∷ []) in
    let xs = set (c.digits.new.out ++ drop 2 out) 2 32 in
    let two : length (take 2 out) ≡ 2 = length-take-le 2 out (omega arith) in
    let three : length before ≡ 3 = simp (length-append, length_digits) in
    let number : c.digits.new.out ++ drop 2 out ≡ front ++ drop 2 out =
    ap (λ (l : List ℕ). l ++ drop 2 out) (c.digits.ensures ∙ ap (λ (k : ℕ). digits 10 k c.args.i) two) in
    let spaced : xs ≡ before ++ drop 3 out = put-after front out _ 2 32 (length_digits 10 2 c.args.i) (omega arith) number in
    let head : take 3 xs ≡ before = ap (take 3) spaced ∙ take_at before (drop 3 out) 3 three in
    let back : drop 3 xs ≡ drop 3 out = ap (drop 3) spaced ∙ drop_at before (drop 3 out) 3 three in
    let room : length (take 16 (drop 3 xs)) ≡ 16 = rw back (length-take-le 16 (drop 3 out) (simp length-drop (omega arith))) in
    let shown : c.digits-2.new.out ≡ word = c.digits-2.ensures ∙ ap (λ (k : ℕ). digits 16 k c.args.word) room in
    let full : put_mid 3 16 xs c.digits-2.new.out ≡ (before ++ word) ++ drop 19 out = rw (head, shown, back, drop-drop) (sym (append_assoc before word (drop 19 out))) in
    put-after (before ++ word) out _ 19 10 (simp (length-append, length_digits)) (omega arith) full
    ∙ ap (λ (l : List ℕ). l ++ (10 ∷ []) ++ drop 20 out) (append_snoc front 32 word)
