-- G over groups of which no two have a word in common gives the same block in any order. Assumes nothing.
use Rattle.std.proofs.Common.{◌≡◌, ℕ, Bool, true, not, ◌&&◌, eqb, List, [], ◌∷◌, ◌++◌, get_or, sym, refl, ap, ◌∙◌, eq-eqb}
use mathlib.Core.Bool.{false≢true}
use Rattle.words.proofs.Truth.{both, all_below, carried}
use Rattle.permutation.specs.Permutation.{g_of, g_at, over, columns, diagonals, groups, round}
use Rattle.permutation.specs.Order.{Arrangement, Apart, GroupOrder}
use Rattle.permutation.specs.Order.Arrangement.{empty, insert}
use Rattle.permutation.proofs.Groups.{Each}
use Rattle.permutation.proofs.Apart.{step-comm}

either : (row other : List ℕ) → Apart row other → (s : List ℕ) → g_at other (g_at row s) ≡ g_at row (g_at other s)
unfolding g_at
either row other a s = step-comm g_of g_of row other a s

-- ---- what holds of each row, in another order

module _ (P : List ℕ → Type 0) where
  each-front : (front back : List (List ℕ)) → Each P (front ++ back) → Each P front
  each-front [] back e = tt
  each-front (row ∷ front) back e = (e.0, each-front front back e.1)

  each-insert : (row : List ℕ) (front back : List (List ℕ)) → P row → Each P (front ++ back) → Each P (front ++ (row ∷ back))
  each-insert row [] back p e = (p, e)
  each-insert row (other ∷ front) back p e = (e.0, each-insert row front back p e.1)

  each-arranged : {rows others : List (List ℕ)} → Arrangement rows others → Each P rows → Each P others
  each-arranged empty e = tt
  each-arranged (insert row rest front back a) e = each-insert row front back e.0 (each-arranged a e.1)

-- ---- G over groups in another order

over-append : (rows more : List (List ℕ)) (s : List ℕ) → over (rows ++ more) s ≡ over more (over rows s)
unfolding over
over-append [] more s = refl
over-append (row ∷ rows) more s = over-append rows more (g_at row s)

-- G over a row apart from each of the others may come before them or after
over-past : (row : List ℕ) (others : List (List ℕ)) → Each (Apart row) others → (s : List ℕ) → over others (g_at row s) ≡ g_at row (over others s)
unfolding over
over-past row [] e s = refl
over-past row (other ∷ others) e s = ap (over others) (either row other e.0 s) ∙ over-past row others e.1 (g_at other s)

-- no two rows have a word in common
abbrev AllApart : List (List ℕ) → Type 0
AllApart [] = Unit
AllApart (row ∷ rows) = Each (Apart row) rows × AllApart rows

over-arranged : {rows others : List (List ℕ)} → Arrangement rows others → AllApart rows → (s : List ℕ) → over others s ≡ over rows s
unfolding over
over-arranged empty a s = refl
over-arranged (insert row rest front back p) a s =
    over-append front (row ∷ back) s
    ∙ ap (over back) (sym (over-past row front (each-front (Apart row) front back (each-arranged (Apart row) p a.0)) s))
    ∙ sym (over-append front back (g_at row s)) ∙ over-arranged p a.1 (g_at row s)

-- ---- the test of it, computed for a list of groups

unfoldable differ : List ℕ → List ℕ → ℕ → ℕ → Bool
differ row other i j = not (eqb (get_or row i 0) (get_or other j 0))

unfoldable apart : List ℕ → List ℕ → Bool
apart row other = all_below (λ i. all_below (differ row other i) 4) 4

unfoldable apart_from : List ℕ → List (List ℕ) → Bool
apart_from row [] = true
apart_from row (other ∷ others) = apart row other && apart_from row others

unfoldable all_apart : List (List ℕ) → Bool
all_apart [] = true
all_apart (row ∷ rows) = apart_from row rows && all_apart rows

apart-true : (row other : List ℕ) → apart row other ≡ true → Apart row other
unfolding differ apart Apart
apart-true row other e i j hi hj q =
    let t = carried (differ row other i) 4 (carried (λ k. all_below (differ row other k) 4) 4 e i hi) j hj in
    false≢true (sym (ap not (eq-eqb (get_or row i 0) (get_or other j 0) q)) ∙ t)

apart_from-true : (row : List ℕ) (others : List (List ℕ)) → apart_from row others ≡ true → Each (Apart row) others
unfolding apart_from
apart_from-true row [] e = tt
apart_from-true row (other ∷ others) e =
    let t = both (apart row other) (apart_from row others) e in
    (apart-true row other t.0, apart_from-true row others t.1)

all_apart-true : (rows : List (List ℕ)) → all_apart rows ≡ true → AllApart rows
unfolding all_apart
all_apart-true [] e = tt
all_apart-true (row ∷ rows) e =
    let t = both (apart_from row rows) (all_apart rows) e in
    (apart_from-true row rows t.0, all_apart-true rows t.1)

any_order : {rows others : List (List ℕ)} → Arrangement rows others → all_apart rows ≡ true → (s : List ℕ) → over others s ≡ over rows s
any_order {rows} a e s = over-arranged a (all_apart-true rows e) s

-- two such lists, one after the other
both-orders : {rows more first then : List (List ℕ)} → Arrangement rows first → Arrangement more then
    → all_apart rows ≡ true → all_apart more ≡ true → (s : List ℕ) → over (first ++ then) s ≡ over (rows ++ more) s
both-orders {rows} {more} {first} {then} a b e f s =
    over-append first then s ∙ any_order b f (over first s) ∙ ap (over more) (any_order a e s) ∙ sym (over-append rows more s)

-- ---- the columns, the diagonals, the round

pub group-order : GroupOrder
unfolding round groups columns diagonals all_apart apart_from apart differ all_below
group-order = record {
  either = either;
  column-order = λ rows a s. any_order a refl s;
  diagonal-order = λ rows a s. any_order a refl s;
  round-order = λ first then a b s. both-orders a b refl refl s;
}
