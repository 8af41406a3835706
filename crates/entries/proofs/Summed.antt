-- The cash summed up along the sales. Assumes nothing.
use mathlib.Core.Path.{◌≡◌, refl, ap, ◌∙◌}
use mathlib.Core.Bool.{true, false}
use mathlib.Core.List.{List, map}
use lib.ListN.{length}
use Prim.Native.Nat.{ℕ, ◌+◌, ◌*◌, ◌^◌, ◌≤◌, ◌<◌}
use native.Mathlib.Omega.{arith}
use Rattle.std.specs.Prelude.{Ok, Err}
use Rattle.answers.specs.Refusals.{refusal}
use Rattle.answers.specs.Answers.{Answer, clear, line_at, judged}
use Rattle.answers.specs.declared.Ground.TheVariants.{TagDiffers}
use Rattle.cells.specs.Chains.{some, first}
use Rattle.cells.specs.Cells.{cells, first_sale, next_of, sales, formed}
use Rattle.cells.proofs.Along.{Along, Onward, along-start, along-end, along-on}
use Rattle.sales.specs.Sale.{cash_of}
use Rattle.entries.specs.Entries.{opens_at, shut_at, sale_at, sales_in, cash}

module _ (key s : List ℕ) where
  -- what total answers after its first checks
  unfoldable pub summed : Answer
  summed = judged (line_at (some (shut_at key s) (sales s)) TagDiffers (first (shut_at key s) (sales s)) clear) (Ok (cash (sales_in key s)))

  -- the sum stands at an index: it holds the cash of the cells passed, all of which open, and has room for those left
  pub record Summing (sum at : ℕ) : Type 0 where
    pub rest : List ℕ
    pub along : Along s at rest
    pub sum_is : cash (sales_in key s) ≡ sum + cash (map (sale_at key s) rest)
    pub some_is : some (shut_at key s) (sales s) ≡ some (shut_at key s) rest
    pub first-is : first (shut_at key s) (sales s) ≡ first (shut_at key s) rest
    pub room : sum + 2 ^ 32 * length rest ≤ 2 ^ 32 * cells s

  pub sum-start : formed s ≡ true → Summing 0 (first_sale s)
  unfolding sales_in
  sum-start e = record { rest = sales s; along = along-start s e; sum_is = omega arith; some_is = refl; first-is = refl; room = omega (arith, (along-start s e).most) }

  module _ (sum at : ℕ) (k : Summing sum at) where
    pub sum-end : at ≡ 0 → Ok sum ≡ summed
    unfolding summed line_at judged some cash
    sum-end z =
        let e = along-end s at k.rest k.along z in
        let none : some (shut_at key s) (sales s) ≡ false = k.some_is ∙ ap (some (shut_at key s)) e in
        let all : cash (sales_in key s) ≡ sum = k.sum_is ∙ ap (λ (l : List ℕ). sum + cash (map (sale_at key s) l)) e ∙ omega arith in
        rw (none, all)

    pub sum-onward : (at ≡ 0 → ⊥) → Onward s at k.rest
    sum-onward z = along-on s at k.rest k.along z

    module _ (z : at ≡ 0 → ⊥) where
      pub sum-shut : opens_at key s at ≡ false → Err (refusal TagDiffers at) ≡ summed
      unfolding summed line_at judged some first shut_at
      sum-shut o =
          let e = (sum-onward z).split in
          let found : some (shut_at key s) (sales s) ≡ true = k.some_is ∙ ap (some (shut_at key s)) e ∙ rw o in
          let here : first (shut_at key s) (sales s) ≡ at = k.first-is ∙ ap (first (shut_at key s)) e ∙ rw o in
          rw (found, here)

      pub sum-on : (v : ℕ) → opens_at key s at ≡ true → v ≡ cash_of (sale_at key s at) → v < 2 ^ 32 → Summing (sum + v) (next_of s at)
      unfolding some first shut_at cash
      sum-on v o e h =
          let n = sum-onward z in
          record {
            rest = n.behind;
            along = n.on;
            sum_is = k.sum_is ∙ ap (λ (l : List ℕ). sum + cash (map (sale_at key s) l)) n.split ∙ rw (← e) (omega arith);
            some_is = k.some_is ∙ ap (some (shut_at key s)) n.split ∙ rw o;
            first-is = k.first-is ∙ ap (first (shut_at key s)) n.split ∙ rw o;
            room = omega (arith, k.room, ap length n.split);
          }
