-- A byte that stands for no step leaves the block. Assumes nothing.
use mathlib.Core.Path.{◌≡◌, refl}
use mathlib.Core.Bool.{true≢false, false}
use mathlib.Core.List.{List}
use Prim.Native.Nat.{ℕ, zero, suc}
use Rattle.walking.specs.Walking.{step, is_step}
use Rattle.walking.proofs.steps.take_one.Goals as goal

stay : (k : ℕ) (b : List ℕ) → is_step k ≡ false → b ≡ step k b
unfolding step is_step
stay zero b h = refl
stay (suc zero) b h = absurd (true≢false h)
stay (suc (suc zero)) b h = absurd (true≢false h)
stay (suc (suc (suc zero))) b h = absurd (true≢false h)
stay (suc (suc (suc (suc zero)))) b h = absurd (true≢false h)
stay (suc (suc (suc (suc (suc zero))))) b h = absurd (true≢false h)
stay (suc (suc (suc (suc (suc (suc zero)))))) b h = absurd (true≢false h)
stay (suc (suc (suc (suc (suc (suc (suc k))))))) b h = refl

pub returns-in-Err : goal.returns-in-Err
returns-in-Err c = stay c.args.kind c.args.b c.in-Err.ensures.1
