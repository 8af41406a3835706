-- Four stores, each to the part behind the one before. Assumes nothing.
use mathlib.Core.Path.{refl}
use Rattle.words.specs.Block.{bytes_of}
use Rattle.words.proofs.Blocks.{length-bytes_of}
use Rattle.quads.specs.Quads.{nth}
use Rattle.quads.proofs.Laws.{four-stored}
use Rattle.quads.proofs.bytes.store4.Goals as goal

pub returns : goal.returns
unfolding nth
returns c =
    let a = c.args in
    four-stored (λ m. bytes_of (nth a.f m)) a.out.now _ _ _ _ _ _ _ (λ m. length-bytes_of (nth a.f m)) c.requires
    c.store.ensures c.store-2.ensures refl c.store-3.ensures refl c.store-4.ensures refl
