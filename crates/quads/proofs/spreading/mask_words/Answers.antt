-- One word of each lane. Assumes nothing.
use Rattle.quads.proofs.Masking.{words-masked}
use Rattle.quads.proofs.spreading.mask_words.Goals as goal

pub returns : goal.returns
returns c =
    words-masked _ c.args.n c.args.i _ _ _ _ _ c.told-w c.requires.1
    c.mask_lane_word.ensures c.mask_lane_word-2.ensures c.mask_lane_word-3.ensures c.mask_lane_word-4.ensures
