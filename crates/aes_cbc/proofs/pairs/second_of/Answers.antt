use Rattle.std.proofs.Common.{drop, length-drop, ◌∙◌, arith}
use Rattle.std.proofs.lemmas.List.{take_all}
use Rattle.std.proofs.lemmas.Simd.{pick_l_left, pick_l-range_with_len}
use Rattle.std.specs.List.{range_with_len}
use Rattle.aes_cbc.proofs.pairs.second_of.Goals as goal

pub returns : goal.returns
returns c =
    let x = c.args.both in
    pick_l_left 0 x x 32 (range_with_len 16 16) c.fits-both.0 tt ∙ pick_l-range_with_len 0 x 16 16 (omega (arith, c.fits-both.0))
    ∙ take_all 16 (drop 16 x) (omega (arith, length-drop 16 x, c.fits-both.0))
