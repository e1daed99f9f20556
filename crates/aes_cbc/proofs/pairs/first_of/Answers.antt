use Rattle.std.proofs.Common.{◌∙◌, arith}
use Rattle.std.proofs.lemmas.Simd.{pick_l_left, pick_l-range_with_len}
use Rattle.std.specs.List.{range_with_len}
use Rattle.aes_cbc.proofs.pairs.first_of.Goals as goal

pub returns : goal.returns
returns c =
    let x = c.args.both in
    pick_l_left 0 x x 32 (range_with_len 0 16) c.fits-both.0 tt ∙ pick_l-range_with_len 0 x 0 16 (omega (arith, c.fits-both.0))
