use Rattle.std.proofs.Common.{◌++◌, length-append, arith}
use Rattle.std.proofs.lemmas.Simd.{pick_l_whole}
use Rattle.aes_cbc.proofs.PairSums.{are_pair}
use Rattle.aes_cbc.proofs.pairs.joined.Goals as goal

pub returns : goal.returns
returns c =
    let a = c.args.first in
    let b = c.args.second in
    are_pair _ a b c.fits-first.0 (pick_l_whole 0 (a ++ b) 32 (omega (arith, length-append a b, c.fits-first.0, c.fits-second.0)))
