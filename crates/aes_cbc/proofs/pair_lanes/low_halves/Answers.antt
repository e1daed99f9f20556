use Rattle.std.proofs.Common.{map, bit_and, ◌∙◌}
use Rattle.std.proofs.lemmas.Nat.{and_mask}
use Rattle.std.proofs.lemmas.Simd.{zip2_splat}
use Rattle.aes_cbc.proofs.pair_lanes.low_halves.Goals as goal

pub returns : goal.returns
returns c = zip2_splat bit_and c.args.bytes 32 15 c.fits-bytes.0 ∙ (λ i. map (λ x. and_mask x 4 i) c.args.bytes)
