use Rattle.aes_cbc.proofs.LaneSums.{keyed_lanes}
use Rattle.aes_cbc.proofs.sbox.keyed.Goals as goal

pub returns : goal.returns
returns c = keyed_lanes c.args.key _ c.fits-key.0 c.into_tower.ensures
