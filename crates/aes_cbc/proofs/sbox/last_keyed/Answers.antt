use Rattle.aes_cbc.proofs.LaneSums.{last_keyed_lanes}
use Rattle.aes_cbc.proofs.sbox.last_keyed.Goals as goal

pub returns : goal.returns
returns c = last_keyed_lanes c.args.key c.fits-key.0
