use Rattle.aes_cbc.proofs.LookUps.{lanes_bytes}
use Rattle.aes_cbc.proofs.LaneSums.{sub_byte_lanes}
use Rattle.aes_cbc.proofs.sbox.sub_bytes.Goals as goal

pub returns : goal.returns
returns c =
    sub_byte_lanes c.args.bytes _ c.fits-bytes.0
    (c.last_substituted.ensures c.args.bytes (lanes_bytes c.args.bytes c.fits-bytes.1) c.into_tower.ensures)
