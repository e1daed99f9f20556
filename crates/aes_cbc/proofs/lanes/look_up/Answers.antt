use Rattle.aes_cbc.proofs.LookUps.{places_ok, looked_up}
use Rattle.aes_cbc.proofs.lanes.look_up.Goals as goal

pub swizzle : goal.swizzle
swizzle c = places_ok c.args.places c.fits-places.0 c.requires

pub returns : goal.returns
returns c = looked_up c.args.table.now c.args.places c.fits-places.0 c.requires
