use Rattle.hls_check.proofs.Bodies.{bodies-unpack}
use Rattle.hls_check.proofs.laws.segments_unpack_to_their_bodies.Goals as goal

pub returns : goal.returns
returns c = bodies-unpack
