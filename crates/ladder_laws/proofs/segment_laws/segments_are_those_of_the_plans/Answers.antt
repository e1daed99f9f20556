use Rattle.ladder_laws.proofs.FrameListing.{segments-are}
use Rattle.ladder_laws.proofs.segment_laws.segments_are_those_of_the_plans.Goals as goal

pub returns : goal.returns
returns c ladder parts items r w = segments-are ladder parts items r w
