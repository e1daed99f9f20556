use Rattle.resume.proofs.Evening.{even-beside}
use Rattle.resume.proofs.laws.renditions_go_on_evenly.Goals as goal

pub returns : goal.returns
returns c = even-beside
