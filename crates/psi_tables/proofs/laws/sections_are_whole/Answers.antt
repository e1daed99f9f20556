use Rattle.psi_tables.proofs.Whole.{sections-are}
use Rattle.psi_tables.proofs.laws.sections_are_whole.Goals as goal

pub returns : goal.returns
returns c = sections-are
