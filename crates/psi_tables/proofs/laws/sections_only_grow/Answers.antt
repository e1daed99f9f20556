use Rattle.psi_tables.proofs.Keeping.{sections-append}
use Rattle.psi_tables.proofs.laws.sections_only_grow.Goals as goal

pub returns : goal.returns
returns c = sections-append
