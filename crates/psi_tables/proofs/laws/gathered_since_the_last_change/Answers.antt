use Rattle.psi_tables.proofs.Changes.{since_change-is}
use Rattle.psi_tables.proofs.laws.gathered_since_the_last_change.Goals as goal

pub returns : goal.returns
returns c = since_change-is
