use Rattle.psi_tables.proofs.Heads.{length-head}
use Rattle.psi_tables.proofs.laws.length_of_a_head.Goals as goal

pub returns : goal.returns
returns c = length-head
