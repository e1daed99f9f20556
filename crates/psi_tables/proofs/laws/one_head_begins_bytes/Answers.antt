use Rattle.psi_tables.proofs.Heads.{heads-tell}
use Rattle.psi_tables.proofs.laws.one_head_begins_bytes.Goals as goal

pub returns : goal.returns
returns c = heads-tell
