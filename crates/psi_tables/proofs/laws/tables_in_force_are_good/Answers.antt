use Rattle.psi_tables.proofs.Good.{AreGood-before, are_good}
use Rattle.psi_tables.specs.InForce.{tables_before}
use Rattle.psi_tables.proofs.laws.tables_in_force_are_good.Goals as goal

pub returns : goal.returns
returns c = λ wanted packets i tables is. are_good (tables_before wanted packets i) tables is (AreGood-before wanted packets i)
