use Rattle.psi_tables.proofs.Keeping.{Keeps-none}
use Rattle.psi_tables.proofs.assembler.Assembler.new.Goals as goal

pub invariant_of-result : goal.invariant_of-result
invariant_of-result c = Keeps-none c.args.pid _ _ c.new-2.ensures c.new.ensures.items
