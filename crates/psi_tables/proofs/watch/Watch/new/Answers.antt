use Rattle.psi_tables.proofs.Watching.{Watches-none}
use Rattle.psi_tables.proofs.watch.Watch.new.Goals as goal

pub invariant_of-result : goal.invariant_of-result
invariant_of-result c = Watches-none c.args.program _ _ c.new.ensures c.new-2.ensures
