use Rattle.pes_time.proofs.Keeping.{IsTied-none}
use Rattle.pes_time.proofs.clock.Clock.new.Goals as goal

pub invariant_of-result : goal.invariant_of-result
invariant_of-result c = IsTied-none c.args.gap c.new.result c.new.ensures
