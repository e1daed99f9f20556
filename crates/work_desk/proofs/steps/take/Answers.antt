use Rattle.work_desk.proofs.Permitting.{done-left}
use Rattle.work_desk.proofs.Planning.{planned-left}
use Rattle.work_desk.proofs.steps.take.Goals as goal

pub invariant_of-queue-2 : goal.invariant_of-queue-2
invariant_of-queue-2 g c = (
  done-left g.P.Permit.permits c.take.result c.queue.inside.inner c.take.new.self c.take.ensures.first c.take.ensures.none c.queue.invariant.0,
  planned-left g.P.Permit.plans c.take.result c.queue.inside.inner c.take.new.self c.take.ensures.some c.take.ensures.none c.queue.invariant.1,
)
