use Rattle.work_desk.proofs.Planning.{both-claimed}
use Rattle.work_desk.proofs.steps.claim.Goals as goal

pub invariant_of-queue-2 : goal.invariant_of-queue-2
invariant_of-queue-2 g c = both-claimed g.P.Permit.plans g.P.Permit.permits c.claim.result c.queue.inside.inner c.claim.new.self c.claim.ensures.some c.claim.ensures.none c.queue.invariant
