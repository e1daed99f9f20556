use Rattle.std.proofs.Common.{subst}
use Rattle.flow_core.specs.declared.outcome.Outcome.TheVariants.{Held, Refused, Sealed}
use Rattle.work_desk.specs.Permits.{IsPermitted}
use Rattle.work_desk.proofs.Planning.{both-delivered, knows-claimed}
use Rattle.work_desk.proofs.steps.deliver.Goals as goal

pub deliver_segment-requires-clause-known : goal.deliver_segment-requires-clause-known
deliver_segment-requires-clause-known g c known =
    let may = c.requires.known known in
    knows-claimed g.P.Permit.plans c.queue.inside.inner c.args.claim.plan may.0 c.queue.invariant.1 may.1

pub invariant_of-queue : goal.invariant_of-queue
invariant_of-queue g c =
    both-delivered g.P.Permit.plans g.P.Permit.permits c.deliver_segment.result c.queue.inside.inner c.deliver_segment.new.queue c.args.claim (Sealed c.in-Sealed.segment) c.deliver_segment.ensures.yes c.deliver_segment.ensures.no
    (subst (IsPermitted g.P.Permit.permits) c.in-Sealed.is c.requires.permitted) c.queue.invariant

pub invariant_of-queue-in-Refused : goal.invariant_of-queue-in-Refused
invariant_of-queue-in-Refused g c =
    both-delivered g.P.Permit.plans g.P.Permit.permits c.refuse.result c.queue.inside.inner c.refuse.new.self c.args.claim Refused c.refuse.ensures.yes c.refuse.ensures.no tt c.queue.invariant

pub invariant_of-queue-in-Held : goal.invariant_of-queue-in-Held
invariant_of-queue-in-Held g c =
    both-delivered g.P.Permit.plans g.P.Permit.permits c.hold.result c.queue.inside.inner c.hold.new.self c.args.claim Held c.hold.ensures.yes c.hold.ensures.no tt c.queue.invariant
