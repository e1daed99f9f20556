use Rattle.rounds.proofs.Permitting.{next-some}
use Rattle.rounds.proofs.Planned.{both-passed}
use Rattle.rounds.proofs.round.permitted_collector.PermittedCollector.next.Goals as goal

pub returns-clause-permitted : goal.returns-clause-permitted
returns-clause-permitted g c = next-some g.P.Permit.permits c.self.inside.inner c.args.rendition c.next.result c.next.ensures.first c.self.invariant.0

pub invariant_of-self : goal.invariant_of-self
invariant_of-self g c =
    both-passed g.P.Permit.plans g.P.Permit.permits c.next.result c.self.inside.inner c.next.new.self c.args.rendition c.next.ensures.some c.next.ensures.none c.self.invariant
