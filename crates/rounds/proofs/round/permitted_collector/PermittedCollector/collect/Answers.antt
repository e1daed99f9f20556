use Rattle.rounds.proofs.Planned.{both-collected, knows-plan}
use Rattle.rounds.proofs.round.permitted_collector.PermittedCollector.collect.Goals as goal

pub collect_known-requires : goal.collect_known-requires
collect_known-requires g c = record {
  known = knows-plan g.P.Permit.plans c.self.inside.inner c.args.segment.plan.rendition c.args.segment.plan c.self.invariant.2 c.self.invariant.1 c.requires.planned;
}

pub invariant_of-self : goal.invariant_of-self
invariant_of-self g c =
    both-collected g.P.Permit.plans g.P.Permit.permits c.collect_known.result c.self.inside.inner c.collect_known.new.self c.args.segment.plan.rendition c.args.segment
    c.requires.permitted c.requires.planned c.collect_known.ensures.ok c.collect_known.ensures.err c.self.invariant
