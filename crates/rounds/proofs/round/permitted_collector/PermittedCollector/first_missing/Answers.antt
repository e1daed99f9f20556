use Rattle.cutter.specs.Lent.{lent}
use Rattle.rounds.proofs.Planned.{missing-planned}
use Rattle.rounds.proofs.round.permitted_collector.PermittedCollector.first_missing.Goals as goal

pub returns-clause-planned : goal.returns-clause-planned
returns-clause-planned g c = missing-planned g.P.Permit.plans lent c.self.inside.inner c.first_missing.result c.first_missing.ensures.some c.self.invariant.1
