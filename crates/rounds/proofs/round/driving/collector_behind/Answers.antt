use Rattle.std.proofs.Common.{sym, subst}
use Rattle.flow_core.specs.Gatherings.{Gathering}
use Rattle.rounds.specs.Permitted.{HoldsPermitted, HoldsPlanned}
use Rattle.rounds.proofs.Permitting.{holds-none}
use Rattle.rounds.proofs.Planned.{planned-none}
use Rattle.rounds.proofs.round.driving.collector_behind.Goals as goal

pub over-requires-clause-permitted : goal.over-requires-clause-permitted
over-requires-clause-permitted g c =
    subst (λ (x : Gathering). HoldsPermitted g.P.Permit.permits x.sequences) (sym c.in_ok-collector.ensures.ok)
    (holds-none g.P.Permit.permits 0 c.in_ok-keys.keys.items c.in_ok-starts.starts.items)

pub over-requires-clause-planned : goal.over-requires-clause-planned
over-requires-clause-planned g c =
    subst (λ (x : Gathering). HoldsPlanned g.P.Permit.plans x.sequences) (sym c.in_ok-collector.ensures.ok)
    (planned-none g.P.Permit.plans 0 c.in_ok-keys.keys.items c.in_ok-starts.starts.items)
