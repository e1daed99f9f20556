use Rattle.rounds.proofs.Collecting.{keeps-segment, gathered-segment, missing-segment}
use Rattle.rounds.proofs.round.sealing.collect.Goals as goal

pub returns-clause-keeps : goal.returns-clause-keeps
returns-clause-keeps g c = keeps-segment _ _ c.args.sealed c.in-Ok.ensures.right c.in-Ok.ensures.ok

pub returns-clause-right : goal.returns-clause-right
returns-clause-right g c told = gathered-segment _ _ c.args.sealed c.in-Ok.ensures.right c.in-Ok.ensures.ok

pub returns-clause-fewer : goal.returns-clause-fewer
returns-clause-fewer g c told = missing-segment _ _ c.args.sealed c.in-Ok.ensures.right c.in-Ok.ensures.ok
