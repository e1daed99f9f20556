use Rattle.std.proofs.Common.{◌∙◌}
use Rattle.read_ahead.proofs.incoming.Incoming.readiness.Goals as goal

pub returns-then-is_ready_soon-clause-phase : goal.returns-then-is_ready_soon-clause-phase
returns-then-is_ready_soon-clause-phase g c = λ kept. c.is_ready_soon.ensures.phase ∙ c.is_open.ensures.kept kept
