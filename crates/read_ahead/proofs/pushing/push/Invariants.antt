use Rattle.std.proofs.Common.{◌≡◌}
use Rattle.rtrb.specs.Ring.{sent}
use Rattle.read_ahead.proofs.pushing.push.Given as goal

abbrev pub invariant-loop : goal.invariant-loop
invariant-loop g l = (sent l.producer ≡ sent l.initial.producer) × (l.message ≡ l.initial.message)
