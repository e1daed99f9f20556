use Rattle.std.proofs.Common.{◌≡◌}
use Rattle.read_ahead.proofs.waiting.wait_ready.Given as goal

abbrev pub invariant-loop : goal.invariant-loop
invariant-loop g l = l.sources ≡ l.initial.sources
