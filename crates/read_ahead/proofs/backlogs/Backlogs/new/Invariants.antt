use Rattle.std.proofs.Common.{◌≡◌, length}
use Rattle.read_ahead.proofs.backlogs.Backlogs.new.Given as goal

abbrev pub invariant-loop : goal.invariant-loop
invariant-loop g l = length l.taken.items ≡ l.counter
