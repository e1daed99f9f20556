use Rattle.std.proofs.Common.{◌≡◌, length, map}
use Rattle.read_ahead.specs.Counts.{shown, standing}
use Rattle.read_ahead.proofs.counts.Counts.states.Given as goal

abbrev pub invariant-loop-number : goal.invariant-loop-number
invariant-loop-number l = record {
  shows : map shown l.states.items ≡ standing l.now.at l.self.backlogs.items l.self.since.items l.number;
  each : length l.states.items ≡ l.number;
}
