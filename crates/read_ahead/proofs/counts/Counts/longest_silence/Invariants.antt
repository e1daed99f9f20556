use Rattle.std.proofs.Common.{◌≡◌}
use Rattle.std.specs.Duration.{as_nanos}
use Rattle.read_ahead.specs.Sources.{longest_silence}
use Rattle.read_ahead.proofs.counts.Counts.longest_silence.Given as goal

abbrev pub invariant-loop-number : goal.invariant-loop-number
invariant-loop-number l = as_nanos l.longest ≡ longest_silence l.now.at l.self.backlogs.items l.self.since.items l.number
