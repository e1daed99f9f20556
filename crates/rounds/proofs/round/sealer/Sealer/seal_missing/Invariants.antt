use Rattle.std.proofs.Common.{◌≤◌, length}
use Rattle.flow_core.specs.Gatherings.{missing_in}
use Rattle.rounds.specs.Rounds.{Keeps, gathered}
use Rattle.rounds.proofs.round.sealer.Sealer.seal_missing.Given as goal

abbrev pub invariant-loop-plan : goal.invariant-loop-plan
invariant-loop-plan g l = record {
  keeps : Keeps l.fn.collector l.collector;
  more : gathered l.fn.collector.sequences ≤ gathered l.collector.sequences;
}

abbrev pub decreases-loop-plan : goal.decreases-loop-plan
decreases-loop-plan g l = length (missing_in l.collector.sequences)
