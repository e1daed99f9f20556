use Rattle.std.proofs.Common.{◌≡◌, ◌+◌, ◌≤◌, length}
use Rattle.flow_core.specs.Gatherings.{missing_in}
use Rattle.rounds.specs.Rounds.{Keeps, gathered}
use Rattle.rounds.proofs.round.taking.take_all.Given as goal

abbrev pub invariant-loop : goal.invariant-loop
invariant-loop g l = record {
  keeps : Keeps l.fn.collector l.collector;
  more : l.fn.taker.pass.count ≤ l.taker.pass.count;
  rest : length (missing_in l.collector.sequences) ≤ length (missing_in l.fn.collector.sequences);
  fair : l.taker.right + gathered l.fn.collector.sequences ≡ l.fn.taker.right + gathered l.collector.sequences;
}
