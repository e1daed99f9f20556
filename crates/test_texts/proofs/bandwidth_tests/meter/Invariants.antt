use Rattle.std.proofs.Common.{◌≤◌, length}
use Rattle.test_texts.proofs.bandwidth_tests.meter.Given as goal

abbrev pub invariant-loop-size : goal.invariant-loop-size
invariant-loop-size l = length l.meter.spans ≤ l.size-index
