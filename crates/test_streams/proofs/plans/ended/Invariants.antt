use Rattle.std.proofs.Common.{◌≤◌, length}
use Rattle.test_streams.proofs.plans.ended.Given as goal

abbrev pub invariant-loop-packet : goal.invariant-loop-packet
invariant-loop-packet l = length l.cutter.list ≤ l.packet-index
