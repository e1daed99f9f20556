use Rattle.std.proofs.Common.{◌≤◌, length}
use Rattle.fixture_refused_memory.proofs.cutting.push_all.Given as goal

abbrev pub invariant-loop-packet : goal.invariant-loop-packet
invariant-loop-packet l = length l.cutter.list ≤ l.packet-index
