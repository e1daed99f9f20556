use Rattle.std.proofs.Common.{◌≤◌, length}
use Rattle.test_streams.proofs.spools.cut_in_spools.Given as goal

abbrev pub invariant-loop-packet : goal.invariant-loop-packet
invariant-loop-packet l = length l.cutter.list ≤ l.packet-index
