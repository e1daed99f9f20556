use Rattle.std.proofs.Common.{◌≤◌, ◌*◌, ◌-◌, [], false, true, length, take, drop}
use Rattle.ts_packet.specs.State.{Scans}
use Rattle.ts_packet.proofs.scan.packets_ahead.Given as goal

abbrev pub invariant-loop-count : goal.invariant-loop-count
invariant-loop-count l = record {
  within : l.count ≤ length l.packets;
  scans : Scans false true l.fn.bytes [] (take l.count l.packets) true (drop (188 * l.count) l.fn.bytes) 0;
}

abbrev pub decreases-loop-count : goal.decreases-loop-count
decreases-loop-count l = length l.packets - l.count
