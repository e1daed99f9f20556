use Rattle.std.proofs.Common.{◌≤◌, ◌+◌, ◌-◌, ◌/◌, length, drop, vec_len, vec_capacity}
use Rattle.ts_packet.specs.State.{Scans}
use Rattle.ts_packet.proofs.scan.scan.Given as goal

abbrev pub invariant-loop-at : goal.invariant-loop-at
invariant-loop-at l = record {
  within : l.at ≤ length l.bytes;
  counted : l.passed ≤ l.at;
  room : vec_len l.out + (length l.bytes - l.at) / 188 ≤ vec_capacity l.out;
  kept : vec_capacity l.initial.out ≤ vec_capacity l.out;
  scans : Scans l.at_end l.was_locked l.bytes l.initial.out.items l.out.items l.locked (drop l.at l.bytes) l.passed;
}

abbrev pub decreases-loop-at : goal.decreases-loop-at
decreases-loop-at l = length l.bytes - l.at
