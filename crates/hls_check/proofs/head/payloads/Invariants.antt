use Rattle.std.proofs.Common.{◌≡◌, ◌-◌, ◌*◌, ◌≤◌, ◌++◌, length}
use Rattle.hls_check.specs.Heads.{payloads}
use Rattle.hls_check.proofs.head.payloads.Given as goal

abbrev pub invariant-packet : goal.invariant-packet
invariant-packet l = record {
  carried : l.carried.items ++ payloads (l.count - l.counter) l.rest ≡ payloads l.count l.packets;
  there : 188 * (l.count - l.counter) ≤ length l.rest;
}
