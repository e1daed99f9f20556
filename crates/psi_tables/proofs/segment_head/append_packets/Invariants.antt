use Rattle.std.proofs.Common.{◌≡◌, ◌+◌, ◌*◌, ◌≤◌, ◌++◌, ◌/◌, false, length, vec_len}
use Rattle.std.specs.Prelude.{vec_capacity}
use Rattle.psi_tables.specs.Head.{packets}
use Rattle.psi_tables.proofs.segment_head.append_packets.Given as goal

abbrev pub invariant-packet : goal.invariant-packet
invariant-packet l = record {
  written : l.bytes.items ++ packets ((length l.rest + 183) / 184) false l.pid l.counter l.rest
      ≡ l.initial.bytes.items ++ packets ((length l.fn.carried + 183) / 184) false l.pid l.fn.counter l.fn.carried;
  below : l.counter + length l.rest ≤ l.fn.counter + length l.fn.carried;
  kept : vec_capacity l.initial.bytes ≤ vec_capacity l.bytes;
  room : vec_len l.bytes + 188 * ((length l.rest + 183) / 184) ≤ vec_capacity l.bytes;
}

abbrev pub decreases-packet : goal.decreases-packet
decreases-packet l = length l.rest
