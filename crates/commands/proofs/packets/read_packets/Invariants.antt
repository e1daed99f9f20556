use Rattle.std.proofs.Common.{◌≡◌, ◌+◌, ◌*◌, ◌≤◌, length}
use Rattle.std.specs.Io.KnownBytes.{Consumes}
use Rattle.ts_packet.specs.Packets.{decided}
use Rattle.commands.proofs.packets.read_packets.Given as goal

abbrev pub invariant-loop : goal.invariant-loop
invariant-loop g l = record {
  read : Consumes (g.S.Source.input.left l.initial.input) (g.S.Source.input.left l.input) l.reader;
  given : l.packets.items ≡ decided l.reader;
  few : length l.reader ≤ 18800 * l.counter;
  reads : g.S.Source.input.reads l.input ≡ g.S.Source.input.reads l.initial.input + l.counter;
  unfailed : g.S.Source.input.failures l.input ≡ g.S.Source.input.failures l.initial.input;
}
