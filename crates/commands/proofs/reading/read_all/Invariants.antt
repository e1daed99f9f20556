use Rattle.std.proofs.Common.{◌≡◌, ◌+◌, ◌<◌, length}
use Rattle.std.specs.Io.KnownBytes.{Consumes}
use Rattle.commands.proofs.reading.read_all.Given as goal

abbrev pub invariant-loop : goal.invariant-loop
invariant-loop g l = record {
  read : Consumes (g.S.Source.input.left l.initial.input) (g.S.Source.input.left l.input) l.bytes.items;
  reads : g.S.Source.input.reads l.input ≡ g.S.Source.input.reads l.initial.input + l.counter;
  some : 0 < length l.bytes.items → 0 < l.counter;
  unfailed : g.S.Source.input.failures l.input ≡ g.S.Source.input.failures l.initial.input;
}
