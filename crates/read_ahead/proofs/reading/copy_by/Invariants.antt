use Rattle.std.proofs.Common.{◌<◌, length}
use Rattle.rtrb.specs.Ring.{sent}
use Rattle.read_ahead.specs.Messages.{Tells}
use Rattle.read_ahead.proofs.reading.copy_by.Given as goal

abbrev pub invariant-loop : goal.invariant-loop
invariant-loop g l = (0 < length l.buffer.items) × Tells g.I.Contents.holds (sent l.sender.producer) (g.I.Reader.Read.remaining l.reader)
