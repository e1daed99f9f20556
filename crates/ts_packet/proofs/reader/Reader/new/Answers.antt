use Rattle.std.proofs.Common.{arith}
use Rattle.ts_packet.proofs.Feeding.{Keeps-none}
use Rattle.ts_packet.proofs.reader.Reader.new.Goals as goal

pub invariant_of-result : goal.invariant_of-result
invariant_of-result c = rw c.new-2.ensures (Keeps-none c.new.result.items c.new.ensures, omega arith)
