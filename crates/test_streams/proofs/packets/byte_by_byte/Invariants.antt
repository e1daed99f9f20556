use Rattle.std.proofs.Common.{◌≡◌, length}
use Rattle.test_streams.proofs.packets.byte_by_byte.Given as goal

abbrev pub invariant-loop-byte : goal.invariant-loop-byte
invariant-loop-byte l = length l.reader ≡ l.byte-index
