use Rattle.std.proofs.Common.{◌*◌, take}
use Rattle.psi_tables.specs.Crc.{dividend}
use Rattle.psi_tables.proofs.Division.{Divided}
use Rattle.psi_tables.proofs.crc.crc_32.Given as goal

abbrev pub invariant-loop-byte : goal.invariant-loop-byte
invariant-loop-byte l = Divided (8 * l.byte-index) (dividend (take l.byte-index l.bytes)) l.register
