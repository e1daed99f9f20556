use Rattle.psi_tables.specs.Crc.{crc, dividend}
use Rattle.psi_tables.proofs.Division.{one_remainder}
use Rattle.psi_tables.proofs.Messages.{crc_divides}
use Rattle.psi_tables.proofs.laws.crc_is_the_remainder.Goals as goal

pub returns-clause-is : goal.returns-clause-is
returns-clause-is c = λ m bytes. crc_divides m bytes

pub returns-clause-only : goal.returns-clause-only
returns-clause-only c = λ m r bytes is. one_remainder (dividend m) r (crc m) is (crc_divides m bytes)
