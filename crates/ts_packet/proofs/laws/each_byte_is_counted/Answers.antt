use Rattle.ts_packet.proofs.Front.{skipped-packets}
use Rattle.ts_packet.proofs.laws.each_byte_is_counted.Goals as goal

pub returns : goal.returns
returns c = skipped-packets
