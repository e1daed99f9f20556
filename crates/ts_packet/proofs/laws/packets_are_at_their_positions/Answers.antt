use Rattle.ts_packet.proofs.Positions.{packets-ArePackets, ArePackets-once}
use Rattle.ts_packet.proofs.laws.packets_are_at_their_positions.Goals as goal

pub returns-clause-are : goal.returns-clause-are
returns-clause-are c = packets-ArePackets

pub returns-clause-only : goal.returns-clause-only
returns-clause-only c = ArePackets-once
