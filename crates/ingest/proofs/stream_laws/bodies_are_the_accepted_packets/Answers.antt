use Rattle.ts_packet.specs.Packets.{packets}
use Rattle.ingest.specs.Streams.{plans_of, fault_of}
use Rattle.ingest.proofs.Splitting.{whole, front}
use Rattle.ingest.proofs.stream_laws.bodies_are_the_accepted_packets.Goals as goal

pub returns : goal.returns
unfolding plans_of fault_of
returns c = record { whole = λ r s stream e. whole r s (packets stream) e; begin = λ r s stream given f. front r s (packets stream) given f }
