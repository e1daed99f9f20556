use Rattle.ingest.proofs.CutBytes.{of-stream}
use Rattle.ingest.proofs.stream_laws.plans_of_bytes_can_be_sealed.Goals as goal

pub returns : goal.returns
returns c r s stream bytes = of-stream c.tables_in_force_are_good.ensures c.packets_are_at_their_positions.ensures.are r s stream bytes
