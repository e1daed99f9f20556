use Rattle.ingest.proofs.Ordered.{plans_of-at}
use Rattle.ingest.proofs.stream_laws.plans_of_bytes_are_in_order.Goals as goal

pub returns : goal.returns
returns c = plans_of-at
