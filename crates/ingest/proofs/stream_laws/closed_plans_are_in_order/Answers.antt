use Rattle.ingest.proofs.Ordered.{made_of-at}
use Rattle.ingest.proofs.stream_laws.closed_plans_are_in_order.Goals as goal

pub returns : goal.returns
returns c = made_of-at
