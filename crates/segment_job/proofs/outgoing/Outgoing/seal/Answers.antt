use Rattle.segment_job.proofs.IntoFiles.{outgoing_seals}
use Rattle.segment_job.proofs.outgoing.Outgoing.seal.Goals as goal

pub finished-requires-clause-sealed : goal.finished-requires-clause-sealed
finished-requires-clause-sealed g c = outgoing_seals _ _ _ c.into_parts-text.ensures.begun
