use Rattle.segment_job.proofs.IntoFiles.{outgoing_seals}
use Rattle.segment_job.proofs.outgoing.seal_two_outgoing.Goals as goal

pub finished-requires-clause-sealed : goal.finished-requires-clause-sealed
finished-requires-clause-sealed g c = outgoing_seals _ _ _ c.into_parts-first_text.ensures.begun

pub finished-requires-2-clause-sealed : goal.finished-requires-2-clause-sealed
finished-requires-2-clause-sealed g c = outgoing_seals _ _ _ c.into_parts-second_text.ensures.begun
