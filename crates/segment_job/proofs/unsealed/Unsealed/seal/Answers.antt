use Rattle.segment_job.proofs.Sealing.{sealed_segment_opens}
use Rattle.segment_job.proofs.unsealed.Unsealed.seal.Goals as goal

pub of-requires : goal.of-requires
of-requires c = sealed_segment_opens _ _ _ _ _ _ c.self.invariant c.seal_text.ensures.key c.seal_text.ensures.vector c.seal_text.ensures.bytes
