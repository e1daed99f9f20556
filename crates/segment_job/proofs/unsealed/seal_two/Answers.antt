use Rattle.segment_job.proofs.Sealing.{sealed_segment_opens}
use Rattle.segment_job.proofs.unsealed.seal_two.Goals as goal

pub of-requires : goal.of-requires
of-requires c = sealed_segment_opens _ _ _ _ _ _ c.first.invariant c.seal_two_texts.ensures.first.key c.seal_two_texts.ensures.first.vector c.seal_two_texts.ensures.first.bytes

pub of-requires-2 : goal.of-requires-2
of-requires-2 c = sealed_segment_opens _ _ _ _ _ _ c.second.invariant c.seal_two_texts.ensures.second.key c.seal_two_texts.ensures.second.vector c.seal_two_texts.ensures.second.bytes
