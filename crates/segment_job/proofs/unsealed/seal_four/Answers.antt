use Rattle.segment_job.proofs.Sealing.{sealed_segment_opens}
use Rattle.segment_job.proofs.unsealed.seal_four.Goals as goal

pub of-requires : goal.of-requires
of-requires c = sealed_segment_opens _ _ _ _ _ _ c.first.invariant c.seal_four_texts.ensures.first.key c.seal_four_texts.ensures.first.vector c.seal_four_texts.ensures.first.bytes

pub of-requires-2 : goal.of-requires-2
of-requires-2 c = sealed_segment_opens _ _ _ _ _ _ c.second.invariant c.seal_four_texts.ensures.second.key c.seal_four_texts.ensures.second.vector c.seal_four_texts.ensures.second.bytes

pub of-requires-3 : goal.of-requires-3
of-requires-3 c = sealed_segment_opens _ _ _ _ _ _ c.third.invariant c.seal_four_texts.ensures.third.key c.seal_four_texts.ensures.third.vector c.seal_four_texts.ensures.third.bytes

pub of-requires-4 : goal.of-requires-4
of-requires-4 c = sealed_segment_opens _ _ _ _ _ _ c.fourth.invariant c.seal_four_texts.ensures.fourth.key c.seal_four_texts.ensures.fourth.vector c.seal_four_texts.ensures.fourth.bytes
