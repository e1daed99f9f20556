-- What a collector gets of what a desk hands out: no right segment is thrown away.
use Rattle.std.specs.Prelude.{◌≡◌}
use Rattle.segment_job.specs.Segments.{SealedSegment}
use Rattle.flow_core.specs.declared.outcome.Outcome.{Outcome}
use Rattle.flow_core.specs.declared.outcome.Outcome.TheVariants.{Sealed, Refused, Held}
use Rattle.flow_core.specs.Gatherings.{Gathering, sequence_at, with_sequence}
use Rattle.flow_core.specs.Sequences.{IsRight, with_segment}

-- a collector got a segment: it has it now if the segment was right, and is as it was otherwise
pub record Collects (old : Gathering) (segment : SealedSegment) (new : Gathering) : Type 0 where
  pub right : IsRight (sequence_at old segment.plan.rendition) segment
      → new ≡ with_sequence old segment.plan.rendition (with_segment (sequence_at old segment.plan.rendition) segment)
  pub wrong : (IsRight (sequence_at old segment.plan.rendition) segment → ⊥) → new ≡ old

-- what was handed out was taken in: a collector got its segment, if it has one
abbrev pub TakesIn : Outcome → Gathering → Gathering → Type 0
TakesIn (Sealed segment) old new = Collects old segment new
TakesIn Refused old new = new ≡ old
TakesIn Held old new = new ≡ old
