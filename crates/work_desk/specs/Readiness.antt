-- Segments that are ready to be sealed.
use Rattle.std.specs.Prelude.{◌≡◌}
use Rattle.segment_job.specs.Segments.{SealedSegment, UnsealedSegment}
use Rattle.flow_core.specs.declared.outcome.Outcome.{Outcome}
use Rattle.flow_core.specs.declared.outcome.Outcome.TheVariants as TheOutcome
use Rattle.work_desk.specs.declared.ready.Ready.{Ready}
use Rattle.work_desk.specs.declared.ready.Ready.TheVariants.{InMemory, IntoFile}

-- the segment itself
abbrev pub segment_in : {F : Type 0} → Ready F → UnsealedSegment
segment_in (InMemory segment) = segment
segment_in (IntoFile segment) = segment

-- it was sealed, or its file couldn't be written
abbrev pub IsFinished : SealedSegment → Outcome → Type 0
IsFinished segment (TheOutcome.Sealed sealed) = sealed ≡ segment
IsFinished segment TheOutcome.Refused = Unit {0}
IsFinished segment TheOutcome.Held = ⊥
