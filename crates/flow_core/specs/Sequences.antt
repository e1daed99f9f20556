-- One rendition of a collector, and what is done to it.
use Rattle.std.specs.Prelude.{◌≡◌, ℕ, ◌+◌, ◌-◌, ◌^◌, ◌<◌, ◌≤◌, Bool, true, false, ◌||◌, nat_lt, List, [], ◌∷◌, ◌++◌, length, drop, Some, None, slice_get, slice_set}
use Rattle.cutter.specs.Plans.{SegmentPlan}
use Rattle.segment_job.specs.Rotation.{KeyRotation}
use Rattle.segment_job.specs.Segments.{SealedSegment, sealed_segment}
use Rattle.flow_core.specs.declared.slot.Slot.{Slot}
use Rattle.flow_core.specs.declared.fault.CollectFault.{CollectFault}
use Rattle.flow_core.specs.declared.fault.CollectFault.TheVariants.{Stray, Double, NoMemory}
use Rattle.flow_core.specs.Slots.{AreSlots, came, leading}

-- the plans of a rendition that are expected and weren't handed out, in order, each with the right segment that came for it
pub record SequenceValue : Type 0 where
  pub rendition : ℕ
  pub keys : KeyRotation
  -- the number of its first plan
  pub start : ℕ
  -- the number of the first plan that wasn't handed out
  pub next : ℕ
  pub slots : List Slot

pub record IsSequence (sequence : SequenceValue) : Type 0 where
  pub own : AreSlots sequence.rendition sequence.keys sequence.next sequence.slots
  pub begun : sequence.start ≤ sequence.next
  pub low : sequence.next + length sequence.slots < 2 ^ 64

-- a rendition of which nothing was expected yet
abbrev pub first_sequence : ℕ → KeyRotation → ℕ → SequenceValue
first_sequence r keys n = record { rendition = r; keys = keys; start = n; next = n; slots = [] }

-- the number of the plan that is expected next
abbrev pub following : SequenceValue → ℕ
following sequence = sequence.next + length sequence.slots

-- a right segment came for this number: it was handed out, lies below the start, or stands in its place
abbrev pub has_come : SequenceValue → ℕ → Bool
has_come sequence n = nat_lt n sequence.next || came (slice_get sequence.slots (n - sequence.next))

-- a plan is expected, and no right segment came for it
pub record Lacks (sequence : SequenceValue) (plan : SegmentPlan) : Type 0 where
  pub ahead : sequence.next ≤ plan.number
  pub expected : slice_get sequence.slots (plan.number - sequence.next) ≡ Some (record { plan = plan; segment = None })

-- a right segment, the first one of its number: its plan is the one that is expected there, and it is the segment of that
-- plan under the key and the vector of its number
pub record IsRight (sequence : SequenceValue) (segment : SealedSegment) : Type 0 where
  pub ahead : sequence.next ≤ segment.plan.number
  pub expected : slice_get sequence.slots (segment.plan.number - sequence.next) ≡ Some (record { plan = segment.plan; segment = None })
  pub sealed : segment ≡ sealed_segment sequence.keys segment.plan

-- why a segment is given back: Double where a right segment came for its number, Stray where it isn't right and none came
abbrev pub GivesBack : SequenceValue → SealedSegment → CollectFault → Type 0
GivesBack sequence segment (Stray back) = (back ≡ segment) × (has_come sequence segment.plan.number ≡ false) × (IsRight sequence segment → ⊥)
GivesBack sequence segment (Double back) = (back ≡ segment) × (has_come sequence segment.plan.number ≡ true)
GivesBack sequence segment (NoMemory back) = ⊥

-- a place is free for a segment: a plan is expected at its number, for which no right segment came, and the segment is that of
-- its own plan under the key and the vector of its number
pub record HasPlace (sequence : SequenceValue) (segment : SealedSegment) (expected : SegmentPlan) : Type 0 where
  pub ahead : sequence.next ≤ segment.plan.number
  pub there : slice_get sequence.slots (segment.plan.number - sequence.next) ≡ Some (record { plan = expected; segment = None })
  pub sealed : segment ≡ sealed_segment sequence.keys segment.plan

-- the plan that is expected of this one's rendition and number, if any is, is this one
abbrev pub KnowsPlan : SequenceValue → SegmentPlan → Type 0
KnowsPlan sequence plan =
    (slot : Slot) (k : ℕ) → slice_get sequence.slots k ≡ Some slot → slot.plan.rendition ≡ plan.rendition → slot.plan.number ≡ plan.number → slot.plan ≡ plan

-- the sequence that expects one more plan
abbrev pub with_plan : SequenceValue → SegmentPlan → SequenceValue
with_plan sequence plan = record sequence { slots = sequence.slots ++ record { plan = plan; segment = None } ∷ [] }

-- the sequence with a segment in its place
abbrev pub with_segment : SequenceValue → SealedSegment → SequenceValue
with_segment sequence segment = record sequence {
  slots = slice_set sequence.slots (segment.plan.number - sequence.next) (record { plan = segment.plan; segment = Some segment });
}

-- the sequence whose first plan was handed out
abbrev pub passed : SequenceValue → SequenceValue
passed sequence = record sequence { next = sequence.next + 1; slots = drop 1 sequence.slots }

-- how many segments stand without a gap from the start on, handed out or not
abbrev pub ready : SequenceValue → ℕ
ready sequence = sequence.next - sequence.start + leading sequence.slots
