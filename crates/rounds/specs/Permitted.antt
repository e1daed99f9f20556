-- What a round holds and shows was let through.
use Rattle.std.specs.Prelude.{◌≡◌, ℕ, ◌<◌, ◌≤◌, ◌⊎◌, List, [], All, Option, None, Some, slice_get, slice_index_or}
use Rattle.cutter.specs.Plans.{SegmentPlan}
use Rattle.segment_job.specs.Segments.{SealedSegment}
use Rattle.flow_core.specs.declared.slot.Slot.{Slot}
use Rattle.flow_core.specs.Sequences.{SequenceValue}
use Rattle.live_board.specs.Snapshots.{SnapshotFacts}
use Rattle.live_board.specs.Counts.{counts_shown}

-- a segment that came may be sealed
abbrev pub MayBeSealed : (ℕ → ℕ → Type 0) → Option SealedSegment → Type 0
MayBeSealed permits None = Unit {0}
MayBeSealed permits (Some segment) = permits segment.plan.rendition segment.plan.number

-- each that came for a plan of a rendition may be
abbrev pub ArePermittedIn : (ℕ → ℕ → Type 0) → SequenceValue → Type 0
ArePermittedIn permits sequence = All (λ (slot : Slot). MayBeSealed permits slot.segment) sequence.slots

-- so may each that a collector holds
abbrev pub HoldsPermitted : (ℕ → ℕ → Type 0) → List SequenceValue → Type 0
HoldsPermitted permits sequences = All (ArePermittedIn permits) sequences

-- each plan that a collector expects may be fed
abbrev pub HoldsPlanned : (SegmentPlan → Type 0) → List SequenceValue → Type 0
HoldsPlanned plans sequences = All (λ (sequence : SequenceValue). All (λ (slot : Slot). plans slot.plan) sequence.slots) sequences

-- a plan stands in the spool of its rendition
abbrev pub IsSpooled : List (List SegmentPlan) → SegmentPlan → Type 0
IsSpooled spools plan = (i : ℕ) × (slice_get (slice_index_or spools plan.rendition []) i ≡ Some plan)

-- each of these plans may be fed
abbrev pub AreAllPlanned : (SegmentPlan → Type 0) → List SegmentPlan → Type 0
AreAllPlanned plans spool = (i : ℕ) (plan : SegmentPlan) → slice_get spool i ≡ Some plan → plans plan

-- so may those of each spool
abbrev pub AreSpoolsPlanned : (SegmentPlan → Type 0) → List (List SegmentPlan) → Type 0
AreSpoolsPlanned plans spools = (r : ℕ) → AreAllPlanned plans (slice_index_or spools r [])

-- how many segments of rendition r are shown
abbrev pub shown_at : List SnapshotFacts → ℕ → ℕ
shown_at list r = slice_index_or (counts_shown list) r 0

-- each segment that is shown may be sealed
abbrev pub ShowsPermitted : (ℕ → ℕ → Type 0) → List SnapshotFacts → Type 0
ShowsPermitted permits list = (r n : ℕ) → n < shown_at list r → permits r n

-- what may be sealed behind these snapshots: what is let through, and what was shown in them
abbrev pub or_shown : (ℕ → ℕ → Type 0) → List SnapshotFacts → ℕ → ℕ → Type 0
or_shown lets list r n = lets r n ⊎ (n < shown_at list r)

-- each segment that is shown, and wasn't in these snapshots, was let through
abbrev pub ShowsLetThrough : (ℕ → ℕ → Type 0) → (before now : List SnapshotFacts) → Type 0
ShowsLetThrough lets before now = (r n : ℕ) → shown_at before r ≤ n → n < shown_at now r → lets r n
