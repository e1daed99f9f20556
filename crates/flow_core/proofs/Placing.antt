-- The place of a segment.
use Rattle.std.proofs.Common.{◌≡◌, ◌∙◌, ℕ, ◌-◌, ◌<◌, ◌≤◌, ◌||◌, Bool, false, Some, None, length, get_or, sym, ap, arith}
use Rattle.std.specs.Prelude.{nat_lt, slice_get}
use Rattle.std.proofs.lemmas.Bool.Decides.{nat_tests}
use Rattle.std.proofs.lemmas.Option.{slice_get_within, get_or_from_slice_get}
use Rattle.cutter.specs.Plans.{SegmentPlan}
use Rattle.segment_job.specs.Segments.{SealedSegment}
use Rattle.flow_core.specs.declared.slot.Slot.{Slot}
use Rattle.flow_core.specs.Slots.{came}
use Rattle.flow_core.specs.Sequences.{SequenceValue, IsRight, IsSequence, HasPlace, KnowsPlan, has_come}
use Rattle.flow_core.proofs.Slotting.{slot-at}

-- a right segment has a place, and its own plan is expected there
pub right-place : (sequence : SequenceValue) (segment : SealedSegment) → IsRight sequence segment → HasPlace sequence segment segment.plan
right-place sequence segment right = record { ahead = right.ahead; there = right.expected; sealed = right.sealed }

-- a segment that has a place is right if its own plan is expected there
pub place-right : (sequence : SequenceValue) (segment : SealedSegment) (plan : SegmentPlan) → HasPlace sequence segment plan → plan ≡ segment.plan → IsRight sequence segment
place-right sequence segment plan place same = record {
  ahead = place.ahead;
  expected = place.there ∙ ap (λ (p : SegmentPlan). Some (record { plan = p; segment = None })) same;
  sealed = place.sealed;
}

-- so it is if the plan that is expected of its number is known to be its own
pub known-right : (sequence : SequenceValue) (segment : SealedSegment) (plan : SegmentPlan) → IsSequence sequence → segment.plan.rendition ≡ sequence.rendition
    → KnowsPlan sequence segment.plan → HasPlace sequence segment plan → IsRight sequence segment
known-right sequence segment plan sound own known place =
    let free : Slot = record { plan = plan; segment = None } in
    let k = segment.plan.number - sequence.next in
    let at = slot-at sequence.rendition sequence.keys sequence.next sequence.slots k free sound.own place.there in
    place-right sequence segment plan place (known free k place.there (at.0 ∙ sym own) (omega (arith, at.1, place.ahead)))

-- no right segment came where a place is free
pub none-came : (sequence : SequenceValue) (segment : SealedSegment) (plan : SegmentPlan) → HasPlace sequence segment plan → has_come sequence segment.plan.number ≡ false
none-came sequence segment plan place = neither _ _ (below _ _ place.ahead) (ap came place.there)
  where
    below : (a b : ℕ) → b ≤ a → nat_lt a b ≡ false
    below a b le = grind (arith, nat_tests)

    neither : (a b : Bool) → a ≡ false → b ≡ false → (a || b) ≡ false
    neither a b x y = ap (λ t. t || b) x ∙ y

-- and no segment is right there whose own plan isn't the one that is expected
pub other-wrong : (sequence : SequenceValue) (segment : SealedSegment) (plan : SegmentPlan) → HasPlace sequence segment plan → (segment.plan ≡ plan → ⊥) → IsRight sequence segment → ⊥
other-wrong sequence segment plan place other right =
    let own : Slot = record { plan = segment.plan; segment = None } in
    let free : Slot = record { plan = plan; segment = None } in
    let both : Some own ≡ Some free = sym right.expected ∙ place.there in
    let same : own ≡ free = cc both in
    other (ap (λ (s : Slot). s.plan) same)

-- where a place is free, its number tells where
pub place-inside : (sequence : SequenceValue) (segment : SealedSegment) (plan : SegmentPlan) (at : ℕ) → HasPlace sequence segment plan → at ≡ segment.plan.number - sequence.next → at < length sequence.slots
place-inside sequence segment plan at place same = omega (arith, same, slice_get_within sequence.slots _ _ place.there)

-- and what stands there is the plan
pub place-plan : (sequence : SequenceValue) (segment : SealedSegment) (plan : SegmentPlan) (at : ℕ) (was : Slot) → HasPlace sequence segment plan → at ≡ segment.plan.number - sequence.next
    → was ≡ get_or sequence.slots at was → was.plan ≡ plan
place-plan sequence segment plan at was place same read =
    let free : Slot = record { plan = plan; segment = None } in
    let there : slice_get sequence.slots at ≡ Some free = ap (slice_get sequence.slots) same ∙ place.there in
    ap (λ (s : Slot). s.plan) (read ∙ get_or_from_slice_get sequence.slots at free was there)
