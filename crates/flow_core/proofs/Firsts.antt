-- The first of the plans for which no segment came.
use Rattle.std.proofs.Common.{◌≡◌, ◌∙◌, ℕ, ◌+◌, ◌<◌, List, [], ◌∷◌, ◌++◌, length, get_or, drop, Option, Some, None, sym, ap}
use Rattle.std.specs.Prelude.{slice_get}
use Rattle.std.proofs.lemmas.List.{at_drop_more}
use Rattle.cutter.specs.Plans.{SegmentPlan}
use Rattle.segment_job.specs.Segments.{SealedSegment}
use Rattle.flow_core.specs.declared.slot.Slot.{Slot}
use Rattle.flow_core.specs.Slots.{lacking, unless_came}
use Rattle.flow_core.specs.Sequences.{SequenceValue}
use Rattle.flow_core.specs.Gatherings.{missing_in}

-- none of the slots before i lacks one, and slot i does
pub first-lacks : (slots : List Slot) (i : ℕ) (slot : Slot) → i < length slots → slot ≡ get_or slots i slot → slot.segment ≡ None
    → lacking (drop i slots) ≡ lacking slots → slice_get (lacking slots) 0 ≡ Some slot.plan
first-lacks slots i slot below at none same =
    let behind = drop (i + 1) slots in
    let step : lacking (drop i slots) ≡ lacking (slot ∷ behind) = at_drop_more lacking slots i slot below ∙ ap (λ (s : Slot). lacking (s ∷ behind)) (sym at) in
    ap (λ (l : List SegmentPlan). slice_get l 0) (sym same ∙ step ∙ ap (λ (s : Option SealedSegment). unless_came s slot.plan ++ lacking behind) none)

front-first : (xs ys : List SegmentPlan) (x : SegmentPlan) → slice_get xs 0 ≡ Some x → slice_get (xs ++ ys) 0 ≡ Some x
front-first [] ys x e = cc e
front-first (y ∷ xs) ys x e = e

-- none of the renditions before r lacks one, and rendition r does
pub first-missing : (sequences : List SequenceValue) (r : ℕ) (one : SequenceValue) (plan : SegmentPlan) → r < length sequences → one ≡ get_or sequences r one
    → slice_get (lacking one.slots) 0 ≡ Some plan → missing_in (drop r sequences) ≡ missing_in sequences → slice_get (missing_in sequences) 0 ≡ Some plan
first-missing sequences r one plan below at first same =
    let behind = drop (r + 1) sequences in
    let step : missing_in (drop r sequences) ≡ missing_in (one ∷ behind)
    = at_drop_more missing_in sequences r one below ∙ ap (λ (s : SequenceValue). missing_in (s ∷ behind)) (sym at) in
    ap (λ (l : List SegmentPlan). slice_get l 0) (sym same ∙ step) ∙ front-first (lacking one.slots) (missing_in behind) plan first
