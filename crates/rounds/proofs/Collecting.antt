-- A segment is collected.
use Rattle.std.proofs.Common.{◌≡◌, ◌∙◌, ◌⊎◌, inl, inr, ℕ, zero, suc, ◌+◌, ◌-◌, ◌<◌, ◌≤◌, true, false, List, [], ◌∷◌, length, Some, None, refl, ap, sym, subst, arith}
use Rattle.std.specs.Prelude.{nat_lt}
use Rattle.std.specs.List.{slice_get, slice_set, slice_index_or}
use Rattle.std.proofs.lemmas.List.{get_or-set_same, length-append, length-map, length-set, nil_from_length}
use Rattle.std.proofs.lemmas.Bool.{cases_eq}
use Rattle.std.proofs.lemmas.Bool.Decides.{nat_tests}
use Rattle.std.proofs.lemmas.Option.{get_or_from_slice_get, slice_get_within}
use Rattle.std.proofs.Math.Seq.{map-set_same}
use Rattle.cutter.specs.Plans.{SegmentPlan}
use Rattle.segment_job.specs.Rotation.{KeyRotation}
use Rattle.segment_job.specs.Segments.{SealedSegment, sealed_segment}
use Rattle.flow_core.specs.declared.slot.Slot.{Slot}
use Rattle.flow_core.specs.Slots.{came, lacking, unless_came}
use Rattle.flow_core.specs.declared.fault.CollectFault.{CollectFault}
use Rattle.flow_core.specs.declared.fault.CollectFault.TheVariants.{Stray, Double, NoMemory}
use Rattle.flow_core.specs.Sequences.{SequenceValue, IsRight, GivesBack, Lacks, has_come, with_segment}
use Rattle.flow_core.specs.Gatherings.{Gathering, awaited, no_sequence, sequence_at, with_sequence, missing_in}
use Rattle.flow_core.proofs.Flowing.{sequence-same, sequence-other, inside}
use Rattle.ladder_items.specs.Ladder.{Ladder, rendition_at}
use Rattle.rounds.specs.Collected.{Collects}
use Rattle.rounds.specs.Rounds.{HasKeys, Keeps, expected, segments_in, gathered}

pub keeps_same : (g h : Gathering) → h ≡ g → Keeps g h
keeps_same g h is = record {
  most = ap (λ (x : Gathering). x.most) is;
  count = ap (λ (x : Gathering). length x.sequences) is;
  each = λ k. (ap (λ (x : Gathering). (sequence_at x k).keys) is, ap (λ (x : Gathering). (sequence_at x k).next) is, ap (λ (x : Gathering). expected (sequence_at x k)) is);
}

pub keeps_then : (f g h : Gathering) → Keeps f g → Keeps g h → Keeps f h
keeps_then f g h a b = record {
  most = b.most ∙ a.most;
  count = b.count ∙ a.count;
  each = λ k. let x = a.each k in let y = b.each k in (y.0 ∙ x.0, y.1 ∙ x.1, y.2 ∙ x.2);
}

-- a right segment stands in its place
segment-expected : (sequence : SequenceValue) (segment : SealedSegment) → IsRight sequence segment → expected (with_segment sequence segment) ≡ expected sequence
segment-expected sequence segment right =
    let i = segment.plan.number - sequence.next in
    let slot : Slot = record { plan = segment.plan; segment = Some segment } in
    map-set_same (λ (s : Slot). s.plan) sequence.slots i slot slot (ap (λ (s : Slot). s.plan) (sym (get_or_from_slice_get sequence.slots i (record { plan = segment.plan; segment = None }) slot right.expected)))

pub keeps-segment : (g h : Gathering) (segment : SealedSegment) → IsRight (sequence_at g segment.plan.rendition) segment
    → h ≡ with_sequence g segment.plan.rendition (with_segment (sequence_at g segment.plan.rendition) segment) → Keeps g h
keeps-segment g h segment right is =
    let r = segment.plan.rendition in
    let sequence = sequence_at g r in
    let then = with_segment sequence segment in
    let within = inside g r (segment.plan.number - sequence.next) _ right.expected in
    let one : (k : ℕ) → ((sequence_at (with_sequence g r then) k).keys ≡ (sequence_at g k).keys) × ((sequence_at (with_sequence g r then) k).next ≡ (sequence_at g k).next) × (expected (sequence_at (with_sequence g r then) k) ≡ expected (sequence_at g k)) =
    λ k.
    elim (cases_eq k r) as (λ _. ((sequence_at (with_sequence g r then) k).keys ≡ (sequence_at g k).keys) × ((sequence_at (with_sequence g r then) k).next ≡ (sequence_at g k).next) × (expected (sequence_at (with_sequence g r then) k) ≡ expected (sequence_at g k))) [
      | inl q ↦
          let here = sequence-same g r k then within q in
          let was : sequence ≡ sequence_at g k = ap (sequence_at g) (sym q) in (
            ap (λ (l : SequenceValue). l.keys) here ∙ ap (λ (l : SequenceValue). l.keys) was,
            ap (λ (l : SequenceValue). l.next) here ∙ ap (λ (l : SequenceValue). l.next) was,
            ap expected here ∙ (segment-expected sequence segment right ∙ ap expected was),
          )
      | inr q ↦
          let there = sequence-other g r k then q in
          (ap (λ (l : SequenceValue). l.keys) there, ap (λ (l : SequenceValue). l.next) there, ap expected there)
    ] in
    keeps_then g (with_sequence g r then) h (record { most = refl; count = length-set g.sequences r then; each = one }) (keeps_same (with_sequence g r then) h is)

-- a segment that is right now hasn't come
pub not-come : (sequence : SequenceValue) (segment : SealedSegment) → IsRight sequence segment → has_come sequence segment.plan.number ≡ true → ⊥
not-come sequence segment right come =
    let behind : nat_lt segment.plan.number sequence.next ≡ false = grind (arith, nat_tests, right.ahead) in
    let empty : came (slice_get sequence.slots (segment.plan.number - sequence.next)) ≡ false = ap came right.expected in
    cc (behind, empty, come)

-- a segment that was collected was right
pub collects-right : (g h : Gathering) (segment : SealedSegment) → IsRight (sequence_at g segment.plan.rendition) segment
    → h ≡ with_sequence g segment.plan.rendition (with_segment (sequence_at g segment.plan.rendition) segment) → Collects g segment h
collects-right g h segment right is = record { right = λ again. is; wrong = λ not. absurd (not right) }

-- one that was given back wasn't
pub collects-wrong : (g h : Gathering) (segment : SealedSegment) (fault : CollectFault) → GivesBack (sequence_at g segment.plan.rendition) segment fault → h ≡ g → Collects g segment h
collects-wrong g h segment (Stray back) told same = record { right = λ right. absurd (told.2 right); wrong = λ not. same }
collects-wrong g h segment (Double back) told same =
    record { right = λ right. absurd (not-come (sequence_at g segment.plan.rendition) segment right told.1); wrong = λ not. same }
collects-wrong g h segment (NoMemory back) told same = absurd told

-- one plan fewer lacks its segment
lacking-set : (slots : List Slot) (i : ℕ) (plan : SegmentPlan) → slice_get slots i ≡ Some (record { plan = plan; segment = None }) → (segment : SealedSegment)
    → length (lacking (slice_set slots i (record { plan = plan; segment = Some segment }))) + 1 ≡ length (lacking slots)
lacking-set [] i plan at segment = cc at
lacking-set (s ∷ slots) zero plan at segment =
    let none_here : (s ≡ record { plan = plan; segment = None }) = cc at in
    omega (arith, ap (λ (x : Slot). length (lacking (x ∷ slots))) none_here)
lacking-set (s ∷ slots) (suc i) plan at segment =
    let more = lacking-set slots i plan at segment in
    omega (
      arith,
      more,
      length-append (unless_came s.segment s.plan) (lacking slots),
      length-append (unless_came s.segment s.plan) (lacking (slice_set slots i (record { plan = plan; segment = Some segment }))),
    )

pub missing-sequence : (sequences : List SequenceValue) (r : ℕ) (sequence d : SequenceValue) → r < length sequences
    → length (missing_in (slice_set sequences r sequence)) + length (lacking (slice_index_or sequences r d).slots) ≡ length (missing_in sequences) + length (lacking sequence.slots)
missing-sequence [] r sequence d below = absurd (omega (arith, below))
missing-sequence (l ∷ sequences) zero sequence d below =
    omega (arith, length-append (lacking l.slots) (missing_in sequences), length-append (lacking sequence.slots) (missing_in sequences))
missing-sequence (l ∷ sequences) (suc r) sequence d below =
    let more = missing-sequence sequences r sequence d (omega (arith, below)) in
    omega (arith, more, length-append (lacking l.slots) (missing_in sequences), length-append (lacking l.slots) (missing_in (slice_set sequences r sequence)))

pub missing-segment : (g h : Gathering) (segment : SealedSegment) → IsRight (sequence_at g segment.plan.rendition) segment
    → h ≡ with_sequence g segment.plan.rendition (with_segment (sequence_at g segment.plan.rendition) segment) → length (missing_in h.sequences) + 1 ≡ length (missing_in g.sequences)
missing-segment g h segment right is =
    let r = segment.plan.rendition in
    let sequence = sequence_at g r in
    let i = segment.plan.number - sequence.next in
    let within = inside g r i _ right.expected in
    let moved = missing-sequence g.sequences r (with_segment sequence segment) no_sequence within in
    let fewer = lacking-set sequence.slots i segment.plan right.expected segment in
    omega (arith, ap (λ (x : Gathering). length (missing_in x.sequences)) is, moved, fewer)

-- the keys stay
pub keys-kept : (ladder : Ladder) (g h : Gathering) → Keeps g h → HasKeys ladder g → HasKeys ladder h
keys-kept ladder g h keeps keys = record {
  each = keeps.count ∙ keys.each;
  keys = λ k below. (keeps.each k).0 ∙ keys.keys k (omega (arith, below, keeps.count));
}

-- a segment that is sealed under the ladder's keys is right for a plan that lacks its segment
pub own-right : (ladder : Ladder) (g : Gathering) (plan : SegmentPlan) (keys : KeyRotation) → HasKeys ladder g → Lacks (sequence_at g plan.rendition) plan → keys ≡ (rendition_at ladder plan.rendition).keys
    → IsRight (sequence_at g plan.rendition) (sealed_segment keys plan)
own-right ladder g plan keys has lacks is =
    let within = inside g plan.rendition _ _ lacks.expected in
    record {
      ahead = lacks.ahead;
      expected = lacks.expected;
      sealed = ap (λ (k : KeyRotation). sealed_segment k plan) (is ∙ sym (has.keys plan.rendition within));
    }

-- a segment that was put in its place is lacking no more
segment-stands : (sequence : SequenceValue) (segment : SealedSegment) → segment.plan.number - sequence.next < length sequence.slots
    → Lacks (with_segment sequence segment) segment.plan → ⊥
segment-stands sequence segment within lacks =
    let i = segment.plan.number - sequence.next in
    let slot : Slot = record { plan = segment.plan; segment = Some segment } in
    let bare : Slot = record { plan = segment.plan; segment = None } in
    let at = get_or_from_slice_get (slice_set sequence.slots i slot) i bare bare lacks.expected in
    let here = get_or-set_same sequence.slots i slot bare within in
    cc (ap (λ (s : Slot). s.segment) (sym here ∙ at))

right-stands : (g h : Gathering) (segment : SealedSegment) → IsRight (sequence_at g segment.plan.rendition) segment
    → h ≡ with_sequence g segment.plan.rendition (with_segment (sequence_at g segment.plan.rendition) segment)
    → Lacks (sequence_at h segment.plan.rendition) segment.plan → ⊥
right-stands g h segment right is lacks =
    let r = segment.plan.rendition in
    let sequence = sequence_at g r in
    let i = segment.plan.number - sequence.next in
    let within = inside g r i _ right.expected in
    let here = ap (λ (x : Gathering). sequence_at x r) is ∙ sequence-same g r r (with_segment sequence segment) within refl in
    segment-stands sequence segment (slice_get_within sequence.slots i _ right.expected) (subst (λ (s : SequenceValue). Lacks s segment.plan) here lacks)

-- of a plan that was sealed under the ladder's keys and collected the segment isn't lacking
pub own-stands : (ladder : Ladder) (g h : Gathering) (plan : SegmentPlan) (keys : KeyRotation) → HasKeys ladder g → keys ≡ (rendition_at ladder plan.rendition).keys
    → Collects g (sealed_segment keys plan) h → Lacks (sequence_at h plan.rendition) plan → ⊥
own-stands ladder g h plan keys has is collects lacks =
    let not : IsRight (sequence_at g plan.rendition) (sealed_segment keys plan) → ⊥ = λ right. right-stands g h (sealed_segment keys plan) right (collects.right right) lacks in
    not (own-right ladder g plan keys has (subst (λ (x : Gathering). Lacks (sequence_at x plan.rendition) plan) (collects.wrong not) lacks) is)

-- one segment more
segments-set : (slots : List Slot) (i : ℕ) (plan : SegmentPlan) (slot : Slot) → slice_get slots i ≡ Some (record { plan = plan; segment = None }) → slot.segment ≡ None → (segment : SealedSegment)
    → segments_in (slice_set slots i (record { plan = plan; segment = Some segment })) ≡ segments_in slots + 1
segments-set [] i plan slot at none segment = cc
segments-set (s ∷ slots) zero plan slot at none segment =
    let none_here : (s ≡ record { plan = plan; segment = None }) = cc in
    omega (arith, ap (λ (x : Slot). segments_in (x ∷ [])) none_here)
segments-set (s ∷ slots) (suc i) plan slot at none segment = omega (arith, segments-set slots i plan slot at none segment)

gathered-sequence : (sequences : List SequenceValue) (r : ℕ) (sequence d : SequenceValue) → r < length sequences
    → gathered (slice_set sequences r sequence) + ((slice_index_or sequences r d).next + segments_in (slice_index_or sequences r d).slots) ≡ gathered sequences + (sequence.next + segments_in sequence.slots)
gathered-sequence [] r sequence d below = absurd (omega (arith, below))
gathered-sequence (l ∷ sequences) zero sequence d below = omega arith
gathered-sequence (l ∷ sequences) (suc r) sequence d below = omega (arith, gathered-sequence sequences r sequence d (omega (arith, below)))

pub gathered-set : (g : Gathering) (r : ℕ) (sequence : SequenceValue) → r < length g.sequences
    → gathered (with_sequence g r sequence).sequences + ((sequence_at g r).next + segments_in (sequence_at g r).slots) ≡ gathered g.sequences + (sequence.next + segments_in sequence.slots)
gathered-set g r sequence below = gathered-sequence g.sequences r sequence no_sequence below

pub gathered-segment : (g h : Gathering) (segment : SealedSegment) → IsRight (sequence_at g segment.plan.rendition) segment
    → h ≡ with_sequence g segment.plan.rendition (with_segment (sequence_at g segment.plan.rendition) segment) → gathered h.sequences ≡ gathered g.sequences + 1
gathered-segment g h segment right is =
    let r = segment.plan.rendition in
    let sequence = sequence_at g r in
    let i = segment.plan.number - sequence.next in
    let within = inside g r i _ right.expected in
    let moved = gathered-set g r (with_segment sequence segment) within in
    let more = segments-set sequence.slots i segment.plan (record { plan = segment.plan; segment = None }) right.expected refl segment in
    ap (λ (x : Gathering). gathered x.sequences) is ∙ omega (arith, moved, more)

-- what was missing no more stays so
pub got-on : (old mid new : ℕ) (g h : Gathering) → mid ≤ new → length (missing_in h.sequences) ≤ length (missing_in g.sequences)
    → (old < mid) ⊎ (missing_in g.sequences ≡ []) → (old < new) ⊎ (missing_in h.sequences ≡ [])
got-on old mid new g h more fewer (inl took) = inl (omega (arith, took, more))
got-on old mid new g h more fewer (inr none) = inr (nil_from_length (missing_in h.sequences) (omega (arith, fewer, ap length none)))

-- where the same plans are expected, as many are awaited
awaited-by : (xs ys : List SequenceValue) → length ys ≡ length xs
    → ((k : ℕ) → length (expected (slice_index_or ys k no_sequence)) ≡ length (expected (slice_index_or xs k no_sequence))) → awaited ys ≡ awaited xs
awaited-by [] [] each same = refl
awaited-by [] (y ∷ ys) each same = absurd (omega (arith, each))
awaited-by (x ∷ xs) [] each same = absurd (omega (arith, each))
awaited-by (x ∷ xs) (y ∷ ys) each same =
    let rest = awaited-by xs ys (omega (arith, each)) (λ k. same (suc k)) in
    let first : length (expected y) ≡ length (expected x) = same zero in
    omega (arith, rest, first, length-map y.slots (λ (slot : Slot). slot.plan), length-map x.slots (λ (slot : Slot). slot.plan))

pub keeps-awaited : (g h : Gathering) → Keeps g h → awaited h.sequences ≡ awaited g.sequences
keeps-awaited g h keeps = awaited-by g.sequences h.sequences keeps.count (λ k. ap length (keeps.each k).2)
