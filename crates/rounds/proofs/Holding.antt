-- What holds of each plan that a collector expects, and of what came for it.
use Rattle.std.proofs.Common.{◌≡◌, ℕ, zero, suc, ◌+◌, List, [], ◌∷◌, All, Some, None, subst, arith}
use Rattle.std.specs.List.{slice_get, slice_index_or}
use Rattle.std.proofs.lemmas.List.Elements.{All-append, All-cons, All-drop, All-nil, All-set}
use Rattle.cutter.specs.Plans.{SegmentPlan}
use Rattle.segment_job.specs.Rotation.{KeyRotation}
use Rattle.segment_job.specs.Segments.{SealedSegment}
use Rattle.flow_core.specs.declared.slot.Slot.{Slot}
use Rattle.flow_core.specs.Gatherings.{Gathering, no_sequence, sequence_at, sequences_from, with_sequence}
use Rattle.flow_core.specs.Sequences.{SequenceValue, passed, with_plan, with_segment}

module _ (may : Slot → Type 0) where
  abbrev in-each : SequenceValue → Type 0
  in-each sequence = All may sequence.slots

  -- of those of rendition r
  pub held-at : (sequences : List SequenceValue) (r : ℕ) → All in-each sequences → in-each (slice_index_or sequences r no_sequence)
  held-at [] r all = All-nil may
  held-at (s ∷ sequences) zero all = all 0 no_sequence (omega arith)
  held-at (s ∷ sequences) (suc r) all = held-at sequences r (λ k d below. all (suc k) d (omega (arith, below)))

  -- of one of them
  pub held-slot : (slots : List Slot) (k : ℕ) (slot : Slot) → slice_get slots k ≡ Some slot → All may slots → may slot
  held-slot [] k slot at all = cc
  held-slot (s ∷ slots) zero slot at all =
      let is : s ≡ slot = cc in
      subst may is (all 0 s (omega arith))
  held-slot (s ∷ slots) (suc k) slot at all = held-slot slots k slot at (λ k d below. all (suc k) d (omega (arith, below)))

  -- where one more came
  pub held-segment : (g : Gathering) (r : ℕ) (segment : SealedSegment) → may (record { plan = segment.plan; segment = Some segment })
      → All in-each g.sequences → All in-each (with_sequence g r (with_segment (sequence_at g r) segment)).sequences
  held-segment g r segment one all =
      All-set in-each g.sequences r (with_segment (sequence_at g r) segment)
      (All-set may (sequence_at g r).slots _ (record { plan = segment.plan; segment = Some segment }) one (held-at g.sequences r all)) all

  -- where one more is expected
  pub held-plan : (g : Gathering) (r : ℕ) (plan : SegmentPlan) → may (record { plan = plan; segment = None })
      → All in-each g.sequences → All in-each (with_sequence g r (with_plan (sequence_at g r) plan)).sequences
  held-plan g r plan one all =
      All-set in-each g.sequences r (with_plan (sequence_at g r) plan)
      (All-append may (sequence_at g r).slots (record { plan = plan; segment = None } ∷ []) (held-at g.sequences r all)
      (All-cons may (record { plan = plan; segment = None }) [] one (All-nil may))) all

  -- where one was handed out
  pub held-passed : (g : Gathering) (r : ℕ) → All in-each g.sequences → All in-each (with_sequence g r (passed (sequence_at g r))).sequences
  held-passed g r all =
      All-set in-each g.sequences r (passed (sequence_at g r)) (All-drop may 1 (sequence_at g r).slots (held-at g.sequences r all)) all

  -- a new collector expects nothing
  pub held-none : (r : ℕ) (keys : List KeyRotation) (starts : List ℕ) → All in-each (sequences_from r keys starts)
  held-none r [] starts = All-nil in-each
  held-none r (key ∷ keys) starts = All-cons in-each _ (sequences_from (r + 1) keys starts) (All-nil may) (held-none (r + 1) keys starts)
