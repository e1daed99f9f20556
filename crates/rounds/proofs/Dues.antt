-- How many segments are due in a round.
use Rattle.std.proofs.Common.{◌≡◌, ◌∙◌, ℕ, zero, suc, ◌+◌, ◌<◌, ◌≤◌, List, [], ◌∷◌, length, take, Some, None, refl, ap, arith, length-append}
use Rattle.std.specs.List.{slice_get, slice_index_or}
use Rattle.std.proofs.lemmas.Option.{slice_get_within}
use Rattle.cutter.specs.Plans.{SegmentPlan}
use Rattle.segment_job.specs.Rotation.{KeyRotation}
use Rattle.flow_core.specs.declared.slot.Slot.{Slot}
use Rattle.flow_core.specs.Sequences.{Lacks, SequenceValue, with_plan}
use Rattle.flow_core.specs.Gatherings.{Gathering, awaited, no_sequence, sequence_at, sequences_from, with_sequence}
use Rattle.flow_core.proofs.Gathering.{awaited-set}
use Rattle.rounds.specs.Rounds.{plans_in}

-- what stands in a slot is awaited
slot-awaited : (sequences : List SequenceValue) (r i : ℕ) (slot : Slot) → slice_get (slice_index_or sequences r no_sequence).slots i ≡ Some slot → 0 < awaited sequences
slot-awaited [] r i slot at = absurd (omega (arith, slice_get_within {A = Slot} [] i slot at))
slot-awaited (l ∷ sequences) zero i slot at = omega (arith, slice_get_within l.slots i slot at)
slot-awaited (l ∷ sequences) (suc r) i slot at = omega (arith, slot-awaited sequences r i slot at)

pub lacks-awaited : (g : Gathering) (r : ℕ) (plan : SegmentPlan) → Lacks (sequence_at g r) plan → 0 < awaited g.sequences
lacks-awaited g r plan lacks = slot-awaited g.sequences r _ _ lacks.expected

-- a new collector awaits nothing
pub awaits-first : (r : ℕ) (keys : List KeyRotation) (starts : List ℕ) → awaited (sequences_from r keys starts) ≡ 0
awaits-first r [] starts = refl
awaits-first r (x ∷ keys) starts = omega (arith, awaits-first (r + 1) keys starts)

-- with a plan more, one more is awaited
pub expects-awaited : (g h : Gathering) (r : ℕ) (plan : SegmentPlan) → r < length g.sequences → h ≡ with_sequence g r (with_plan (sequence_at g r) plan)
    → awaited h.sequences ≡ awaited g.sequences + 1
expects-awaited g h r plan below is =
    let moved = awaited-set g.sequences r (with_plan (sequence_at g r) plan) below in
    let one = length-append (sequence_at g r).slots (record { plan = plan; segment = None } ∷ []) in
    ap (λ (x : Gathering). awaited x.sequences) is ∙ omega (arith, moved, one)

-- the plans of some spools and of the next one
plans-suc : (spools : List (List SegmentPlan)) (r : ℕ) → r < length spools → plans_in (take (suc r) spools) ≡ plans_in (take r spools) + length (slice_index_or spools r [])
plans-suc [] r below = absurd (omega (arith, below))
plans-suc (x ∷ spools) zero below = omega arith
plans-suc (x ∷ spools) (suc r) below = omega (arith, plans-suc spools r (omega (arith, below)))

pub plans-more : (spools : List (List SegmentPlan)) (r : ℕ) → r < length spools → plans_in (take (r + 1) spools) ≡ plans_in (take r spools) + length (slice_index_or spools r [])
plans-more spools r below = let same : r + 1 ≡ suc r = omega arith in ap (λ (n : ℕ). plans_in (take n spools)) same ∙ plans-suc spools r below

-- the first of some spools have no more than all
pub plans-front : (spools : List (List SegmentPlan)) (r : ℕ) → plans_in (take r spools) ≤ plans_in spools
plans-front [] zero = omega arith
plans-front [] (suc r) = omega arith
plans-front (x ∷ spools) zero = omega arith
plans-front (x ∷ spools) (suc r) = omega (arith, plans-front spools r)

-- and all of them have as many
pub plans-all : (spools : List (List SegmentPlan)) (r : ℕ) → length spools ≤ r → plans_in (take r spools) ≡ plans_in spools
plans-all [] zero most = refl
plans-all [] (suc r) most = refl
plans-all (x ∷ spools) zero most = absurd (omega (arith, most))
plans-all (x ∷ spools) (suc r) most = omega (arith, plans-all spools r (omega (arith, most)))
