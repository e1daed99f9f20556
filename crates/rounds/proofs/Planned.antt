-- What a round expects and collects are plans of its spools, which are known by their numbers.
use Rattle.std.proofs.Common.{◌≡◌, ◌∙◌, inl, inr, ℕ, ◌+◌, List, [], ◌∷◌, ◌++◌, Option, Some, None, IfSome, IfNone, OnSome, Result, Ok, Err, OnOk, OnErr, length, take, drop, ap, sym, subst, arith}
use Rattle.std.specs.List.{slice_get}
use Rattle.std.proofs.lemmas.List.{get_or_past, length-take-le, take-append-drop}
use Rattle.std.proofs.lemmas.Bool.{cases_lt}
use Rattle.std.proofs.lemmas.Option.{same_Some, slice_get_within}
use Rattle.cutter.specs.Plans.{SegmentPlan}
use Rattle.cutter.specs.Ordered.{IsPlan}
use Rattle.segment_job.specs.Rotation.{KeyRotation}
use Rattle.segment_job.specs.Segments.{SealedSegment}
use Rattle.flow_core.specs.declared.slot.Slot.{Slot}
use Rattle.flow_core.specs.Gatherings.{Gathering, sequence_at, sequences_from, with_sequence}
use Rattle.flow_core.specs.Slots.{leading}
use Rattle.flow_core.specs.Sequences.{KnowsPlan, Lacks, passed, with_plan, with_segment}
use Rattle.live_board.specs.Snapshots.{Known}
use Rattle.item_io.specs.Views.{OutletView, SourceView}
use Rattle.ladder_items.specs.Ladder.{Ladder}
use Rattle.ladder_items.specs.Items.{part_at, count}
use Rattle.ladder_items.proofs.Worlds.{InOrder, parts-of}
use Rattle.work_desk.specs.Permits.{AreKnownByNumber}
use Rattle.rounds.specs.declared.run.course.Course.{Course}
use Rattle.rounds.specs.Courses.{IsOn, Start}
use Rattle.rounds.specs.Permitted.{AreSpoolsPlanned, HoldsPermitted, HoldsPlanned, IsSpooled}
use Rattle.rounds.specs.Rounds.{unfed_of}
use Rattle.rounds.proofs.Expecting.{drop-at}
use Rattle.rounds.proofs.Permitting.{holds-passed, holds-segment}
use Rattle.rounds.proofs.Running.{waits-next}
use Rattle.rounds.proofs.Holding.{held-at, held-none, held-passed, held-plan, held-segment, held-slot}

module _ (plans : SegmentPlan → Type 0) where
  abbrev of-plan : Slot → Type 0
  of-plan slot = plans slot.plan

  -- a collector expects one more that may be fed
  pub planned-plan : (g : Gathering) (r : ℕ) (plan : SegmentPlan) → plans plan
      → HoldsPlanned plans g.sequences → HoldsPlanned plans (with_sequence g r (with_plan (sequence_at g r) plan)).sequences
  planned-plan g r plan one all = held-plan of-plan g r plan one all

  -- the segment of one came
  pub planned-segment : (g : Gathering) (r : ℕ) (segment : SealedSegment) → plans segment.plan
      → HoldsPlanned plans g.sequences → HoldsPlanned plans (with_sequence g r (with_segment (sequence_at g r) segment)).sequences
  planned-segment g r segment one all = held-segment of-plan g r segment one all

  -- one was handed out
  pub planned-passed : (g : Gathering) (r : ℕ) → HoldsPlanned plans g.sequences → HoldsPlanned plans (with_sequence g r (passed (sequence_at g r))).sequences
  planned-passed g r all = held-passed of-plan g r all

  -- a new collector expects nothing
  pub planned-none : (r : ℕ) (keys : List KeyRotation) (starts : List ℕ) → HoldsPlanned plans (sequences_from r keys starts)
  planned-none r keys starts = held-none of-plan r keys starts

  -- a plan that may be fed is the one that is expected of its rendition and number
  pub knows-plan : (g : Gathering) (r : ℕ) (plan : SegmentPlan) → AreKnownByNumber plans → HoldsPlanned plans g.sequences → plans plan → KnowsPlan (sequence_at g r) plan
  knows-plan g r plan known all one slot k at rendition number =
      known slot.plan plan (held-slot of-plan (sequence_at g r).slots k slot at (held-at of-plan g.sequences r all)) one rendition number

  -- a plan that is missing may be fed
  pub missing-planned : {A : Type 0} (plan-of : A → SegmentPlan) (g : Gathering) (found : Option A)
      → IfSome found (λ (a : A). Lacks (sequence_at g (plan-of a).rendition) (plan-of a)) → HoldsPlanned plans g.sequences → IfSome found (λ (a : A). plans (plan-of a))
  missing-planned plan-of g None lacks all = tt
  missing-planned plan-of g (Some a) lacks all =
      let plan = plan-of a in
      held-slot of-plan (sequence_at g plan.rendition).slots _ (record { plan = plan; segment = None }) lacks.expected (held-at of-plan g.sequences plan.rendition all)

  module _ (permits : ℕ → ℕ → Type 0) where
    abbrev holds-both : Gathering → Type 0
    holds-both g = HoldsPermitted permits g.sequences × HoldsPlanned plans g.sequences × AreKnownByNumber plans

    -- a segment was taken, or not
    pub both-collected : {A B : Type 0} (answer : Result A B) (old new : Gathering) (r : ℕ) (segment : SealedSegment) → permits segment.plan.rendition segment.plan.number
        → plans segment.plan → OnOk answer (new ≡ with_sequence old r (with_segment (sequence_at old r) segment)) → OnErr answer (new ≡ old)
        → holds-both old → holds-both new
    both-collected (Ok a) old new r segment may one took not all =
        subst holds-both (sym took) (holds-segment permits old r segment may all.0, planned-segment old r segment one all.1, all.2)
    both-collected (Err b) old new r segment may one took not all = subst holds-both (sym not) all

    -- one was handed out, or none
    pub both-passed : {A : Type 0} (taken : Option A) (old new : Gathering) (r : ℕ) → OnSome taken (new ≡ with_sequence old r (passed (sequence_at old r)))
        → IfNone taken ((new ≡ old) × (leading (sequence_at old r).slots ≡ 0)) → holds-both old → holds-both new
    both-passed (Some a) old new r took none all = subst holds-both (sym took) (holds-passed permits old r all.0, planned-passed old r all.1, all.2)
    both-passed None old new r took none all = subst holds-both (sym none.0) all

-- a list, cut at one of its plans
split-at : (spool : List SegmentPlan) (i : ℕ) (plan : SegmentPlan) → slice_get spool i ≡ Some plan → spool ≡ take i spool ++ plan ∷ drop (i + 1) spool
split-at spool i plan at = sym (take-append-drop i spool) ∙ ap (λ (l : List SegmentPlan). take i spool ++ l) (drop-at spool i plan at)

module _ (X Y : Type 0) (input : SourceView X) (out : OutletView Y) (ladder : Ladder) (start : Start X Y) (course : Course X Y) (shows : Known) (spools : List (List SegmentPlan))
    (each : length spools ≡ length ladder.renditions) (on : IsOn input out ladder start course shows (unfed_of spools)) (order : InOrder ladder) where
  -- the number of a plan in the spool of a rendition is that of its place behind what was given
  spooled-is : (r i : ℕ) (plan : SegmentPlan) → slice_get (unfed_of spools r) i ≡ Some plan
      → IsPlan r ladder.cut (count (part_at (parts-of ladder on.world.events) r) + i) plan
  spooled-is r i plan at =
      let spool = unfed_of spools r in
      elim (cases_lt r (length spools)) [
        | inl below ↦
            let long = slice_get_within spool i plan at in
            let here : length (take i spool) ≡ i = length-take-le i spool (omega (arith, long)) in
            subst (λ (n : ℕ). IsPlan r ladder.cut (count (part_at (parts-of ladder on.world.events) r) + n) plan) here
            (waits-next X Y input out ladder start course shows (unfed_of spools) on order r (omega (arith, below, each)) (take i spool) plan (drop (i + 1) spool) (split-at spool i plan at))
        | inr past ↦
            let none : spool ≡ [] = get_or_past spools r [] past in
            absurd (omega (arith, slice_get_within spool i plan at, ap length none))
      ]

  -- each plan of the spools is of its rendition's
  pub spools-planned : AreSpoolsPlanned (IsSpooled spools) spools
  spools-planned r i plan at = (i, subst (λ (k : ℕ). slice_get (unfed_of spools k) i ≡ Some plan) (sym (spooled-is r i plan at).rendition) at)

  -- and no two have the same rendition and number
  pub spools-known : AreKnownByNumber (IsSpooled spools)
  spools-known a b in-a in-b rendition number =
      let one = spooled-is a.rendition in-a.0 a in-a.1 in
      let there = subst (λ (k : ℕ). slice_get (unfed_of spools k) in-b.0 ≡ Some b) (sym rendition) in-b.1 in
      let other = spooled-is a.rendition in-b.0 b there in
      let same : in-b.0 ≡ in-a.0 = omega (arith, one.number, other.number, number) in
      same_Some a b (sym in-a.1 ∙ (ap (λ (i : ℕ). slice_get (unfed_of spools a.rendition) i) (sym same) ∙ there))
