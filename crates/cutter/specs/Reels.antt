-- What a reel holds: plans that are closed, and the body that goes on behind them.
use Rattle.std.specs.Prelude.{◌≡◌, ℕ, ◌-◌, ◌≤◌, List, [], ◌∷◌, length, drop, slice_range}
use Rattle.cutter.specs.declared.plan.Frame.{Frame}
use Rattle.cutter.specs.declared.reel.Label.{Label}
use Rattle.cutter.specs.declared.reel.PlanAt.{PlanAt}
use Rattle.cutter.specs.declared.reel.Reel.TheInside.{Inside as ReelInside}
use Rattle.cutter.specs.Plans.{SegmentPlan}
use Rattle.cutter.specs.Framing.{Framing, no_frames, IsWithin}

pub record Filled : Type 0 where
  pub plans : List SegmentPlan
  pub body : List ℕ
  pub framing : Framing

abbrev pub unfilled : Filled
unfilled = record { plans = []; body = []; framing = no_frames }

-- a plan with this body and these I-frames
abbrev pub labelled : Label → List ℕ → List Frame → SegmentPlan
labelled label body frames = record {
  rendition = label.rendition;
  number = label.number;
  tables = label.tables;
  pat_counter = label.pat_counter;
  pmt_counter = label.pmt_counter;
  body = body;
  frames = frames;
  ticks = label.ticks;
  discontinuity = label.discontinuity;
}

-- a closed plan, whose body and I-frames lie among those of the reel
abbrev pub plan_in : List ℕ → List Frame → PlanAt → SegmentPlan
plan_in bytes frames plan_at =
    labelled plan_at.label (slice_range bytes plan_at.body_at plan_at.body_end) (slice_range frames plan_at.frames_at plan_at.frames_end)

abbrev pub plans_in : List ℕ → List Frame → List PlanAt → List SegmentPlan
plans_in bytes frames [] = []
plans_in bytes frames (plan_at ∷ plans_at) = plan_in bytes frames plan_at ∷ plans_in bytes frames plans_at

-- each lies there
abbrev pub AreWithin : ℕ → ℕ → List PlanAt → Type 0
AreWithin bytes frames [] = Unit {0}
AreWithin bytes frames (plan_at ∷ plans_at) =
    (plan_at.body_at ≤ plan_at.body_end) × (plan_at.body_end ≤ bytes) × (plan_at.frames_at ≤ plan_at.frames_end) × (plan_at.frames_end ≤ frames) × AreWithin bytes frames plans_at

-- From these places on each begins where the one before it ends, and the body that goes on, with its I-frames, behind the last one: no
-- bytes lie between them.
abbrev pub AreJoined : ℕ → ℕ → ℕ → ℕ → List PlanAt → Type 0
AreJoined bytes frames body_at frames_at [] = (body_at ≡ bytes) × (frames_at ≡ frames)
AreJoined bytes frames body_at frames_at (plan_at ∷ plans_at) =
    (plan_at.body_at ≡ bytes) × (plan_at.frames_at ≡ frames) × AreJoined plan_at.body_end plan_at.frames_end body_at frames_at plans_at

abbrev pub filled_by : ReelInside → Filled
filled_by s = record {
  plans = plans_in s.bytes.items s.frames.items s.plans_at.items;
  body = drop s.body_at s.bytes.items;
  framing = record { ended = drop s.frames_at s.frames.items; pending = s.pending; offset = length s.bytes.items - s.body_at };
}

pub record IsLaid (s : ReelInside) : Type 0 where
  pub within : AreWithin (length s.bytes.items) (length s.frames.items) s.plans_at.items
  pub body : s.body_at ≤ length s.bytes.items
  pub frames : s.frames_at ≤ length s.frames.items
  pub pending : IsWithin s.pending (length s.bytes.items - s.body_at)
  pub joined : AreJoined 0 0 s.body_at s.frames_at s.plans_at.items
