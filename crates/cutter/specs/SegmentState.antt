-- What a plan and the segment that goes on keep of their packets, and what one packet more makes of them.
use Rattle.std.specs.Prelude.{◌≡◌, ◌⊎◌, is_some, ℕ, ℤ, ◌+◌, ◌%◌, ◌*◌, ◌≤◌, ◌<◌, ◌^◌, unsigned_abs, Bool, false, nat_lt, nat_le, List, [], ◌∷◌, ◌++◌, length, Option, Some, None, if◌then◌else◌}
use Rattle.psi_tables.specs.InForce.{InForce}
use Rattle.psi_tables.specs.Head.{packet_count}
use Rattle.pes_time.specs.declared.clock.Stamp.{Stamp}
use Rattle.cutter.specs.declared.settings.CutSettings.{CutSettings}
use Rattle.cutter.specs.declared.reel.Label.{Label}
use Rattle.cutter.specs.declared.fault.CutFault.{CutFault}
use Rattle.cutter.specs.declared.fault.CutFault.TheVariants.{NoProgram, NoStart, LongSegment, BigSegment, Limit, NoMemory}
use Rattle.cutter.specs.declared.plan.Plan.TheInside.{Inside as PlanInside}
use Rattle.cutter.specs.declared.going.Going.TheInside.{Inside as GoingInside}
use Rattle.cutter.specs.Plans.{SegmentPlan}
use Rattle.cutter.specs.Points.{Mark}
use Rattle.cutter.specs.Cuts.{made}
use Rattle.cutter.specs.Framing.{Framing, framed, no_frames, frames_by}
use Rattle.cutter.specs.Reels.{Filled}
use Rattle.cutter.specs.Segments.{Point, Segment, AddsNothing, bytes_of, body_of, later, greatest, ticks_to, breaks, is_cut, is_discontinuity, is_long}
use Rattle.ts_packet.specs.declared.lengths.TheConstants.{PACKET}
use Rattle.limits.specs.declared.TheConstants.{LAST_SEGMENT}

-- what is held of a segment that goes on
pub record Gathered : Type 0 where
  pub number : ℕ
  pub discontinuity : Bool
  pub head : Point
  pub pmt_counter : ℕ
  pub body : List ℕ
  pub framing : Framing
  pub greatest : ℤ

unfoldable pub framing_of : Stamp → Framing → List Mark → Framing
framing_of head f [] = f
framing_of head f (m ∷ marks) = framing_of head (framed head f m) marks

unfoldable pub gathered : Segment → Gathered
gathered g = record {
  number = g.number;
  discontinuity = is_discontinuity g.previous g.head;
  head = g.head;
  pmt_counter = g.pmt_packets % 16;
  body = body_of g.marks;
  framing = framing_of g.head.stamp no_frames g.marks;
  greatest = greatest g.head.stamp.epoch g.head.stamp.time g.marks;
}

-- one packet more
abbrev pub added : Gathered → Mark → Gathered
added g m = record {
  number = g.number;
  discontinuity = g.discontinuity;
  head = g.head;
  pmt_counter = g.pmt_counter;
  body = g.body ++ bytes_of m;
  framing = framed g.head.stamp g.framing m;
  greatest = later g.head.stamp.epoch g.greatest m.look.stamp;
}

-- none yet
abbrev pub empty : ℕ → Bool → ℕ → Point → Gathered
empty number discontinuity pmt_counter head = record {
  number = number;
  discontinuity = discontinuity;
  head = head;
  pmt_counter = pmt_counter;
  body = [];
  framing = no_frames;
  greatest = head.stamp.time;
}

abbrev pub plan_from : ℕ → CutSettings → Gathered → Option Stamp → SegmentPlan
plan_from rendition s g next = record {
  rendition = rendition;
  number = g.number;
  tables = g.head.tables;
  pat_counter = g.number % 16;
  pmt_counter = g.pmt_counter;
  body = g.body;
  frames = frames_by g.framing;
  ticks = ticks_to s g.head.stamp g.greatest next;
  discontinuity = g.discontinuity;
}

-- the same beside the reel that holds its body and its I-frames
pub record Opened : Type 0 where
  pub number : ℕ
  pub discontinuity : Bool
  pub head : Point
  pub pmt_counter : ℕ
  pub greatest : ℤ

abbrev pub over : Opened → Filled → Gathered
over g f = record {
  number = g.number;
  discontinuity = g.discontinuity;
  head = g.head;
  pmt_counter = g.pmt_counter;
  body = f.body;
  framing = f.framing;
  greatest = g.greatest;
}

abbrev pub held_in : Option Opened → Filled → Option Gathered
held_in None f = None
held_in (Some g) f = Some (over g f)

-- where no segment goes on the reel has no body
abbrev pub IsIdle : Option Opened → Filled → Type 0
IsIdle None f = (f.body ≡ []) × (f.framing ≡ no_frames)
IsIdle (Some g) f = Unit {0}

abbrev pub opened_first : Point → Opened
opened_first p = record { number = 0; discontinuity = false; head = p; pmt_counter = 0; greatest = p.stamp.time }

abbrev pub opened_next : Opened → Point → Opened
opened_next g p = record {
  number = g.number + 1;
  discontinuity = breaks g.head p;
  head = p;
  pmt_counter = (g.pmt_counter + packet_count g.head.tables.section) % 16;
  greatest = p.stamp.time;
}

-- all of its plan but the body and the I-frames
abbrev pub label_of : ℕ → CutSettings → Opened → Option Stamp → Label
label_of rendition s g next = record {
  rendition = rendition;
  number = g.number;
  tables = g.head.tables;
  pat_counter = g.number % 16;
  pmt_counter = g.pmt_counter;
  ticks = ticks_to s g.head.stamp g.greatest next;
  discontinuity = g.discontinuity;
}

-- what a packet makes of what is held
pub record Out : Type 0 where
  pub going : Option Gathered
  pub plan : Option SegmentPlan
  pub fault : Option CutFault

abbrev pub gives : Option Gathered → Option SegmentPlan → Out
gives going plan = record { going = going; plan = plan; fault = None }

abbrev pub faults : CutFault → Out
faults fault = record { going = None; plan = None; fault = Some fault }

-- no segment goes on that takes anything of a packet
abbrev pub LeavesBody : Option Opened → Mark → Type 0
LeavesBody None m = Unit {0}
LeavesBody (Some g) m = AddsNothing m

-- nor does one begin with it
abbrev pub LeavesAll : Option Opened → Option InForce → Option Stamp → Mark → Type 0
LeavesAll going None c m = LeavesBody going m
LeavesAll going (Some t) None m = LeavesBody going m
LeavesAll going (Some t) (Some c) m = ⊥

-- a packet is placed: the segment that goes on, the plan that was closed, and whether one was
pub record Places (out : Out) (before after : Filled) (opened : Option Opened) (closed : Bool) : Type 0 where
  pub going : out ≡ gives (held_in opened after) out.plan
  pub plans : after.plans ≡ before.plans ++ made out.plan
  pub told : closed ≡ is_some out.plan
  pub idle : IsIdle opened after

-- A packet, or the end, isn't taken, for its fault or for want of memory: that stands in place of no fault.
abbrev pub Refuses : Out → CutFault → Type 0
Refuses out e = ((e ≡ NoMemory) × (out.fault ≡ None)) ⊎ (out ≡ faults e)

abbrev pub sized : CutSettings → Gathered → Option SegmentPlan → Out
sized s g plan = if nat_lt (PACKET * s.most) (length g.body) then faults (BigSegment g.number) else gives (Some g) plan

abbrev pub begun : CutSettings → Point → Mark → Out
begun s p m = sized s (added (empty 0 false 0 p) m) None

abbrev pub next_of : Gathered → Point → Gathered
next_of g p = empty (g.number + 1) (breaks g.head p) ((g.pmt_counter + packet_count g.head.tables.section) % 16) p

abbrev pub renewed : ℕ → CutSettings → Gathered → Point → Mark → Out
renewed r s g p m = sized s (added (next_of g p) m) (Some (plan_from r s g (Some p.stamp)))

abbrev pub cut : ℕ → CutSettings → Gathered → Point → Mark → Out
cut r s g p m =
    if is_long s (plan_from r s g (Some p.stamp)) then faults (LongSegment g.number)
    else (if nat_le LAST_SEGMENT g.number then faults Limit
    else renewed r s g p m)

abbrev pub carried : CutSettings → Option Gathered → Mark → Out
carried s None m = gives None None
carried s (Some g) m = sized s (added g m) None

abbrev pub taken_at : ℕ → CutSettings → Option Gathered → Point → Mark → Out
taken_at r s None p m = begun s p m
taken_at r s (Some g) p m = if is_cut s g.head p then cut r s g p m else sized s (added g m) None

abbrev pub taken : ℕ → CutSettings → Option Gathered → Option InForce → Option Stamp → Mark → Out
taken r s g None c m = carried s g m
taken r s g (Some t) None m = carried s g m
taken r s g (Some t) (Some c) m = taken_at r s g (record { stamp = c; tables = t }) m

-- what the end makes of it
abbrev pub finished : ℕ → CutSettings → Option InForce → Option Gathered → Out
finished r s None None = faults NoProgram
finished r s (Some t) None = faults NoStart
finished r s t (Some g) =
    if is_long s (plan_from r s g None) then faults (LongSegment g.number) else gives None (Some (plan_from r s g None))

-- a time from -2^62 to 2^62
abbrev pub IsInRange : ℤ → Type 0
IsInRange time = unsigned_abs time ≤ 2 ^ 62

abbrev pub HasRange : Option Stamp → Type 0
HasRange None = Unit {0}
HasRange (Some s) = IsInRange s.time

abbrev pub segment_plan : PlanInside → SegmentPlan
segment_plan p = record {
  rendition = p.rendition;
  number = p.number;
  tables = p.tables;
  pat_counter = p.pat_counter;
  pmt_counter = p.pmt_counter;
  body = p.body.items;
  frames = p.frames.items;
  ticks = p.ticks;
  discontinuity = p.discontinuity;
}

abbrev pub opened_by : GoingInside → Opened
opened_by g = record {
  number = g.number;
  discontinuity = g.discontinuity;
  head = record { stamp = g.start; tables = g.tables };
  pmt_counter = g.pmt_counter;
  greatest = g.greatest;
}

pub record IsSound (g : GoingInside) : Type 0 where
  pub start : IsInRange g.start.time
  pub greatest : IsInRange g.greatest
  pub counter : g.pmt_counter < 16
