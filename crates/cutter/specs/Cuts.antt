-- The segments of a stream: where it is cut, which plans come of it, and what fault it has.
use Rattle.std.specs.Prelude.{◌≡◌, ◌≢◌, ◌⊎◌, ℕ, ◌+◌, nat_le, List, [], ◌∷◌, ◌++◌, Option, Some, None, is_none, if◌then◌else◌}
use Rattle.ghost_list.specs.Lists.{IsBeginning}
use Rattle.psi_tables.specs.InForce.{InForce}
use Rattle.psi_tables.specs.Head.{packet_count}
use Rattle.pes_time.specs.declared.clock.Stamp.{Stamp}
use Rattle.cutter.specs.declared.settings.CutSettings.{CutSettings}
use Rattle.cutter.specs.declared.fault.CutFault.{CutFault}
use Rattle.cutter.specs.declared.fault.CutFault.TheVariants.{NoProgram, NoStart, LongSegment, BigSegment, Limit}
use Rattle.cutter.specs.Plans.{SegmentPlan}
use Rattle.cutter.specs.Stream.{Fact, facts, in_force, BringsParts, MayWantMemory}
use Rattle.cutter.specs.Points.{Mark, mark, counted, top_after}
use Rattle.cutter.specs.Segments.{Point, Segment, is_cut, plan_of, is_long, is_big}
use Rattle.limits.specs.declared.TheConstants.{LAST_SEGMENT}

-- how far a stream is cut: the last counted stamp, the segment that goes on, the plans of those before it, and the first
-- fault, behind which nothing is cut
pub record Cuts : Type 0 where
  pub top : Option Stamp
  pub going : Option Segment
  pub closed : List SegmentPlan
  pub fault : Option CutFault

abbrev pub uncut : Cuts
uncut = record { top = None; going = None; closed = []; fault = None }

abbrev pub faulted : List SegmentPlan → CutFault → Cuts
faulted closed fault = record { top = None; going = None; closed = closed; fault = Some fault }

abbrev pub made : Option SegmentPlan → List SegmentPlan
made None = []
made (Some plan) = plan ∷ []

-- the segment goes on, unless it has too many packets
abbrev pub going_on : CutSettings → Option Stamp → List SegmentPlan → Option SegmentPlan → Segment → Cuts
going_on s top closed plan g =
    if is_big s g.marks then faulted closed (BigSegment g.number)
    else record { top = top; going = Some g; closed = closed ++ made plan; fault = None }

abbrev pub with_mark : Segment → Mark → Segment
with_mark g m = record { number = g.number; previous = g.previous; head = g.head; pmt_packets = g.pmt_packets; marks = g.marks ++ m ∷ [] }

-- the first segment begins at the first counted point
abbrev pub first_segment : Point → Mark → Segment
first_segment p m = record { number = 0; previous = None; head = p; pmt_packets = 0; marks = m ∷ [] }

-- the next one begins at the next cut
abbrev pub next_segment : Segment → Point → Mark → Segment
next_segment g p m = record {
  number = g.number + 1;
  previous = Some g.head;
  head = p;
  pmt_packets = g.pmt_packets + packet_count g.head.tables.section;
  marks = m ∷ [];
}

-- The segment that goes on is closed at a cut: LongSegment is looked at first, then the new number, then the new size.
abbrev pub closing : ℕ → CutSettings → Option Stamp → List SegmentPlan → Segment → Point → Mark → Cuts
closing r s top closed g p m =
    if is_long s (plan_of r s g (Some p.stamp)) then faulted closed (LongSegment g.number)
    else (if nat_le LAST_SEGMENT g.number then faulted closed Limit
    else going_on s top closed (Some (plan_of r s g (Some p.stamp))) (next_segment g p m))

-- a packet that is no counted point
abbrev pub carried_on : CutSettings → Option Stamp → List SegmentPlan → Option Segment → Mark → Cuts
carried_on s top closed None m = record { top = top; going = None; closed = closed; fault = None }
carried_on s top closed (Some g) m = going_on s top closed None (with_mark g m)

-- a packet that is one
abbrev pub pointed : ℕ → CutSettings → Option Stamp → List SegmentPlan → Option Segment → Point → Mark → Cuts
pointed r s top closed None p m = going_on s top closed None (first_segment p m)
pointed r s top closed (Some g) p m =
    if is_cut s g.head p then closing r s top closed g p m else going_on s top closed None (with_mark g m)

-- a packet, by the tables before it
abbrev pub placed : ℕ → CutSettings → Option Stamp → List SegmentPlan → Option Segment → Option InForce → Option Stamp → Mark → Cuts
placed r s top closed going None c m = carried_on s top closed going m
placed r s top closed going (Some t) None m = carried_on s top closed going m
placed r s top closed going (Some t) (Some c) m = pointed r s top closed going (record { stamp = c; tables = t }) m

-- one packet more: a time out of range is looked at first
abbrev pub step : ℕ → CutSettings → Option CutFault → Cuts → Fact → Cuts
step r s (Some fault) a f = a
step r s None a f =
    if f.is_lost then faulted a.closed Limit
    else placed r s (top_after a.top (counted a.top f.look)) a.closed a.going f.tables (counted a.top f.look) (mark f.packet f.look (counted a.top f.look))

unfoldable pub cut_from : ℕ → CutSettings → Cuts → List Fact → Cuts
cut_from r s a [] = a
cut_from r s a (f ∷ fs) = cut_from r s (step r s a.fault a f) fs

-- how far a stream of these packets is cut
abbrev pub cuts : ℕ → CutSettings → List (List ℕ) → Cuts
cuts r s ps = cut_from r s uncut (facts s ps)

-- a segment goes on behind these packets
abbrev pub HasSegment : ℕ → CutSettings → List (List ℕ) → Type 0
HasSegment r s ps = (cuts r s ps).going ≢ None

-- the packet behind these may want memory: a segment goes on behind it, or it brings something to a section of the tables
abbrev pub MayWantBody : ℕ → CutSettings → List (List ℕ) → List ℕ → Type 0
MayWantBody r s before p = HasSegment r s (before ++ p ∷ []) ⊎ BringsParts s before p

-- the plans whose next cut has come
unfoldable pub closed : ℕ → CutSettings → List (List ℕ) → List SegmentPlan
closed r s ps = (cuts r s ps).closed

-- the fault at the end: no tables were ever in force, there is no cut, or the last segment is too long
abbrev pub end_fault : ℕ → CutSettings → Option InForce → Option Segment → Option CutFault
end_fault r s tables (Some g) = if is_long s (plan_of r s g None) then Some (LongSegment g.number) else None
end_fault r s None None = Some NoProgram
end_fault r s (Some t) None = Some NoStart

abbrev pub first_fault : Option CutFault → Option CutFault → Option CutFault
first_fault None later = later
first_fault (Some fault) later = Some fault

-- the fault of a stream that ends here
unfoldable pub fault : ℕ → CutSettings → List (List ℕ) → Option CutFault
fault r s ps = first_fault (cuts r s ps).fault (end_fault r s (in_force s ps) (cuts r s ps).going)

abbrev pub last_plan : ℕ → CutSettings → Option Segment → List SegmentPlan
last_plan r s None = []
last_plan r s (Some g) = plan_of r s g None ∷ []

-- the plans whose next cut, or the end of the stream, comes before the fault
unfoldable pub plans : ℕ → CutSettings → List (List ℕ) → List SegmentPlan
plans r s ps = closed r s ps ++ (if is_none (fault r s ps) then last_plan r s (cuts r s ps).going else [])

-- a stream has this fault, and these plans come before it
pub record Ends (r : ℕ) (s : CutSettings) (ps : List (List ℕ)) (told : CutFault) (given : List SegmentPlan) : Type 0 where
  pub fault : fault r s ps ≡ Some told
  pub plans : plans r s ps ≡ given

-- this fault, and the plans that come before it behind those that were there
pub record Gives (r : ℕ) (s : CutSettings) (ps : List (List ℕ)) (told : CutFault) (old new : List SegmentPlan) : Type 0 where
  pub fault : fault r s ps ≡ Some told
  pub plans : new ≡ old ++ plans r s ps

-- some plans behind those that were there, which are a prefix of the stream's
pub record GivesFront (r : ℕ) (s : CutSettings) (ps : List (List ℕ)) (old new : List SegmentPlan) : Type 0 where
  pub given : List SegmentPlan
  pub grown : new ≡ old ++ given
  pub front : IsBeginning given (plans r s ps)

-- memory is wanting at a packet that may want it, and neither it nor those before it bring a fault; behind the plans that
-- were there stand those that were closed before it
pub record StopsAtPacket (r : ℕ) (s : CutSettings) (ps : List (List ℕ)) (old new : List SegmentPlan) : Type 0 where
  pub before : List (List ℕ)
  pub packet : List ℕ
  pub behind : List (List ℕ)
  pub split : ps ≡ before ++ packet ∷ behind
  pub sound : (cuts r s (before ++ packet ∷ [])).fault ≡ None
  pub wants : MayWantMemory s before packet
  pub body : MayWantBody r s before packet
  pub plans : new ≡ old ++ closed r s before

-- memory is wanting at the end of a stream without a fault
pub record StopsAtEnd (r : ℕ) (s : CutSettings) (ps : List (List ℕ)) (old new : List SegmentPlan) : Type 0 where
  pub sound : fault r s ps ≡ None
  pub plans : new ≡ old ++ closed r s ps

abbrev pub Stops : ℕ → CutSettings → List (List ℕ) → List SegmentPlan → List SegmentPlan → Type 0
Stops r s ps old new = StopsAtPacket r s ps old new ⊎ StopsAtEnd r s ps old new
