-- The plans of a stream of bytes can be sealed.
use Rattle.std.proofs.Common.{ℕ, ◌%◌, Bool, true, false, List, [], ◌∷◌, ◌++◌, map, drop, Option, Some, None, subst, sym}
use Rattle.std.specs.Prelude.{if◌then◌else◌, is_none, nat_le}
use Rattle.std.specs.List.{All}
use Rattle.std.proofs.lemmas.List.Elements.{All-nil, All-cons, All-head, All-tail, All-append, All-push, All-same, All-take, All-drop}
use Rattle.ts_packet.specs.Packets.{packet_at, ArePackets, packets}
use Rattle.ghost_list.specs.Bytes.{IsByte, AreBytes}
use Rattle.ghost_list.proofs.ByteLists.{both_bytes, no_bytes}
use Rattle.psi_tables.specs.InForce.{InForce}
use Rattle.psi_tables.specs.Head.{head}
use Rattle.pes_time.specs.declared.clock.Stamp.{Stamp}
use Rattle.cutter.specs.declared.settings.CutSettings.{CutSettings}
use Rattle.cutter.specs.declared.fault.CutFault.{CutFault}
use Rattle.cutter.specs.declared.fault.CutFault.TheVariants.{LongSegment, BigSegment, Limit}
use Rattle.cutter.specs.Plans.{SegmentPlan}
use Rattle.cutter.specs.Stream.{is_packet, packet_list, packets_of, Fact, fact_behind, facts_from, facts}
use Rattle.cutter.specs.Points.{Mark, mark, counted, top_after}
use Rattle.cutter.specs.Segments.{Point, Segment, is_cut, plan_of, is_long, is_big, bytes_of, body_of}
use Rattle.cutter.specs.Cuts.{Cuts, faulted, made, going_on, with_mark, first_segment, next_segment, closing, carried_on, pointed, placed, cut_from, cuts, closed, fault, last_plan, plans}
use Rattle.ingest.specs.Streams.{plans_of}
use Rattle.ingest.specs.Sealable.{IsOfBytes}
use Rattle.ingest.proofs.HeadBytes.{of-head}
use Rattle.ingest.proofs.SectionBytes.{all_if}
use Rattle.ingest.proofs.TableBytes.{IfThere, CanGo, Goods, can-go}
use Rattle.ingest.proofs.Splitting.{on, stays, body-append}

-- a packet of bytes, behind tables that can be sent
record IsSound (f : Fact) : Type 0 where
  packet : AreBytes f.packet
  tables : IfThere CanGo f.tables

of-packets_of : (ps : List (List ℕ)) → All AreBytes ps → All AreBytes (packets_of ps)
unfolding packets_of
of-packets_of [] all = All-nil AreBytes
of-packets_of (p ∷ ps) all =
    All-append AreBytes (packet_list p) (packets_of ps)
    (all_if AreBytes (is_packet p) (p ∷ []) (All-cons AreBytes p [] (All-head AreBytes p ps all) (All-nil AreBytes)))
    (of-packets_of ps (All-tail AreBytes p ps all))

of-facts : Goods → (s : CutSettings) (before ps : List (List ℕ)) → All AreBytes before → All AreBytes ps → All IsSound (facts_from s before ps)
unfolding facts_from
of-facts goods s before [] b all = All-nil IsSound
of-facts goods s before (p ∷ ps) b all =
    let mine = All-head AreBytes p ps all in
    All-cons IsSound (fact_behind s before p) (facts_from s (before ++ p ∷ []) ps)
    (record { packet = mine; tables = can-go goods s.program (packets_of before) (of-packets_of before b) })
    (of-facts goods s (before ++ p ∷ []) ps (All-push AreBytes before p b mine) (All-tail AreBytes p ps all))

-- a segment that goes on
record GoesOn (g : Segment) : Type 0 where
  tables : CanGo g.head.tables
  body : AreBytes (body_of g.marks)

of-plan : (r : ℕ) (s : CutSettings) (g : Segment) (next : Option Stamp) → GoesOn g → IsOfBytes (plan_of r s g next)
unfolding plan_of
of-plan r s g next ok = record { tables = ok.tables.tables; bytes = both_bytes (head g.head.tables (g.number % 16) (g.pmt_packets % 16)) (body_of g.marks) (of-head g.head.tables (g.number % 16) (g.pmt_packets % 16) ok.tables.bytes) ok.body }

record AreSound (a : Cuts) : Type 0 where
  plans_are : All IsOfBytes a.closed
  going_is : IfThere GoesOn a.going

-- so it is however far packets are cut
abbrev Sound : ℕ → CutSettings → List Fact → Type 0
Sound r s fs = (top : Option Stamp) (going : Option Segment) (closed : List SegmentPlan) → IfThere GoesOn going → All IsOfBytes closed → AreSound (cut_from r s (on top going closed) fs)

of-fault : (r : ℕ) (s : CutSettings) (fs : List Fact) (closed : List SegmentPlan) (told : CutFault) → All IsOfBytes closed → AreSound (cut_from r s (faulted closed told) fs)
of-fault r s fs closed told all = subst AreSound (sym (stays r s closed told fs)) (record { plans_are = all; going_is = tt })

of-made : (plan : Option SegmentPlan) → IfThere IsOfBytes plan → All IsOfBytes (made plan)
of-made None h = All-nil IsOfBytes
of-made (Some plan) h = All-cons IsOfBytes plan [] h (All-nil IsOfBytes)

of-on : (r : ℕ) (s : CutSettings) (fs : List Fact) → Sound r s fs → (big : Bool) (top : Option Stamp) (closed : List SegmentPlan) (plan : Option SegmentPlan) (g : Segment)
    → All IsOfBytes closed → IfThere IsOfBytes plan → GoesOn g
    → AreSound (cut_from r s (if big then faulted closed (BigSegment g.number) else on top (Some g) (closed ++ made plan)) fs)
of-on r s fs ih true top closed plan g all p ok = of-fault r s fs closed (BigSegment g.number) all
of-on r s fs ih false top closed plan g all p ok = ih top (Some g) (closed ++ made plan) ok (All-append IsOfBytes closed (made plan) all (of-made plan p))

of-mark : (m : Mark) → AreBytes m.packet → AreBytes (body_of (m ∷ []))
of-mark m b = both_bytes (bytes_of m) [] (all_if IsByte m.look.is_accepted m.packet b) no_bytes

with-mark : (g : Segment) (m : Mark) → AreBytes m.packet → GoesOn g → GoesOn (with_mark g m)
with-mark g m b ok = record {
  tables = ok.tables;
  body = All-same IsByte (body_of (g.marks ++ m ∷ [])) (body_of g.marks ++ body_of (m ∷ [])) (body-append g.marks (m ∷ [])) (both_bytes (body_of g.marks) (body_of (m ∷ [])) ok.body (of-mark m b));
}

of-carried : (r : ℕ) (s : CutSettings) (fs : List Fact) → Sound r s fs → (top : Option Stamp) (closed : List SegmentPlan) (going : Option Segment) (m : Mark)
    → All IsOfBytes closed → IfThere GoesOn going → AreBytes m.packet → AreSound (cut_from r s (carried_on s top closed going m) fs)
of-carried r s fs ih top closed None m all ok b = ih top None closed tt all
of-carried r s fs ih top closed (Some g) m all ok b =
    of-on r s fs ih (is_big s (g.marks ++ m ∷ [])) top closed None (with_mark g m) all tt (with-mark g m b ok)

of-closing : (r : ℕ) (s : CutSettings) (fs : List Fact) → Sound r s fs → (long last : Bool) (top : Option Stamp) (closed : List SegmentPlan) (g : Segment) (p : Point) (m : Mark)
    → All IsOfBytes closed → GoesOn g → CanGo p.tables → AreBytes m.packet
    → AreSound (cut_from r s (if long then faulted closed (LongSegment g.number)
    else (if last then faulted closed Limit
    else going_on s top closed (Some (plan_of r s g (Some p.stamp))) (next_segment g p m))) fs)
of-closing r s fs ih true last top closed g p m all ok t b = of-fault r s fs closed (LongSegment g.number) all
of-closing r s fs ih false true top closed g p m all ok t b = of-fault r s fs closed Limit all
of-closing r s fs ih false false top closed g p m all ok t b =
    of-on r s fs ih (is_big s (m ∷ [])) top closed (Some (plan_of r s g (Some p.stamp))) (next_segment g p m) all (of-plan r s g (Some p.stamp) ok)
    (record { tables = t; body = of-mark m b })

of-cut : (r : ℕ) (s : CutSettings) (fs : List Fact) → Sound r s fs → (cut : Bool) (top : Option Stamp) (closed : List SegmentPlan) (g : Segment) (p : Point) (m : Mark)
    → All IsOfBytes closed → GoesOn g → CanGo p.tables → AreBytes m.packet
    → AreSound (cut_from r s (if cut then closing r s top closed g p m else going_on s top closed None (with_mark g m)) fs)
of-cut r s fs ih true top closed g p m all ok t b = of-closing r s fs ih (is_long s (plan_of r s g (Some p.stamp))) (nat_le 0xFFFFFFFE g.number) top closed g p m all ok t b
of-cut r s fs ih false top closed g p m all ok t b = of-on r s fs ih (is_big s (g.marks ++ m ∷ [])) top closed None (with_mark g m) all tt (with-mark g m b ok)

of-pointed : (r : ℕ) (s : CutSettings) (fs : List Fact) → Sound r s fs → (top : Option Stamp) (closed : List SegmentPlan) (going : Option Segment) (p : Point) (m : Mark)
    → All IsOfBytes closed → IfThere GoesOn going → CanGo p.tables → AreBytes m.packet → AreSound (cut_from r s (pointed r s top closed going p m) fs)
of-pointed r s fs ih top closed None p m all ok t b =
    of-on r s fs ih (is_big s (m ∷ [])) top closed None (first_segment p m) all tt (record { tables = t; body = of-mark m b })
of-pointed r s fs ih top closed (Some g) p m all ok t b = of-cut r s fs ih (is_cut s g.head p) top closed g p m all ok t b

of-placed : (r : ℕ) (s : CutSettings) (fs : List Fact) → Sound r s fs → (top : Option Stamp) (closed : List SegmentPlan) (going : Option Segment) (tables : Option InForce) (c : Option Stamp) (m : Mark)
    → All IsOfBytes closed → IfThere GoesOn going → IfThere CanGo tables → AreBytes m.packet → AreSound (cut_from r s (placed r s top closed going tables c m) fs)
of-placed r s fs ih top closed going None c m all ok t b = of-carried r s fs ih top closed going m all ok b
of-placed r s fs ih top closed going (Some tables) None m all ok t b = of-carried r s fs ih top closed going m all ok b
of-placed r s fs ih top closed going (Some tables) (Some c) m all ok t b = of-pointed r s fs ih top closed going (record { stamp = c; tables = tables }) m all ok t b

of-step : (r : ℕ) (s : CutSettings) (fs : List Fact) → Sound r s fs → (lost : Bool) (f : Fact) (top : Option Stamp) (going : Option Segment) (closed : List SegmentPlan)
    → All IsOfBytes closed → IfThere GoesOn going → IsSound f
    → AreSound (cut_from r s (if lost then faulted closed Limit
    else placed r s (top_after top (counted top f.look)) closed going f.tables (counted top f.look) (mark f.packet f.look (counted top f.look))) fs)
of-step r s fs ih true f top going closed all ok sound = of-fault r s fs closed Limit all
of-step r s fs ih false f top going closed all ok sound =
    of-placed r s fs ih (top_after top (counted top f.look)) closed going f.tables (counted top f.look) (mark f.packet f.look (counted top f.look)) all ok sound.tables sound.packet

sound : (r : ℕ) (s : CutSettings) (fs : List Fact) → All IsSound fs → Sound r s fs
unfolding cut_from
sound r s [] each top going closed ok all = record { plans_are = all; going_is = ok }
sound r s (f ∷ fs) each top going closed ok all =
    of-step r s fs (sound r s fs (All-tail IsSound f fs each)) f.is_lost f top going closed all ok (All-head IsSound f fs each)

of-last : (r : ℕ) (s : CutSettings) (going : Option Segment) → IfThere GoesOn going → All IsOfBytes (last_plan r s going)
of-last r s None ok = All-nil IsOfBytes
of-last r s (Some g) ok = All-cons IsOfBytes (plan_of r s g None) [] (of-plan r s g None ok) (All-nil IsOfBytes)

of-plans : Goods → (r : ℕ) (s : CutSettings) (ps : List (List ℕ)) → All AreBytes ps → All IsOfBytes (plans r s ps)
unfolding plans closed
of-plans goods r s ps all =
    let a = cuts r s ps in
    let are : AreSound a = sound r s (facts s ps) (of-facts goods s [] ps (All-nil AreBytes) all) None None [] tt (All-nil IsOfBytes) in
    All-append IsOfBytes a.closed (if is_none (fault r s ps) then last_plan r s a.going else []) are.plans_are (all_if IsOfBytes (is_none (fault r s ps)) (last_plan r s a.going) (of-last r s a.going are.going_is))

all-at : (stream : List ℕ) (ps : List ℕ) → AreBytes stream → All AreBytes (map (packet_at stream) ps)
all-at stream [] all = All-nil AreBytes
all-at stream (p ∷ ps) all = All-cons AreBytes (packet_at stream p) (map (packet_at stream) ps) (All-take IsByte 188 (drop p stream) (All-drop IsByte p stream all)) (all-at stream ps all)

abbrev pub At : Type 0
At = (stream : List ℕ) → ArePackets stream (packets stream)

pub of-stream : Goods → At → (r : ℕ) (s : CutSettings) (stream : List ℕ) → AreBytes stream → All IsOfBytes (plans_of r s stream)
unfolding plans_of
of-stream goods at r s stream all =
    let there = at stream in
    of-plans goods r s (packets stream) (subst (All AreBytes) (sym there.2) (all-at stream there.0 all))
