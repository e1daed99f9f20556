-- The bodies of segments are the accepted packets of their stream.
use Rattle.std.proofs.Common.{◌≡◌, ◌∙◌, ℕ, Bool, true, false, List, [], ◌∷◌, ◌++◌, Option, Some, None, refl, ap, sym, append_assoc}
use Rattle.std.specs.Prelude.{is_none, if◌then◌else◌, nat_le}
use Rattle.std.proofs.lemmas.List.{append-nil}
use Rattle.std.proofs.lemmas.Grind.{flat_map-append}
use Rattle.ghost_list.specs.Lists.{IsBeginning}
use Rattle.psi_tables.specs.InForce.{InForce}
use Rattle.pes_time.specs.declared.clock.Stamp.{Stamp}
use Rattle.cutter.specs.declared.settings.CutSettings.{CutSettings}
use Rattle.cutter.specs.declared.fault.CutFault.{CutFault}
use Rattle.cutter.specs.declared.fault.CutFault.TheVariants.{LongSegment, BigSegment, Limit}
use Rattle.cutter.specs.Plans.{SegmentPlan}
use Rattle.cutter.specs.Stream.{Fact, facts, in_force}
use Rattle.cutter.specs.Points.{Mark, mark, counted, top_after}
use Rattle.cutter.specs.Segments.{Point, Segment, is_cut, plan_of, is_long, is_big, bytes_of, body_of}
use Rattle.cutter.specs.Dividing.{Sight, point_at, sights_from, marks_of}
use Rattle.cutter.specs.Cuts.{Cuts, faulted, made, going_on, with_mark, first_segment, next_segment, closing, carried_on, pointed, placed, cut_from, cuts, closed, end_fault, first_fault, fault, last_plan, plans}
use Rattle.ingest.specs.Output.{from_first, output, bodies, BeginWith}

-- the packets so far of a segment that goes on
abbrev own : Option Segment → List ℕ
own None = []
own (Some g) = body_of g.marks

-- what goes into segments of packets that come behind
abbrev ahead : Option Segment → List Sight → List ℕ
ahead None xs = body_of (marks_of (from_first xs))
ahead (Some g) xs = body_of (marks_of xs)

-- all of some output: the bodies of the closed segments, and then the rest, which is of the segment that goes on where
-- there is no fault
record Splits (all : List ℕ) (a : Cuts) : Type 0 where
  rest : List ℕ
  split : all ≡ bodies a.closed ++ rest
  sound : a.fault ≡ None → rest ≡ own a.going

abbrev pub on : Option Stamp → Option Segment → List SegmentPlan → Cuts
on top going closed = record { top = top; going = going; closed = closed; fault = None }

-- so it is however far packets are cut
abbrev Cuttable : ℕ → CutSettings → List Fact → Type 0
Cuttable r s fs = (top : Option Stamp) (going : Option Segment) (closed : List SegmentPlan) (all : List ℕ)
    → all ≡ bodies closed ++ (own going ++ ahead going (sights_from top fs)) → Splits all (cut_from r s (on top going closed) fs)

bodies-append : (xs ys : List SegmentPlan) → bodies (xs ++ ys) ≡ bodies xs ++ bodies ys
bodies-append xs ys = flat_map-append (λ plan. plan.body) xs ys

pub body-append : (xs ys : List Mark) → body_of (xs ++ ys) ≡ body_of xs ++ body_of ys
body-append xs ys = flat_map-append bytes_of xs ys

-- behind a fault nothing is cut
pub stays : (r : ℕ) (s : CutSettings) (closed : List SegmentPlan) (told : CutFault) (fs : List Fact) → cut_from r s (faulted closed told) fs ≡ faulted closed told
unfolding cut_from
stays r s closed told [] = refl
stays r s closed told (f ∷ fs) = stays r s closed told fs

at-fault : (all : List ℕ) (closed : List SegmentPlan) (told : CutFault) (rest : List ℕ) → all ≡ bodies closed ++ rest → Splits all (faulted closed told)
at-fault all closed told rest e = record { rest = rest; split = e; sound = λ none. cc }

splits-fault : (r : ℕ) (s : CutSettings) (closed : List SegmentPlan) (told : CutFault) (fs : List Fact) (all rest : List ℕ)
    → all ≡ bodies closed ++ rest → Splits all (cut_from r s (faulted closed told) fs)
splits-fault r s closed told fs all rest e = rw (stays r s closed told fs) (at-fault all closed told rest e)

-- a segment that goes on, unless it is too big
splits-on : (r : ℕ) (s : CutSettings) (fs : List Fact) → Cuttable r s fs → (big : Bool) (top : Option Stamp) (closed : List SegmentPlan) (plan : Option SegmentPlan) (g : Segment) (all : List ℕ)
    → all ≡ bodies closed ++ (bodies (made plan) ++ (body_of g.marks ++ body_of (marks_of (sights_from top fs))))
    → Splits all (cut_from r s (if big then faulted closed (BigSegment g.number) else on top (Some g) (closed ++ made plan)) fs)
splits-on r s fs ih true top closed plan g all e = splits-fault r s closed (BigSegment g.number) fs all _ e
splits-on r s fs ih false top closed plan g all e =
    ih top (Some g) (closed ++ made plan) all
    (e ∙ (sym (append_assoc (bodies closed) (bodies (made plan)) _) ∙ ap (λ l. l ++ (body_of g.marks ++ body_of (marks_of (sights_from top fs)))) (sym (bodies-append closed (made plan)))))

-- one packet more of a segment
more-own : (closed : List SegmentPlan) (g : Segment) (m : Mark) (xs : List Mark)
    → bodies closed ++ (body_of g.marks ++ body_of (m ∷ xs)) ≡ bodies closed ++ (body_of (g.marks ++ m ∷ []) ++ body_of xs)
more-own closed g m xs = ap (λ l. bodies closed ++ l)
    (sym (append_assoc (body_of g.marks) (bytes_of m) (body_of xs))
    ∙ ap (λ l. l ++ body_of xs) (ap (λ l. body_of g.marks ++ l) (sym (append-nil (bytes_of m))) ∙ sym (body-append g.marks (m ∷ []))))

-- a packet that is no counted point
splits-carried : (r : ℕ) (s : CutSettings) (fs : List Fact) → Cuttable r s fs → (top : Option Stamp) (closed : List SegmentPlan) (going : Option Segment) (m : Mark) (all : List ℕ)
    → all ≡ bodies closed ++ (own going ++ ahead going (record { mark = m; point = None } ∷ sights_from top fs))
    → Splits all (cut_from r s (carried_on s top closed going m) fs)
unfolding from_first
splits-carried r s fs ih top closed None m all e = ih top None closed all e
splits-carried r s fs ih top closed (Some g) m all e =
    splits-on r s fs ih (is_big s (g.marks ++ m ∷ [])) top closed None (with_mark g m) all (e ∙ more-own closed g m (marks_of (sights_from top fs)))

splits-closing : (r : ℕ) (s : CutSettings) (fs : List Fact) → Cuttable r s fs → (long last : Bool) (top : Option Stamp) (closed : List SegmentPlan) (g : Segment) (p : Point) (m : Mark) (all : List ℕ)
    → all ≡ bodies closed ++ (body_of g.marks ++ body_of (m ∷ marks_of (sights_from top fs)))
    → Splits all (cut_from r s (if long then faulted closed (LongSegment g.number)
    else (if last then faulted closed Limit
    else going_on s top closed (Some (plan_of r s g (Some p.stamp))) (next_segment g p m))) fs)
unfolding plan_of
splits-closing r s fs ih true last top closed g p m all e = splits-fault r s closed (LongSegment g.number) fs all _ e
splits-closing r s fs ih false true top closed g p m all e = splits-fault r s closed Limit fs all _ e
splits-closing r s fs ih false false top closed g p m all e =
    splits-on r s fs ih (is_big s (m ∷ [])) top closed (Some (plan_of r s g (Some p.stamp))) (next_segment g p m) all
    (e ∙ ap (λ l. bodies closed ++ l)
    (ap (λ l. body_of g.marks ++ l) (ap (λ l. l ++ body_of (marks_of (sights_from top fs))) (sym (append-nil (bytes_of m))))
    ∙ ap (λ l. l ++ (body_of (m ∷ []) ++ body_of (marks_of (sights_from top fs)))) (sym (append-nil (body_of g.marks)))))

splits-at : (r : ℕ) (s : CutSettings) (fs : List Fact) → Cuttable r s fs → (cut : Bool) (top : Option Stamp) (closed : List SegmentPlan) (g : Segment) (p : Point) (m : Mark) (all : List ℕ)
    → all ≡ bodies closed ++ (body_of g.marks ++ body_of (m ∷ marks_of (sights_from top fs)))
    → Splits all (cut_from r s (if cut then closing r s top closed g p m else going_on s top closed None (with_mark g m)) fs)
splits-at r s fs ih true top closed g p m all e =
    splits-closing r s fs ih (is_long s (plan_of r s g (Some p.stamp))) (nat_le 0xFFFFFFFE g.number) top closed g p m all e
splits-at r s fs ih false top closed g p m all e =
    splits-on r s fs ih (is_big s (g.marks ++ m ∷ [])) top closed None (with_mark g m) all (e ∙ more-own closed g m (marks_of (sights_from top fs)))

-- a packet that is one
splits-pointed : (r : ℕ) (s : CutSettings) (fs : List Fact) → Cuttable r s fs → (top : Option Stamp) (closed : List SegmentPlan) (going : Option Segment) (p : Point) (m : Mark) (all : List ℕ)
    → all ≡ bodies closed ++ (own going ++ ahead going (record { mark = m; point = Some p } ∷ sights_from top fs))
    → Splits all (cut_from r s (pointed r s top closed going p m) fs)
unfolding from_first
splits-pointed r s fs ih top closed None p m all e =
    splits-on r s fs ih (is_big s (m ∷ [])) top closed None (first_segment p m) all
    (e ∙ ap (λ l. bodies closed ++ l) (ap (λ l. l ++ body_of (marks_of (sights_from top fs))) (sym (append-nil (bytes_of m)))))
splits-pointed r s fs ih top closed (Some g) p m all e = splits-at r s fs ih (is_cut s g.head p) top closed g p m all e

splits-placed : (r : ℕ) (s : CutSettings) (fs : List Fact) → Cuttable r s fs → (top : Option Stamp) (closed : List SegmentPlan) (going : Option Segment) (tables : Option InForce) (c : Option Stamp) (m : Mark) (all : List ℕ)
    → all ≡ bodies closed ++ (own going ++ ahead going (record { mark = m; point = point_at tables c } ∷ sights_from top fs))
    → Splits all (cut_from r s (placed r s top closed going tables c m) fs)
splits-placed r s fs ih top closed going None c m all e = splits-carried r s fs ih top closed going m all e
splits-placed r s fs ih top closed going (Some t) None m all e = splits-carried r s fs ih top closed going m all e
splits-placed r s fs ih top closed going (Some t) (Some c) m all e = splits-pointed r s fs ih top closed going (record { stamp = c; tables = t }) m all e

splits-step : (r : ℕ) (s : CutSettings) (fs : List Fact) → Cuttable r s fs → (lost : Bool) (f : Fact) (top : Option Stamp) (going : Option Segment) (closed : List SegmentPlan) (all : List ℕ)
    → all ≡ bodies closed ++ (own going ++ ahead going (sights_from top (f ∷ fs)))
    → Splits all (cut_from r s (if lost then faulted closed Limit
    else placed r s (top_after top (counted top f.look)) closed going f.tables (counted top f.look) (mark f.packet f.look (counted top f.look))) fs)
unfolding sights_from
splits-step r s fs ih true f top going closed all e = splits-fault r s closed Limit fs all _ e
splits-step r s fs ih false f top going closed all e =
    splits-placed r s fs ih (top_after top (counted top f.look)) closed going f.tables (counted top f.look) (mark f.packet f.look (counted top f.look)) all e

none-ahead : (going : Option Segment) → own going ++ ahead going [] ≡ own going
unfolding from_first
none-ahead None = refl
none-ahead (Some g) = append-nil (body_of g.marks)

cuttable : (r : ℕ) (s : CutSettings) (fs : List Fact) → Cuttable r s fs
unfolding cut_from sights_from
cuttable r s [] top going closed all e = record { rest = own going; split = e ∙ ap (λ l. bodies closed ++ l) (none-ahead going); sound = λ none. refl }
cuttable r s (f ∷ fs) top going closed all e = splits-step r s fs (cuttable r s fs) f.is_lost f top going closed all e

splits : (r : ℕ) (s : CutSettings) (ps : List (List ℕ)) → Splits (output s ps) (cuts r s ps)
splits r s ps = cuttable r s (facts s ps) None None [] (output s ps) refl

none-first : (a b : Option CutFault) → first_fault a b ≡ None → a ≡ None
none-first None b e = refl
none-first (Some told) b e = cc

bodies-last : (r : ℕ) (s : CutSettings) (going : Option Segment) → bodies (last_plan r s going) ≡ own going
unfolding plan_of
bodies-last r s None = refl
bodies-last r s (Some g) = append-nil (body_of g.marks)

-- all bodies of a stream without a fault
pub whole : (r : ℕ) (s : CutSettings) (ps : List (List ℕ)) → fault r s ps ≡ None → bodies (plans r s ps) ≡ output s ps
unfolding plans closed fault
whole r s ps e =
    let a = cuts r s ps in
    let all = splits r s ps in
    let none : a.fault ≡ None = none-first a.fault (end_fault r s (in_force s ps) a.going) e in
    ap (λ (f : Option CutFault). bodies (a.closed ++ (if is_none f then last_plan r s a.going else []))) e
    ∙ (bodies-append a.closed (last_plan r s a.going)
    ∙ (ap (λ l. bodies a.closed ++ l) (bodies-last r s a.going ∙ sym (all.sound none)) ∙ sym all.split))

by-fault : (r : ℕ) (s : CutSettings) (ps : List (List ℕ)) (told : Option CutFault) → told ≡ fault r s ps → BeginWith (output s ps) (plans r s ps)
unfolding plans closed fault
by-fault r s ps None e = record { rest = []; split = sym (append-nil _ ∙ whole r s ps (sym e)) }
by-fault r s ps (Some told) e =
    let a = cuts r s ps in
    let all = splits r s ps in
    record {
      rest = all.rest;
      split = all.split
          ∙ ap (λ l. bodies l ++ all.rest) (sym (append-nil a.closed) ∙ ap (λ (f : Option CutFault). a.closed ++ (if is_none f then last_plan r s a.going else [])) e);
    }

-- the bodies of plans that begin those of a stream
pub front : (r : ℕ) (s : CutSettings) (ps : List (List ℕ)) (given : List SegmentPlan) → IsBeginning given (plans r s ps) → BeginWith (output s ps) given
front r s ps given (more, e) =
    let all = by-fault r s ps (fault r s ps) refl in
    record {
      rest = bodies more ++ all.rest;
      split = all.split ∙ (ap (λ l. bodies l ++ all.rest) e ∙ (ap (λ l. l ++ all.rest) (bodies-append given more) ∙ append_assoc (bodies given) (bodies more) all.rest));
    }
