-- A reel whose body grows, or is closed.
use Rattle.std.proofs.Common.{◌≡◌, ◌∙◌, ℕ, ◌+◌, ◌-◌, true, false, List, [], ◌∷◌, ◌++◌, length, drop, None, refl, sym, ap, subst, arith}
use Rattle.std.specs.Prelude.{slice_range}
use Rattle.std.proofs.lemmas.List.{append-nil, length-append, length-drop, drop-append-le}
use Rattle.pes_time.specs.declared.clock.Stamp.{Stamp}
use Rattle.cutter.specs.Plans.{SegmentPlan}
use Rattle.cutter.specs.Points.{Mark}
use Rattle.cutter.specs.Segments.{bytes_of}
use Rattle.cutter.specs.declared.plan.Frame.{Frame}
use Rattle.cutter.specs.declared.reel.PlanAt.{PlanAt}
use Rattle.cutter.specs.declared.reel.Reel.TheInside.{Inside}
use Rattle.cutter.specs.Framing.{framed, end_of, pending_at, IsWithin}
use Rattle.cutter.specs.Reels.{Filled, labelled, plan_in, plans_in, AreWithin, AreJoined, filled_by, unfilled, IsLaid}
use Rattle.cutter.proofs.PlansAt.{within_more, within_last, within_less, alone_in_front, joined_last, joined_less, joined_end, front_same, last_same, part_rest, within_last_one, pending_more, part_more, plans_at_more, plans_at_last, past_is, past_more, rest_is}

-- there are these bytes and I-frames more
pub record Grows (s t : Inside) (more : List ℕ) (others : List Frame) : Type 0 where
  pub bytes : t.bytes.items ≡ s.bytes.items ++ more
  pub frames : t.frames.items ≡ s.frames.items ++ others

-- and the same plans are closed
pub record Lengthens (s t : Inside) (more : List ℕ) (others : List Frame) : Type 0 where
  pub grows : Grows s t more others
  pub plans_at : t.plans_at.items ≡ s.plans_at.items
  pub body_at : t.body_at ≡ s.body_at
  pub frames_at : t.frames_at ≡ s.frames_at

bytes_len : (s t : Inside) (more : List ℕ) (others : List Frame) → Grows s t more others → length t.bytes.items ≡ length s.bytes.items + length more
bytes_len s t more others g = ap (λ (l : List ℕ). length l) g.bytes ∙ length-append s.bytes.items more

frames_len : (s t : Inside) (more : List ℕ) (others : List Frame) → Grows s t more others → length t.frames.items ≡ length s.frames.items + length others
frames_len s t more others g = ap (λ (l : List Frame). length l) g.frames ∙ length-append s.frames.items others

plans_same : (s t : Inside) (more : List ℕ) (others : List Frame) → IsLaid s → Grows s t more others
    → plans_in t.bytes.items t.frames.items s.plans_at.items ≡ plans_in s.bytes.items s.frames.items s.plans_at.items
plans_same s t more others laid g =
    (λ i. plans_in (g.bytes i) (g.frames i) s.plans_at.items) ∙ plans_at_more s.bytes.items more s.frames.items others s.plans_at.items laid.within

pub longer_plans : (s t : Inside) (more : List ℕ) (others : List Frame) → IsLaid s → Lengthens s t more others
    → plans_in t.bytes.items t.frames.items t.plans_at.items ≡ plans_in s.bytes.items s.frames.items s.plans_at.items
longer_plans s t more others laid l = ap (plans_in t.bytes.items t.frames.items) l.plans_at ∙ plans_same s t more others laid l.grows

pub longer_laid : (s t : Inside) (more : List ℕ) (others : List Frame) → IsLaid s → Lengthens s t more others → IsWithin t.pending (length t.bytes.items - t.body_at) → IsLaid t
longer_laid s t more others laid l pending =
    let b = bytes_len s t more others l.grows in
    let f = frames_len s t more others l.grows in
    record {
      within = rw l.plans_at (within_more _ _ _ _ s.plans_at.items (omega (arith, b)) (omega (arith, f)) laid.within);
      body = omega (arith, b, l.body_at, laid.body);
      frames = omega (arith, f, l.frames_at, laid.frames);
      pending = pending;
      joined = rw (l.plans_at, l.body_at, l.frames_at) laid.joined;
    }

-- the I-frame that went on still lies in the body
pub still_within : (s t : Inside) (more : List ℕ) (others : List Frame) → IsLaid s → Lengthens s t more others → t.pending ≡ s.pending → IsWithin t.pending (length t.bytes.items - t.body_at)
still_within s t more others laid l same =
    rw same (pending_more s.pending _ _ (omega (arith, bytes_len s t more others l.grows, l.body_at, laid.body)) laid.pending)

-- so does one that begins behind the old bytes
pub then_within : (s t : Inside) (more : List ℕ) (others : List Frame) → IsLaid s → Lengthens s t more others → IsWithin t.pending (length s.bytes.items - s.body_at) → IsWithin t.pending (length t.bytes.items - t.body_at)
then_within s t more others laid l at =
    pending_more t.pending _ _ (omega (arith, bytes_len s t more others l.grows, l.body_at, laid.body)) at

pub longer_is : (s t : Inside) (more : List ℕ) (others : List Frame) → IsLaid s → Lengthens s t more others → filled_by t ≡ record {
  plans = plans_in s.bytes.items s.frames.items s.plans_at.items;
  body = drop s.body_at s.bytes.items ++ more;
  framing = record { ended = drop s.frames_at s.frames.items ++ others; pending = t.pending; offset = (length s.bytes.items - s.body_at) + length more };
}
longer_is s t more others laid l =
    let b = bytes_len s t more others l.grows in
    let body : drop t.body_at t.bytes.items ≡ drop s.body_at s.bytes.items ++ more = (λ i. drop (l.body_at i) (l.grows.bytes i)) ∙ drop-append-le s.body_at s.bytes.items more laid.body in
    let ended : drop t.frames_at t.frames.items ≡ drop s.frames_at s.frames.items ++ others = (λ i. drop (l.frames_at i) (l.grows.frames i)) ∙ drop-append-le s.frames_at s.frames.items others laid.frames in
    let offset : length t.bytes.items - t.body_at ≡ (length s.bytes.items - s.body_at) + length more = omega (arith, b, l.body_at, laid.body) in
    λ i. record { plans = longer_plans s t more others laid l i; body = body i; framing = record { ended = ended i; pending = t.pending; offset = offset i } }

-- with a packet in which a video start is, and in which none is
abbrev with_packet : Stamp → Filled → Mark → Filled
with_packet head f m = record { plans = f.plans; body = f.body ++ bytes_of m; framing = framed head f.framing m }

pub started_is : (s t : Inside) (v : Filled) (head : Stamp) (m : Mark) → IsLaid s → filled_by s ≡ v → m.look.starts_video ≡ true
    → Lengthens s t (bytes_of m) (end_of s.pending (length s.bytes.items - s.body_at)) → t.pending ≡ pending_at head (length s.bytes.items - s.body_at) m.counted
    → filled_by t ≡ with_packet head v m
started_is s t v head m laid is starts l pending =
    longer_is s t _ _ laid l ∙ (rw (← is, starts, pending) refl)

pub unstarted_is : (s t : Inside) (v : Filled) (head : Stamp) (m : Mark) → IsLaid s → filled_by s ≡ v → m.look.starts_video ≡ false
    → Lengthens s t (bytes_of m) [] → t.pending ≡ s.pending → filled_by t ≡ with_packet head v m
unstarted_is s t v head m laid is starts l pending =
    longer_is s t _ _ laid l ∙ (rw (← is, starts, pending) (ap (λ (ended : List Frame). record {
      plans = plans_in s.bytes.items s.frames.items s.plans_at.items;
      body = drop s.body_at s.bytes.items ++ bytes_of m;
      framing = record { ended = ended; pending = s.pending; offset = (length s.bytes.items - s.body_at) + length (bytes_of m) };
    }) (append-nil _)))

-- the body that went on is closed, and the rest goes on
pub record Ends (s t : Inside) (plan_at : PlanAt) (more : List ℕ) (others : List Frame) : Type 0 where
  pub grows : Grows s t more others
  pub plans_at : t.plans_at.items ≡ s.plans_at.items ++ plan_at ∷ []
  pub at : plan_at.body_at ≡ s.body_at
  pub end : plan_at.body_end ≡ length s.bytes.items
  pub frames_at : plan_at.frames_at ≡ s.frames_at
  pub frames_end : plan_at.frames_end ≡ length t.frames.items
  pub next_at : t.body_at ≡ length s.bytes.items
  pub next_frames_at : t.frames_at ≡ length t.frames.items

pub ends_laid : (s t : Inside) (plan_at : PlanAt) (more : List ℕ) (others : List Frame) → IsLaid s → Ends s t plan_at more others → IsWithin t.pending 0 → IsLaid t
ends_laid s t plan_at more others laid e pending =
    let b = bytes_len s t more others e.grows in
    let f = frames_len s t more others e.grows in
    record {
      within = rw e.plans_at (within_last _ _ s.plans_at.items plan_at (within_more _ _ _ _ s.plans_at.items (omega (arith, b)) (omega (arith, f)) laid.within)
          (omega (arith, e.at, e.end, laid.body)) (omega (arith, e.end, b)) (omega (arith, e.frames_at, e.frames_end, f, laid.frames)) (omega (arith, e.frames_end)));
      body = omega (arith, b, e.next_at);
      frames = omega (arith, e.next_frames_at);
      pending = pending_more t.pending 0 _ (omega arith) pending;
      joined = rw e.plans_at (joined_last 0 0 s.body_at s.frames_at t.body_at t.frames_at s.plans_at.items plan_at laid.joined e.at e.frames_at
          (e.end ∙ sym e.next_at) (e.frames_end ∙ sym e.next_frames_at));
    }

pub ends_is : (s t : Inside) (plan_at : PlanAt) (more : List ℕ) (others : List Frame) → IsLaid s → Ends s t plan_at more others → filled_by t ≡ record {
  plans = plans_in s.bytes.items s.frames.items s.plans_at.items ++ labelled plan_at.label (drop s.body_at s.bytes.items) (drop s.frames_at s.frames.items ++ others) ∷ [];
  body = more;
  framing = record { ended = []; pending = t.pending; offset = length more };
}
ends_is s t plan_at more others laid e =
    let b = bytes_len s t more others e.grows in
    let own : slice_range t.bytes.items plan_at.body_at plan_at.body_end ≡ drop s.body_at s.bytes.items =
    (λ i. slice_range (e.grows.bytes i) (e.at i) (e.end i)) ∙ part_more s.bytes.items more s.body_at (length s.bytes.items) laid.body (omega arith) ∙ rest_is s.bytes.items s.body_at in
    let shots : slice_range t.frames.items plan_at.frames_at plan_at.frames_end ≡ drop s.frames_at s.frames.items ++ others =
    (λ i. slice_range t.frames.items (e.frames_at i) (e.frames_end i)) ∙ rest_is t.frames.items s.frames_at ∙ ap (drop s.frames_at) e.grows.frames ∙ drop-append-le s.frames_at s.frames.items others laid.frames in
    let plans : plans_in t.bytes.items t.frames.items t.plans_at.items ≡ plans_in s.bytes.items s.frames.items s.plans_at.items ++ labelled plan_at.label (drop s.body_at s.bytes.items) (drop s.frames_at s.frames.items ++ others) ∷ [] =
    ap (plans_in t.bytes.items t.frames.items) e.plans_at ∙ plans_at_last t.bytes.items t.frames.items s.plans_at.items plan_at
    ∙ (λ i. plans_same s t more others laid e.grows i ++ labelled plan_at.label (own i) (shots i) ∷ []) in
    let body : drop t.body_at t.bytes.items ≡ more = (λ i. drop (e.next_at i) (e.grows.bytes i)) ∙ past_more s.bytes.items more in
    let ended : drop t.frames_at t.frames.items ≡ [] = ap (λ n. drop n t.frames.items) e.next_frames_at ∙ past_is t.frames.items in
    let offset : length t.bytes.items - t.body_at ≡ length more = omega (arith, b, e.next_at) in
    λ i. record { plans = plans i; body = body i; framing = record { ended = ended i; pending = t.pending; offset = offset i } }

-- without its last plan
pub record Reopens (s t : Inside) (plan_at : PlanAt) : Type 0 where
  pub bytes : t.bytes ≡ s.bytes
  pub frames : t.frames ≡ s.frames
  pub plans_at : s.plans_at.items ≡ t.plans_at.items ++ plan_at ∷ []
  pub at : t.body_at ≡ plan_at.body_at
  pub frames_at : t.frames_at ≡ plan_at.frames_at
  pub pending : t.pending ≡ None

pub reopens_laid : (s t : Inside) (plan_at : PlanAt) → IsLaid s → Reopens s t plan_at → IsLaid t
reopens_laid s t plan_at laid r =
    let within = within_less _ _ t.plans_at.items plan_at (subst (AreWithin (length s.bytes.items) (length s.frames.items)) r.plans_at laid.within) in
    record {
      within = rw (r.bytes, r.frames) within.0;
      body = rw (r.bytes, r.at) within.1;
      frames = rw (r.frames, r.frames_at) within.2;
      pending = rw r.pending tt;
      joined = rw (r.at, r.frames_at) (joined_less 0 0 s.body_at s.frames_at t.plans_at.items plan_at (subst (AreJoined 0 0 s.body_at s.frames_at) r.plans_at laid.joined));
    }

-- the last plan lies where the last plan_at says
reopened : (s : Inside) (v : Filled) (plan_at : PlanAt) (plans_at : List PlanAt) (plans : List SegmentPlan) (last : SegmentPlan) → filled_by s ≡ v
    → s.plans_at.items ≡ plans_at ++ plan_at ∷ [] → v.plans ≡ plans ++ last ∷ [] → plan_in s.bytes.items s.frames.items plan_at ≡ last
reopened s v plan_at plans_at plans last is behind whole =
    last_same (plans_in s.bytes.items s.frames.items plans_at) plans (plan_in s.bytes.items s.frames.items plan_at) last
    (sym (plans_at_last s.bytes.items s.frames.items plans_at plan_at) ∙ ap (plans_in s.bytes.items s.frames.items) (sym behind) ∙ ap (λ (f : Filled). f.plans) is ∙ whole)

pub reopens_is : (s t : Inside) (v : Filled) (plan_at : PlanAt) (plans : List SegmentPlan) (last : SegmentPlan) → filled_by s ≡ v → Reopens s t plan_at → v.plans ≡ plans ++ last ∷ []
    → plans_in t.bytes.items t.frames.items t.plans_at.items ≡ plans
reopens_is s t v plan_at plans last is r whole =
    let same : plans_in t.bytes.items t.frames.items t.plans_at.items ≡ plans_in s.bytes.items s.frames.items t.plans_at.items = λ i. plans_in (r.bytes i).items (r.frames i).items t.plans_at.items in
    same ∙ front_same _ plans (plan_in s.bytes.items s.frames.items plan_at) last
    (sym (plans_at_last s.bytes.items s.frames.items t.plans_at.items plan_at) ∙ ap (plans_in s.bytes.items s.frames.items) (sym r.plans_at) ∙ ap (λ (f : Filled). f.plans) is ∙ whole)

-- the last plan's body goes on, with that behind it
pub reopens_body : (s t : Inside) (v : Filled) (plan_at : PlanAt) (plans : List SegmentPlan) (last : SegmentPlan) → IsLaid s → filled_by s ≡ v → Reopens s t plan_at
    → v.plans ≡ plans ++ last ∷ [] → drop t.body_at t.bytes.items ≡ last.body ++ v.body
reopens_body s t v plan_at plans last laid is r whole =
    let own = reopened s v plan_at t.plans_at.items plans last is r.plans_at whole in
    let lies = within_last_one _ _ t.plans_at.items plan_at (subst (AreWithin (length s.bytes.items) (length s.frames.items)) r.plans_at laid.within) in
    let end = joined_end 0 0 s.body_at s.frames_at t.plans_at.items plan_at (subst (AreJoined 0 0 s.body_at s.frames_at) r.plans_at laid.joined) in
    (λ i. drop (r.at i) (r.bytes i).items) ∙ part_rest s.bytes.items plan_at.body_at plan_at.body_end lies.0
    ∙ ap (λ n. slice_range s.bytes.items plan_at.body_at plan_at.body_end ++ drop n s.bytes.items) (sym end.0)
    ∙ (λ i. (own i).body ++ (is i).body)

pub reopens_frames : (s t : Inside) (v : Filled) (plan_at : PlanAt) (plans : List SegmentPlan) (last : SegmentPlan) → IsLaid s → filled_by s ≡ v → Reopens s t plan_at
    → v.plans ≡ plans ++ last ∷ [] → drop t.frames_at t.frames.items ≡ last.frames ++ v.framing.ended
reopens_frames s t v plan_at plans last laid is r whole =
    let own = reopened s v plan_at t.plans_at.items plans last is r.plans_at whole in
    let lies = within_last_one _ _ t.plans_at.items plan_at (subst (AreWithin (length s.bytes.items) (length s.frames.items)) r.plans_at laid.within) in
    let end = joined_end 0 0 s.body_at s.frames_at t.plans_at.items plan_at (subst (AreJoined 0 0 s.body_at s.frames_at) r.plans_at laid.joined) in
    (λ i. drop (r.frames_at i) (r.frames i).items) ∙ part_rest s.frames.items plan_at.frames_at plan_at.frames_end lies.1
    ∙ ap (λ n. slice_range s.frames.items plan_at.frames_at plan_at.frames_end ++ drop n s.frames.items) (sym end.1)
    ∙ (λ i. (own i).frames ++ (is i).framing.ended)

-- an emptied one into which the body that goes on in another was copied
pub record Copies (s o t : Inside) : Type 0 where
  pub emptied : filled_by s ≡ unfilled
  pub bytes : t.bytes.items ≡ s.bytes.items ++ slice_range o.bytes.items o.body_at (length o.bytes.items)
  pub frames : t.frames.items ≡ s.frames.items ++ slice_range o.frames.items o.frames_at (length o.frames.items)
  pub plans_at : t.plans_at ≡ s.plans_at
  pub body_at : t.body_at ≡ s.body_at
  pub frames_at : t.frames_at ≡ s.frames_at
  pub pending : t.pending ≡ o.pending

-- in which there is no plan, so that its body lies in front
pub record IsCopy (o t : Inside) : Type 0 where
  pub plans_at : t.plans_at.items ≡ []
  pub body_at : t.body_at ≡ 0
  pub frames_at : t.frames_at ≡ 0
  pub bytes : t.bytes.items ≡ drop o.body_at o.bytes.items
  pub frames : t.frames.items ≡ drop o.frames_at o.frames.items

copies : (s o t : Inside) → IsLaid s → Copies s o t → IsCopy o t
copies s o t laid c =
    let alone = alone_in_front s.bytes.items s.frames.items s.body_at s.frames_at s.plans_at.items laid.joined (ap (λ (f : Filled). f.plans) c.emptied) in
    let none : s.bytes.items ≡ [] = sym (ap (λ n. drop n s.bytes.items) alone.1) ∙ ap (λ (f : Filled). f.body) c.emptied in
    let no_frames : s.frames.items ≡ [] = sym (ap (λ n. drop n s.frames.items) alone.2) ∙ ap (λ (f : Filled). f.framing.ended) c.emptied in
    record {
      plans_at = ap (λ plans_at. plans_at.items) c.plans_at ∙ alone.0;
      body_at = c.body_at ∙ alone.1;
      frames_at = c.frames_at ∙ alone.2;
      bytes = c.bytes ∙ (λ i. none i ++ rest_is o.bytes.items o.body_at i);
      frames = c.frames ∙ (λ i. no_frames i ++ rest_is o.frames.items o.frames_at i);
    }

pub copied_laid : (s o t : Inside) → IsLaid s → IsLaid o → Copies s o t → IsLaid t
copied_laid s o t laid other c =
    let k = copies s o t laid c in
    let len : length t.bytes.items ≡ length o.bytes.items - o.body_at = ap (λ (l : List ℕ). length l) k.bytes ∙ length-drop o.body_at o.bytes.items in
    record {
      within = rw k.plans_at tt;
      body = omega (arith, k.body_at);
      frames = omega (arith, k.frames_at);
      pending = rw c.pending (pending_more o.pending _ _ (omega (arith, len, k.body_at)) other.pending);
      joined = rw k.plans_at (k.body_at, k.frames_at);
    }

pub copied_is : (s o t : Inside) (v : Filled) → IsLaid s → filled_by o ≡ v → Copies s o t → filled_by t ≡ record v { plans = [] }
copied_is s o t v laid is c =
    let k = copies s o t laid c in
    let whole : length t.bytes.items ≡ length o.bytes.items - o.body_at = ap (λ (l : List ℕ). length l) k.bytes ∙ length-drop o.body_at o.bytes.items in
    let len : length t.bytes.items - t.body_at ≡ length o.bytes.items - o.body_at = omega (arith, whole, k.body_at) in
    let at : filled_by t ≡ record (filled_by o) { plans = [] } = λ i. record {
      plans = plans_in t.bytes.items t.frames.items (k.plans_at i);
      body = drop (k.body_at i) (k.bytes i);
      framing = record { ended = drop (k.frames_at i) (k.frames i); pending = c.pending i; offset = len i };
    } in
    at ∙ ap (λ (f : Filled). record f { plans = [] }) is
