-- What is held of a segment that goes on is what its packets make.
use Rattle.std.proofs.Common.{◌≡◌, ◌∙◌, ℕ, ℤ, ◌+◌, Bool, true, false, List, [], ◌∷◌, ◌++◌, length, Option, Some, None, if◌then◌else◌, refl, ap, sym, arith}
use Rattle.std.proofs.lemmas.List.{append_assoc, append-nil}
use Rattle.pes_time.specs.declared.clock.Stamp.{Stamp}
use Rattle.cutter.specs.declared.settings.CutSettings.{CutSettings}
use Rattle.cutter.specs.declared.plan.Frame.{Frame}
use Rattle.cutter.specs.Points.{Mark}
use Rattle.cutter.specs.Segments.{Segment, bytes_of, body_of, later, greatest, until_start, frame_at, frames_of, plan_of, ticks_between}
use Rattle.cutter.specs.Cuts.{with_mark}
use Rattle.cutter.specs.SegmentState.{framing_of, gathered, added, plan_from}
use Rattle.cutter.specs.Framing.{Framing, framed, no_frames, end_of, pending_at, frames_by}

body_of-more : (marks : List Mark) (m : Mark) → body_of (marks ++ m ∷ []) ≡ body_of marks ++ bytes_of m
body_of-more [] m = append-nil (bytes_of m)
body_of-more (x ∷ marks) m = ap (λ list. bytes_of x ++ list) (body_of-more marks m) ∙ sym (append_assoc (bytes_of x) (body_of marks) (bytes_of m))

greatest-more : (epoch : ℕ) (time : ℤ) (marks : List Mark) (m : Mark) → greatest epoch time (marks ++ m ∷ []) ≡ later epoch (greatest epoch time marks) m.look.stamp
unfolding greatest
greatest-more epoch time [] m = refl
greatest-more epoch time (x ∷ marks) m = greatest-more epoch (later epoch time x.look.stamp) marks m

framing_of-more : (head : Stamp) (f : Framing) (marks : List Mark) (m : Mark) → framing_of head f (marks ++ m ∷ []) ≡ framed head (framing_of head f marks) m
unfolding framing_of
framing_of-more head f [] m = refl
framing_of-more head f (x ∷ marks) m = framing_of-more head (framed head f x) marks m

-- one packet more
pub gathered-mark : (g : Segment) (m : Mark) → gathered (with_mark g m) ≡ added (gathered g) m
unfolding gathered
gathered-mark g m =
    rw (body_of-more g.marks m, framing_of-more g.head.stamp no_frames g.marks m, greatest-more g.head.stamp.epoch g.head.stamp.time g.marks m) refl

pending-ends : (head : Stamp) (c : Option Stamp) (offset len : ℕ) → end_of (pending_at head offset c) (offset + len) ≡ frame_at head offset len c
pending-ends head None offset len = refl
pending-ends head (Some c) offset len =
    ap (λ (n : ℕ). record { offset = offset; len = n; start = ticks_between head.time c.time } ∷ []) (omega arith)

abbrev FramesOf : Stamp → List Mark → Type 0
FramesOf head marks = (f : Framing) → frames_by (framing_of head f marks) ≡ f.ended ++ (end_of f.pending (f.offset + until_start marks) ++ frames_of head f.offset marks)

step-frames : (starts : Bool) (head : Stamp) (c : Option Stamp) (len : ℕ) (marks : List Mark) (f : Framing) → FramesOf head marks
    → frames_by (framing_of head (if starts
    then record { ended = f.ended ++ end_of f.pending f.offset; pending = pending_at head f.offset c; offset = f.offset + len }
    else record { ended = f.ended; pending = f.pending; offset = f.offset + len }) marks)
    ≡ f.ended ++ (end_of f.pending (f.offset + (if starts then 0 else len + until_start marks))
    ++ ((if starts then frame_at head f.offset (len + until_start marks) c else []) ++ frames_of head (f.offset + len) marks))
step-frames true head c len marks f behind =
    behind (record { ended = f.ended ++ end_of f.pending f.offset; pending = pending_at head f.offset c; offset = f.offset + len })
    ∙ append_assoc f.ended (end_of f.pending f.offset) _
    ∙ ap (λ (list : List Frame). f.ended ++ (end_of f.pending f.offset ++ (list ++ frames_of head (f.offset + len) marks)))
    (ap (end_of (pending_at head f.offset c)) (omega arith) ∙ pending-ends head c f.offset (len + until_start marks))
    ∙ ap (λ (offset : ℕ). f.ended ++ (end_of f.pending offset ++ (frame_at head f.offset (len + until_start marks) c ++ frames_of head (f.offset + len) marks))) (omega arith)
step-frames false head c len marks f behind =
    behind (record { ended = f.ended; pending = f.pending; offset = f.offset + len })
    ∙ ap (λ (offset : ℕ). f.ended ++ (end_of f.pending offset ++ frames_of head (f.offset + len) marks)) (omega arith)

frames_of-framing : (head : Stamp) (marks : List Mark) → FramesOf head marks
unfolding framing_of frames_of until_start
frames_of-framing head [] f = ap (λ (list : List Frame). f.ended ++ list) (ap (end_of f.pending) (omega arith) ∙ sym (append-nil _))
frames_of-framing head (m ∷ marks) f = step-frames m.look.starts_video head m.counted (length (bytes_of m)) marks f (frames_of-framing head marks)

-- the plan of a segment is what is held of it
pub plan_of-gathered : (r : ℕ) (s : CutSettings) (g : Segment) (next : Option Stamp) → plan_of r s g next ≡ plan_from r s (gathered g) next
unfolding plan_of gathered
plan_of-gathered r s g next = rw (frames_of-framing g.head.stamp g.marks no_frames) refl
