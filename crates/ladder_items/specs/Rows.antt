-- The row of a segment in its playlists.
use Rattle.std.specs.Prelude.{ℕ, ◌+◌, ◌-◌, ◌==◌, ◌&&◌, ◌||◌, nat_lt, List, [], ◌∷◌, length, map}
use Rattle.playlist_text.specs.Numbers.{micros}
use Rattle.media_playlist.specs.declared.row.FrameRow.{FrameRow}
use Rattle.media_playlist.specs.Rows.{SegmentRow}
use Rattle.cutter.specs.declared.plan.Frame.{Frame}
use Rattle.cutter.specs.Plans.{SegmentPlan}
use Rattle.cutter.specs.Ordered.{end_before}
use Rattle.segment_job.specs.Rotation.{KeyRotation, number_of, key_index}
use Rattle.segment_job.specs.Segments.{SealedSegment, plan_head, sealed_segment}

-- an I-frame behind a head of so many bytes, whose time ends at so many ticks
abbrev pub frame_row : ℕ → Frame → ℕ → FrameRow
frame_row head f end = record { offset = head + f.offset; len = f.len; micros = micros end - micros f.start }

-- the I-frames of a segment of so many ticks: each lasts up to the next, or up to the segment's end
unfoldable pub frame_rows : ℕ → ℕ → List Frame → List FrameRow
frame_rows head ticks [] = []
frame_rows head ticks (f ∷ frames) = frame_row head f (end_before ticks frames) ∷ frame_rows head ticks frames

-- The row of a sealed segment. The first one of a run behind others is a discontinuity (RFC 8216, 4.3.2.3).
unfoldable pub row_of : KeyRotation → SealedSegment → SegmentRow
row_of keys s = record {
  number = number_of keys s.plan.number;
  size = length s.bytes;
  micros = micros s.plan.ticks;
  key = key_index keys s.plan.number;
  discontinuity = s.plan.discontinuity || (s.plan.number == 0 && nat_lt 0 keys.first);
  frames = frame_rows (length (plan_head s.plan)) s.plan.ticks s.plan.frames;
}

-- the rows of the segments of these plans
abbrev pub rows_of : KeyRotation → List SegmentPlan → List SegmentRow
rows_of keys plans = map (λ plan. row_of keys (sealed_segment keys plan)) plans
