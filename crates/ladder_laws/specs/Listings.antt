-- The I-frames of a segment in the I-frame playlist behind it, and the segments of a rendition.
use Rattle.std.specs.Prelude.{◌≡◌, ℕ, Bool, true, false, List, ◌∷◌, ◌++◌, Some, slice_get, filter}
use Rattle.cutter.specs.Plans.{SegmentPlan}
use Rattle.segment_job.specs.Rotation.{KeyRotation, number_of}
use Rattle.segment_job.specs.Segments.{sealed_segment}
use Rattle.playlist_text.specs.Lines.{text_of}
use Rattle.media_playlist.specs.Lines.{row_frame_lines}
use Rattle.item_io.specs.Items.{ItemValue, SegmentValue, PlaylistValue, SegmentItem, MediaItem, FramesItem, MasterItem}
use Rattle.ladder_items.specs.Ladder.{Ladder, rendition_at}
use Rattle.ladder_items.specs.Rows.{row_of}
use Rattle.ingest.specs.Streams.{plans_of}
use Rattle.ladder_laws.specs.Seen.{of_rendition}

abbrev pub is_segment : ItemValue → Bool
is_segment (SegmentItem s) = true
is_segment (MediaItem p) = false
is_segment (FramesItem p) = false
is_segment (MasterItem text) = false

-- the segments of rendition r
abbrev pub segments_of : ℕ → List ItemValue → List ItemValue
segments_of r items = filter is_segment (of_rendition r items)

-- The I-frame playlist ends with the lines of the segment's row: its key's line with its vector, salted where there is a salt, and for each I-frame its
-- time, its range in the segment and the segment's URI (RFC 8216, 4.3.2.2, 4.3.2.4 and 4.3.3.6).
pub record AreFramesListed (keys : KeyRotation) (plan : SegmentPlan) (s : SegmentValue) (frames : PlaylistValue) : Type 0 where
  pub before : List (List ℕ)
  pub text_is : frames.text ≡ text_of (before ++ row_frame_lines s.name keys.salt (row_of keys (sealed_segment keys plan)))

-- an I-frame playlist that lists the I-frames of a plan of the stream stands behind the media playlist right behind it; the
-- segment's number is that of the plan's place, behind the segments of earlier runs
pub record AreFramesListedBehind (ladder : Ladder) (streams : ℕ → List ℕ) (s : SegmentValue) (behind : List ItemValue) : Type 0 where
  pub plan : SegmentPlan
  pub place : ℕ
  pub plan_is : slice_get (plans_of s.rendition ladder.cut (streams s.rendition)) place ≡ Some plan
  pub number_is : s.number ≡ number_of (rendition_at ladder s.rendition).keys place
  pub media : PlaylistValue
  pub frames : PlaylistValue
  pub rest : List ItemValue
  pub next : behind ≡ MediaItem media ∷ FramesItem frames ∷ rest
  pub listed : AreFramesListed (rendition_at ladder s.rendition).keys plan s frames
