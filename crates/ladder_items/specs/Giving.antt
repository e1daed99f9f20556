-- What stands before a segment is given.
use Rattle.std.specs.Prelude.{◌≡◌, ℕ, ◌<◌, false, List, [], ◌∷◌, map, length, None, get_or}
use Rattle.cutter.specs.Plans.{SegmentPlan}
use Rattle.cutter.specs.Ordered.{IsPlan}
use Rattle.media_playlist.specs.Listed.{nothing_gone}
use Rattle.segment_job.specs.Segments.{SealedSegment}
use Rattle.item_io.specs.Items.{ItemValue, MasterItem}
use Rattle.ladder_items.specs.Ladder.{Ladder, rendition_at}
use Rattle.ladder_items.specs.Masters.{master_of}
use Rattle.ladder_items.specs.Shown.{Shown}
use Rattle.ingest.specs.Streams.{AreNext}
use Rattle.ladder_items.specs.Weave.{Event, Row}
use Rattle.ladder_items.specs.Items.{Part, part_at, count, shown_all, segment_of, media_of, frames_of}

-- the renditions show what was given, and r hasn't ended
pub record IsGoing (ladder : Ladder) (r : ℕ) (parts : List Part) (shown : List Shown) : Type 0 where
  pub shown_are : shown ≡ shown_all ladder parts
  pub each : length parts ≡ length ladder.renditions
  pub within : r < length parts
  pub going : (part_at parts r).ended ≡ false

-- the plan is the next of rendition r
pub record IsNext (ladder : Ladder) (r : ℕ) (parts : List Part) (shown : List Shown) (plan : SegmentPlan) : Type 0 where
  pub goes_on : IsGoing ladder r parts shown
  pub plan_is : IsPlan r ladder.cut (count (part_at parts r)) plan

abbrev pub no_shown : Shown
no_shown = record { name = []; target = 0; window = 0; event = false; salt = None; gone = nothing_gone; earlier = []; rows = []; ended = false }

-- a segment of rendition r, its playlists and the master of what all renditions show
abbrev pub block_of : Ladder → ℕ → SealedSegment → List Shown → List ItemValue
block_of ladder r s shown =
    segment_of r (rendition_at ladder r) s
    ∷ media_of r (rendition_at ladder r) (get_or shown r no_shown) false
    ∷ frames_of r (rendition_at ladder r) (get_or shown r no_shown) false
    ∷ MasterItem (master_of ladder.renditions shown)
    ∷ []

-- the plans are the next of rendition r
pub record AreNextPlans (ladder : Ladder) (r : ℕ) (parts : List Part) (shown : List Shown) (plans : List SegmentPlan) : Type 0 where
  pub goes_on : IsGoing ladder r parts shown
  pub plans_are : AreNext r ladder.cut (count (part_at parts r)) plans

-- the segments of these plans of rendition r
abbrev pub rows : ℕ → List SegmentPlan → List Event
rows r plans = map (Row r) plans
