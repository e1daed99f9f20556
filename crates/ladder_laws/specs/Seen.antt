-- What is seen in the items of a ladder: those of one rendition, and what stands beside a segment and before a master.
use Rattle.std.specs.Prelude.{◌≡◌, ℕ, ◌<◌, ◌==◌, Bool, false, List, ◌++◌, length, filter}
use Rattle.cutter.specs.Plans.{SegmentPlan}
use Rattle.item_io.specs.Items.{ItemValue, SegmentItem, MediaItem, FramesItem, MasterItem}
use Rattle.ladder_items.specs.Ladder.{Ladder}
use Rattle.ladder_items.specs.Items.{Part, part_at}
use Rattle.ladder_items.specs.Weave.{Row, after, block, Weaves}

-- the item is of rendition r; a master playlist is of none
abbrev pub is_of : ℕ → ItemValue → Bool
is_of r (SegmentItem s) = s.rendition == r
is_of r (MediaItem p) = p.rendition == r
is_of r (FramesItem p) = p.rendition == r
is_of r (MasterItem text) = false

-- the items of rendition r, master playlists left out
abbrev pub of_rendition : ℕ → List ItemValue → List ItemValue
of_rendition r items = filter (is_of r) items

-- The four items stand behind these others: the next segment of a rendition, the two playlists behind it, and the master
-- playlist of all that was given up to there.
pub record IsRowBehind (ladder : Ladder) (items four : List ItemValue) : Type 0 where
  pub parts : List Part
  pub r : ℕ
  pub plan : SegmentPlan
  pub weave : Weaves ladder parts items
  pub rendition : r < length parts
  pub going : (part_at parts r).ended ≡ false
  pub row : four ≡ block ladder parts (Row r plan)
  pub so_far : Weaves ladder (after parts (Row r plan)) (items ++ four)

-- what stands behind these items begins with four such ones
pub record BeginsRow (ladder : Ladder) (items behind : List ItemValue) : Type 0 where
  pub four : List ItemValue
  pub rest : List ItemValue
  pub split : behind ≡ four ++ rest
  pub row : IsRowBehind ladder items four

-- these items end with four such ones
pub record EndsRow (ladder : Ladder) (items : List ItemValue) : Type 0 where
  pub earlier : List ItemValue
  pub four : List ItemValue
  pub split : items ≡ earlier ++ four
  pub row : IsRowBehind ladder earlier four
