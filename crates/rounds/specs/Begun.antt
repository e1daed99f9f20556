-- What a run begins with, and what it tells at its end.
use Rattle.std.specs.Prelude.{◌≡◌, ℕ, ◌+◌, false, List, length, map, replicate, sum, Some, slice_get}
use Rattle.segment_job.specs.Rotation.{KeyRotation}
use Rattle.ingest.specs.declared.lane.Lane.{Lane}
use Rattle.ingest.specs.Lanes.{IsFirst}
use Rattle.ladder_items.specs.declared.fault.PackFault.{PackFault}
use Rattle.ladder_items.specs.declared.report.Report.{Report}
use Rattle.ladder_items.specs.Ladder.{Ladder, RenditionValue}
use Rattle.ladder_items.specs.Shown.{Shown}
use Rattle.ladder_items.specs.Items.{shown_all}
use Rattle.ladder_items.specs.Weave.{none_of}
use Rattle.ladder_items.specs.Packed.{IsReport, gone_of, told_of}
use Rattle.ladder_items.specs.Standing.{NoneStands}
use Rattle.rounds.specs.declared.run.books.Books.{Books}
use Rattle.rounds.specs.declared.run.first.First.{First}

-- the keys of all renditions
abbrev pub keys_of : Ladder → List KeyRotation
keys_of ladder = map (λ (r : RenditionValue). r.keys) ladder.renditions

-- nothing was read or given, and no worker claimed anything
pub record IsBegun (ladder : Ladder) (workers : ℕ) (first : First) : Type 0 where
  pub lanes : length first.lanes.items ≡ length ladder.renditions
  pub each : (k : ℕ) (lane : Lane) → slice_get first.lanes.items k ≡ Some lane → IsFirst k ladder.cut lane
  pub playlists : first.playlists.items ≡ shown_all ladder (none_of ladder)
  pub ended : first.ended.items ≡ replicate (length ladder.renditions) false
  pub turns : first.turns.items ≡ replicate (length ladder.renditions) 0
  pub spare : length first.spare.items ≡ length ladder.renditions
  pub keys : first.keys.items ≡ keys_of ladder
  pub right : first.books.right ≡ 0
  pub rounds : first.books.rounds ≡ 0
  pub claims : length first.books.workers.items ≡ workers

-- some rendition stopped in a way that this fault tells
abbrev pub IsStanding : List Lane → PackFault → Type 0
IsStanding lanes fault = (r : ℕ) × (lane : Lane) × (slice_get lanes r ≡ Some lane) × (told_of r lane.stop ≡ Some fault)

-- Each rendition came to its good end, and the report tells the numbers of what they show. All that the workers claimed and the
-- calling thread sealed was given, or thrown away.
pub record IsTold (shown : List Shown) (lanes : List Lane) (books : Books) (report : Report) : Type 0 where
  pub good : NoneStands lanes
  pub numbers : IsReport shown (map (λ (lane : Lane). gone_of lane.stop) lanes) report
  pub workers : report.workers.items ≡ books.workers.items
  pub total : sum report.workers.items + report.own ≡ sum report.counts.items + report.thrown
  -- what no worker's right segment is, the calling thread sealed
  pub own : report.own + books.right ≡ sum report.counts.items
  pub thrown : report.thrown ≡ books.thrown
  pub rounds : report.rounds ≡ books.rounds
