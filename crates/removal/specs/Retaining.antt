-- The retention of a ladder's renditions.
use Rattle.std.specs.Prelude.{◌≡◌, ℕ, zero, suc, ◌<◌, ◌-◌, ◌^◌, min, List, [], length, map, slice_index_or}
use Rattle.media_playlist.specs.Rows.{SegmentRow}
use Rattle.media_playlist.specs.Lengths.{least_behind}
use Rattle.ladder_items.specs.Ladder.{Ladder, RenditionValue, rendition_at}
use Rattle.keeping.specs.Keepings.{KeepingValue, keeping_at, resumed_keeping}

-- How long each segment is kept beyond its own duration at the least: behind an earlier run that listed so many, as long as a
-- playlist of it may have lasted.
abbrev pub least_for : Ladder → ℕ → ℕ
least_for ladder zero = 0
least_for ladder (suc n) = min (least_behind ladder.cut.target ladder.window (suc n)) (2 ^ 64 - 1)

-- the retention of a rendition whose earlier rows last so long, and of which these older segments are there
abbrev pub kept_of : Ladder → RenditionValue → List ℕ → List ℕ → KeepingValue
kept_of ladder rendition micros older = resumed_keeping rendition.name rendition.gone.rows (least_for ladder (length micros)) micros older

abbrev pub kept_for : Ladder → RenditionValue → List ℕ → KeepingValue
kept_for ladder rendition older = kept_of ladder rendition (map (λ (row : SegmentRow). row.micros) rendition.earlier) older

-- that of the first so many renditions
pub record AreKeptUpTo (ladder : Ladder) (older : List (List ℕ)) (kept : List KeepingValue) (count : ℕ) : Type 0 where
  pub count_is : length kept ≡ count
  pub each : (r : ℕ) → r < count → keeping_at kept r ≡ kept_for ladder (rendition_at ladder r) (slice_index_or older r [])

-- that of each
abbrev pub AreKeptFor : Ladder → List (List ℕ) → List KeepingValue → Type 0
AreKeptFor ladder older kept = AreKeptUpTo ladder older kept (length ladder.renditions)
