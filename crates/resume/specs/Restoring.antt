-- A rendition that goes on from what its playlists list.
use Rattle.std.specs.Prelude.{◌≡◌, ℕ, ◌+◌, ◌<◌, ◌≤◌, ◌^◌, false, List, ◌++◌, map, length, All}
use Rattle.playlist_text.specs.Lines.{text_of}
use Rattle.playlist_text.specs.MediaLines.{Listing}
use Rattle.media_playlist.specs.declared.row.FrameRow.{FrameRow}
use Rattle.media_playlist.specs.declared.row.Gone.{Gone}
use Rattle.media_playlist.specs.Rows.{SegmentRow}
use Rattle.media_playlist.specs.Listed.{Pushed}
use Rattle.media_playlist.specs.Lines.{listing_of, media_lines, iframe_lines}
use Rattle.media_reading.specs.MediaTexts.{listing_text}
use Rattle.ladder_items.specs.Ladder.{is_event, least_listed, HasAll}
use Rattle.ladder_items.specs.Shown.{AreNextRows}
use Rattle.ladder_items.specs.declared.settings.TheConstants.{MOST_EARLIER}
use Rattle.limits.specs.declared.TheConstants.{LAST_SEGMENT, MOST_KEYS}
use Rattle.resume.specs.declared.restored.Wanted.{Wanted}

-- what is gone of earlier runs, the rows of theirs that are still listed, and the number of the next segment
pub record RestoredValue : Type 0 where
  pub gone : Gone
  pub earlier : List SegmentRow
  pub next : ℕ

-- the window of a rendition that was pushed the earlier rows, and lists all of them
abbrev pub window_over : List ℕ → Wanted → RestoredValue → Pushed
window_over name wanted r = record {
  name = name;
  target = wanted.target;
  window = least_listed wanted.kind (length r.earlier);
  event = is_event wanted.kind;
  salt = wanted.salt;
  gone = r.gone;
  rows = r.earlier;
}

-- the window of a run that goes on behind them, asks for a least number of rows, and was pushed more
abbrev pub window_behind : List ℕ → Wanted → RestoredValue → ℕ → List SegmentRow → Pushed
window_behind name wanted r window more = record {
  name = name;
  target = wanted.target;
  window = window;
  event = is_event wanted.kind;
  salt = wanted.salt;
  gone = r.gone;
  rows = r.earlier ++ more;
}

-- an I-frame lies within a file of this size
abbrev pub LiesWithin : ℕ → FrameRow → Type 0
LiesWithin size frame = frame.offset + frame.len ≤ size

-- A run may go on behind these rows: they follow on one another behind what is gone, their I-frames lie within their files, their
-- keys are of those that may be, and no count is past the last number.
pub record MayGoOn (wanted : Wanted) (r : RestoredValue) : Type 0 where
  pub next : r.next ≡ r.gone.rows + length r.earlier
  pub few : length r.earlier ≤ MOST_EARLIER
  pub follow : AreNextRows wanted.target r.gone.rows r.earlier
  pub lie_within : All (λ row. All (LiesWithin row.size) row.frames) r.earlier
  pub turns : All (λ row. row.key < MOST_KEYS) r.earlier
  pub limit : r.next ≤ LAST_SEGMENT
  pub discontinuities : r.gone.discontinuities + length r.earlier ≤ LAST_SEGMENT
  pub frames : r.gone.frames < 2 ^ 63
  pub all : HasAll wanted.kind r.gone

-- These rows, of which the files have these sizes, are what the rendition goes on behind: a window over them lists just what
-- the media playlist does, and both its texts are, byte for byte, those of the two playlists.
pub record IsRestored (name : List ℕ) (wanted : Wanted) (listing : Listing) (frames sizes : List ℕ) (r : RestoredValue) : Type 0 where
  pub lists : listing ≡ listing_of (window_over name wanted r) false
  pub media_text : listing_text listing ≡ text_of (media_lines (window_over name wanted r) false)
  pub frames_text : frames ≡ text_of (iframe_lines (window_over name wanted r) false)
  pub sizes_are : sizes ≡ map (λ row. row.size) r.earlier
  pub may_go_on : MayGoOn wanted r
