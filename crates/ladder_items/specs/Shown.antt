-- What a rendition shows of the rows of its segments: two playlists, and their bit rates.
use Rattle.std.specs.Prelude.{ℕ, ◌+◌, Bool, Option, Some, List, ◌++◌, map, length, sum_by, ◌≡◌, ◌<◌, ◌≤◌, ◌^◌, false, All, slice_get}
use Rattle.std.specs.List.{flat_map}
use Rattle.playlist_text.specs.Lines.{text_of}
use Rattle.media_playlist.specs.declared.row.FrameRow.{FrameRow}
use Rattle.media_playlist.specs.declared.row.Gone.{Gone}
use Rattle.media_playlist.specs.Rows.{SegmentRow, is_long}
use Rattle.media_playlist.specs.Listed.{Pushed}
use Rattle.media_playlist.specs.Lines.{media_lines, iframe_lines}
use Rattle.bandwidth.specs.declared.run.Span.{Span}
use Rattle.limits.specs.declared.TheConstants.{MOST_PACKETS}

-- a rendition's name, the target duration in seconds, the least number of rows to list, whether all rows of an event are
-- listed, the salt of the vectors, what is gone of earlier runs, the rows of theirs that were still listed when the run began,
-- the rows of all segments of the run, and whether it takes no more
pub record Shown : Type 0 where
  pub name : List ℕ
  pub target : ℕ
  pub window : ℕ
  pub event : Bool
  pub salt : Option (List ℕ)
  pub gone : Gone
  pub earlier : List SegmentRow
  pub rows : List SegmentRow
  pub ended : Bool

-- all rows that are known: the earlier ones and those of the run
abbrev pub known : Shown → List SegmentRow
known shown = shown.earlier ++ shown.rows

-- as the window of its playlists
abbrev pub in_window : Shown → Pushed
in_window shown = record { name = shown.name; target = shown.target; window = shown.window; event = shown.event; salt = shown.salt; gone = shown.gone; rows = known shown }

-- the texts of its playlists, ended or not
abbrev pub media_text : Shown → Bool → List ℕ
media_text shown ended = text_of (media_lines (in_window shown) ended)

abbrev pub frames_text : Shown → Bool → List ℕ
frames_text shown ended = text_of (iframe_lines (in_window shown) ended)

-- a segment as a row of bytes and microseconds
abbrev pub segment_rate : SegmentRow → Span
segment_rate row = record { size = row.size; micros = row.micros }

-- the bytes of some segments together
abbrev pub bytes_of : List SegmentRow → ℕ
bytes_of rows = sum_by (λ row. row.size) rows

-- an I-frame as a row of bytes and microseconds
abbrev pub frame_rate : FrameRow → Span
frame_rate frame = record { size = frame.len; micros = frame.micros }

-- the segments of some rows, measured
abbrev pub segment_rates : List SegmentRow → List Span
segment_rates rows = map segment_rate rows

-- their I-frames, measured
abbrev pub frame_rates : List SegmentRow → List Span
frame_rates rows = flat_map (λ row. map frame_rate row.frames) rows

-- an I-frame that a meter takes
pub record IsSmallFrame (frame : FrameRow) : Type 0 where
  pub size : frame.len < 2 ^ 32
  pub lasts : 0 < frame.micros
  pub micros : frame.micros < 2 ^ 32

-- A row that may come behind so many: its number is the next, it isn't longer than the target and is the sum of its
-- I-frames, and its sizes and times are small.
pub record IsNextRow (target count : ℕ) (row : SegmentRow) : Type 0 where
  pub number : row.number ≡ count
  pub short : is_long target row ≡ false
  pub size : row.size < 2 ^ 32
  pub lasts : 0 < row.micros
  pub micros : row.micros < 2 ^ 32
  pub frames : All IsSmallFrame row.frames
  pub few : length row.frames ≤ MOST_PACKETS

-- rows that follow on one another from a number on, each of which may come behind those before it
abbrev pub AreNextRows : ℕ → ℕ → List SegmentRow → Type 0
AreNextRows target first rows = (k : ℕ) (row : SegmentRow) → slice_get rows k ≡ Some row → IsNextRow target (first + k) row
