-- What is read back of a rendition's playlists.
use Rattle.std.specs.Prelude.{◌≡◌, ◌⊎◌, ℕ, ◌+◌, ◌-◌, ◌<◌, ◌^◌, List, map, length, take, drop, slice_index_or, All}
use Rattle.playlist_text.specs.Lines.{text_of}
use Rattle.playlist_text.specs.MediaLines.{Entry, Listing}
use Rattle.media_playlist.specs.declared.row.FrameRow.{FrameRow}
use Rattle.media_playlist.specs.Rows.{SegmentRow}
use Rattle.media_playlist.specs.Lines.{entry_of}
use Rattle.media_playlist.specs.Sequences.{frames_of}
use Rattle.ladder_items.specs.Shown.{AreNextRows, IsNextRow}
use Rattle.media_reading.specs.MediaTexts.{IsLine}
use Rattle.resume.specs.Picking.{Picks, no_picks, pick_lines}
use Rattle.resume.specs.Restoring.{RestoredValue, LiesWithin}
use Rattle.resume.specs.Starts.{starts_from}

-- rows of the entries that a media playlist lists, with the sizes of their files
pub record AreRowsOf (listing : Listing) (sizes : List ℕ) (rows : List SegmentRow) : Type 0 where
  pub entries_are : listing.entries ≡ map entry_of rows
  pub sizes_are : sizes ≡ map (λ row. row.size) rows
  pub follow : AreNextRows listing.target listing.sequence rows
  pub lie_within : All (λ row. All (LiesWithin row.size) row.frames) rows

-- what came before them, and the number of the next segment
pub record IsReadBack (listing : Listing) (sizes : List ℕ) (r : RestoredValue) : Type 0 where
  pub rows : AreRowsOf listing sizes r.earlier
  pub gone_rows : r.gone.rows ≡ listing.sequence
  pub gone_discontinuities : r.gone.discontinuities ≡ listing.discontinuity_sequence
  pub gone_frames : r.gone.frames < 2 ^ 63
  pub next : r.next ≡ listing.sequence + length r.earlier

-- the I-frames that were picked are those of these rows, behind so many
pub record ArePicked (p : Picks) (first : ℕ) (rows : List SegmentRow) : Type 0 where
  pub first_is : p.first ≡ first
  pub frames_are : p.frames ≡ frames_of rows
  pub starts_are : p.starts ≡ starts_from 0 rows

-- the I-frames that were picked for the segment at a place
abbrev pub frames_between : List FrameRow → ℕ → ℕ → List FrameRow
frames_between frames start end = take (end - start) (drop start frames)

abbrev pub start_at : Picks → ℕ → ℕ
start_at p place = slice_index_or p.starts place (length p.frames)

abbrev pub frames_at : Picks → ℕ → List FrameRow
frames_at p place = frames_between p.frames (start_at p place) (start_at p (place + 1))

-- from one place to another lie no I-frames of a list: the second one is before the first, or behind the list's end
abbrev pub IsOutside : List FrameRow → ℕ → ℕ → Type 0
IsOutside frames start end = (end < start) ⊎ (length frames < end)

-- The row of the first segment, as its entry, its file and the I-frames that were picked for it tell it: it has an I-frame, or
-- it may be the first.
pub record MayBegin (listing : Listing) (sizes : List ℕ) (p : Picks) : Type 0 where
  pub row : SegmentRow
  pub entry_is : (d : Entry) → entry_of row ≡ slice_index_or listing.entries 0 d
  pub size_is : (d : ℕ) → row.size ≡ slice_index_or sizes 0 d
  pub frames_are : row.frames ≡ frames_at p 0
  pub may : (0 < length row.frames) ⊎ (IsNextRow listing.target listing.sequence row × All (LiesWithin row.size) row.frames)

-- the same by the I-frames that the lines of a text tell
pub record MayBeginWith (listing : Listing) (frames sizes : List ℕ) : Type 0 where
  pub picks : Picks
  pub are_of : (lines : List (List ℕ)) → All IsLine lines → frames ≡ text_of lines → picks ≡ pick_lines no_picks lines
  pub begin : MayBegin listing sizes picks

-- what the lines of a text tell as the number of the first I-frame
pub record IsFirstFrame (frames : List ℕ) (first : ℕ) : Type 0 where
  pub told : (lines : List (List ℕ)) → All IsLine lines → frames ≡ text_of lines → first ≡ (pick_lines no_picks lines).first

-- There are as many files as segments are listed, and the number of the first I-frame is one that may be.
pub record MayBeOf (listing : Listing) (frames sizes : List ℕ) : Type 0 where
  pub each : length sizes ≡ length listing.entries
  pub first : ℕ
  pub is_first : IsFirstFrame frames first
  pub small : first < 2 ^ 63
