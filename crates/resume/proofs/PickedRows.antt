-- What is picked of an I-frame playlist is what it lists.
use Rattle.std.proofs.Common.{◌≡◌, ℕ, ◌+◌, ◌<◌, ◌^◌, Bool, true, false, Option, List, [], ◌∷◌, ◌++◌, length, refl, ap, append_assoc, append-nil, length-append}
use Rattle.std.specs.Prelude.{All, codes}
use Rattle.std.specs.Fmt.{decimal}
use Rattle.std.specs.List.{flat_map}
use Rattle.std.proofs.lemmas.List.Elements.{All-head, All-tail}
use Rattle.playlist_text.specs.Uris.{segment_uri}
use Rattle.playlist_text.specs.MediaLines.{vector_key_line, discontinuity_lines, head_lines, type_lines}
use Rattle.media_playlist.specs.declared.row.FrameRow.{FrameRow}
use Rattle.media_playlist.specs.Rows.{SegmentRow}
use Rattle.media_playlist.specs.Lines.{frame_lines, row_frame_lines, frames_only_line}
use Rattle.media_playlist.specs.Sequences.{frames_of}
use Rattle.resume.specs.Picking.{Picks, MOST, no_picks, pick_lines}
use Rattle.resume.specs.Starts.{starts_from}
use Rattle.resume.proofs.PickedLines.{picks-append, pick-uri, pick-duration, pick-range, pick-key, pick-nothing, pick-sequence}

-- an I-frame whose numbers are read
pub record IsPlain (frame : FrameRow) : Type 0 where
  pub offset : frame.offset < MOST
  pub len : frame.len < MOST
  pub micros : frame.micros < 2 ^ 64

-- what was picked so far, but for a duration; no URI comes next
pub record HasPicked (p : Picks) (n : ℕ) (frames : List FrameRow) (starts : List ℕ) : Type 0 where
  pub first : p.first ≡ n
  pub frames_are : p.frames ≡ frames
  pub starts_are : p.starts ≡ starts
  pub between : p.uri_next ≡ false

-- the lines of an I-frame
frame-picked : (p : Picks) (n : ℕ) (frames : List FrameRow) (starts : List ℕ) (name : List ℕ) (number : ℕ) (frame : FrameRow) → IsPlain frame →
    HasPicked p n frames starts → HasPicked (pick_lines p (frame_lines name number frame)) n (frames ++ frame ∷ []) starts
unfolding pick_lines frame_lines
frame-picked p n frames starts name number frame plain has =
    let one = pick-duration p frame.micros has.between plain.micros in
    let timed : Picks = record p { micros = frame.micros } in
    let two = pick-range timed frame.len frame.offset has.between plain.len plain.offset in
    let ranged : Picks = record timed { frames = p.frames ++ frame ∷ []; uri_next = true } in
    let three = pick-uri ranged (segment_uri name number) refl in
    rw (one, two, three) (record { first = has.first; frames_are = ap (λ (fs : List FrameRow). fs ++ frame ∷ []) has.frames_are; starts_are = has.starts_are; between = refl })

frames-picked : (p : Picks) (n : ℕ) (frames : List FrameRow) (starts : List ℕ) (name : List ℕ) (number : ℕ) (more : List FrameRow) → All IsPlain more →
    HasPicked p n frames starts → HasPicked (pick_lines p (flat_map (frame_lines name number) more)) n (frames ++ more) starts
unfolding pick_lines
frames-picked p n frames starts name number [] plain has = rw (append-nil frames) has
frames-picked p n frames starts name number (frame ∷ more) plain has =
    let here = frame-picked p n frames starts name number frame (All-head IsPlain frame more plain) has in
    let rest = frames-picked (pick_lines p (frame_lines name number frame)) n (frames ++ frame ∷ []) starts name number more (All-tail IsPlain frame more plain) here in
    rw (picks-append p (frame_lines name number frame) (flat_map (frame_lines name number) more), ← append_assoc frames (frame ∷ []) more) rest

-- the lines of a discontinuity
breaks-picked : (p : Picks) (b : Bool) → p.uri_next ≡ false → pick_lines p (discontinuity_lines b) ≡ p
unfolding pick_lines discontinuity_lines
breaks-picked p true none = pick-nothing p (codes "#EXT-X-DISCONTINUITY") none refl refl refl refl
breaks-picked p false none = refl

-- the lines of a row
row-picked : (p : Picks) (n : ℕ) (frames : List FrameRow) (starts : List ℕ) (name : List ℕ) (salt : Option (List ℕ)) (row : SegmentRow) → All IsPlain row.frames →
    HasPicked p n frames starts → HasPicked (pick_lines p (row_frame_lines name salt row)) n (frames ++ row.frames) (starts ++ length frames ∷ [])
unfolding row_frame_lines pick_lines
row-picked p n frames starts name salt row plain has =
    let key = vector_key_line name salt row.key row.number in
    let rest = flat_map (frame_lines name row.number) row.frames in
    let keyed : Picks = record p { starts = p.starts ++ length p.frames ∷ [] } in
    let at : HasPicked keyed n frames (starts ++ length frames ∷ []) = record {
      first = has.first;
      frames_are = has.frames_are;
      starts_are = rw (has.starts_are, has.frames_are) refl;
      between = has.between;
    } in
    let all = frames-picked keyed n frames (starts ++ length frames ∷ []) name row.number row.frames plain at in
    rw (
      picks-append p (discontinuity_lines row.discontinuity ++ key ∷ []) rest,
      picks-append p (discontinuity_lines row.discontinuity) (key ∷ []),
      breaks-picked p row.discontinuity has.between,
      pick-key p name salt row.key row.number has.between,
    ) all

rows-picked : (p : Picks) (n : ℕ) (frames : List FrameRow) (starts : List ℕ) (name : List ℕ) (salt : Option (List ℕ)) (rows : List SegmentRow) →
    All (λ (row : SegmentRow). All IsPlain row.frames) rows → HasPicked p n frames starts →
    HasPicked (pick_lines p (flat_map (row_frame_lines name salt) rows)) n (frames ++ frames_of rows) (starts ++ starts_from (length frames) rows)
unfolding pick_lines
rows-picked p n frames starts name salt [] plain has = rw (append-nil frames, append-nil starts) has
rows-picked p n frames starts name salt (row ∷ rows) plain has =
    let each = λ (r : SegmentRow). All IsPlain r.frames in
    let here = row-picked p n frames starts name salt row (All-head each row rows plain) has in
    let rest = rows-picked (pick_lines p (row_frame_lines name salt row)) n (frames ++ row.frames) (starts ++ length frames ∷ []) name salt rows (All-tail each row rows plain) here in
    let count : length (frames ++ row.frames) ≡ length frames + length row.frames = length-append frames row.frames in
    rw (
      picks-append p (row_frame_lines name salt row) (flat_map (row_frame_lines name salt) rows),
      ← append_assoc frames row.frames (frames_of rows),
      ← count,
      ← append_assoc starts (length frames ∷ []) (starts_from (length (frames ++ row.frames)) rows),
    ) rest

-- the lines of the head
type-picked : (p : Picks) (b : Bool) → p.uri_next ≡ false → pick_lines p (type_lines b) ≡ p
unfolding pick_lines type_lines
type-picked p true none = pick-nothing p (codes "#EXT-X-PLAYLIST-TYPE:EVENT") none refl refl refl refl
type-picked p false none = refl

head-picked : (target n breaks : ℕ) → n < MOST → HasPicked (pick_lines no_picks (head_lines target n breaks)) n [] []
unfolding pick_lines head_lines
head-picked target n breaks small =
    let p : Picks = no_picks in
    let q : Picks = record p { first = n } in
    rw (
      pick-nothing p (codes "#EXTM3U") refl refl refl refl refl,
      pick-nothing p (codes "#EXT-X-VERSION:4") refl refl refl refl refl,
      pick-nothing p (codes "#EXT-X-TARGETDURATION:" ++ decimal target) refl refl refl refl refl,
      pick-sequence p n refl small,
      pick-nothing q (codes "#EXT-X-DISCONTINUITY-SEQUENCE:" ++ decimal breaks) refl refl refl refl refl,
    )
    (record { first = refl; frames_are = refl; starts_are = refl; between = refl })

only-picked : (p : Picks) → p.uri_next ≡ false → pick_lines p (frames_only_line ∷ []) ≡ p
unfolding pick_lines
only-picked p none = pick-nothing p frames_only_line none refl refl refl refl

-- so all that the playlist lists is picked
pub all-picked : (target n breaks : ℕ) (event : Bool) (name : List ℕ) (salt : Option (List ℕ)) (rows : List SegmentRow) → n < MOST →
    All (λ (row : SegmentRow). All IsPlain row.frames) rows →
    HasPicked (pick_lines no_picks (head_lines target n breaks ++ type_lines event ++ frames_only_line ∷ [] ++ flat_map (row_frame_lines name salt) rows))
    n (frames_of rows) (starts_from 0 rows)
all-picked target n breaks event name salt rows small plain =
    let head = head_lines target n breaks in
    let typed = head ++ type_lines event in
    let only = frames_only_line ∷ [] in
    let p = pick_lines no_picks head in
    let has = head-picked target n breaks small in
    let all = rows-picked p n [] [] name salt rows plain has in
    rw (
      picks-append no_picks (typed ++ only) (flat_map (row_frame_lines name salt) rows),
      picks-append no_picks typed only,
      picks-append no_picks head (type_lines event),
      type-picked p event has.between,
      only-picked p has.between,
    ) all
