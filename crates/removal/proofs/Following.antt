-- In each block of a weave the I-frame playlist lists no segment that the media playlist doesn't.
use Rattle.std.proofs.Common.{arith, ℕ, Bool, true, false, Option, None, Some, List, [], ◌∷◌, ◌++◌, ◌+◌, All, codes, map, refl, sym, subst}
use Rattle.std.specs.Fmt.{decimal}
use Rattle.std.specs.List.{Contains, flat_map}
use Rattle.std.proofs.lemmas.List.Elements.{All-append, All-cons, All-head, All-nil, All-tail, All-weaker, Contains-append_left, Contains-append_right}
use Rattle.playlist_text.specs.Uris.{segment_uri}
use Rattle.playlist_text.specs.Lines.{text_of}
use Rattle.playlist_text.specs.MediaLines.{Entry, discontinuity_lines, duration_line, end_lines, entries_lines, entry_key_lines, entry_lines, head_lines, listing_lines, type_lines, vector_key_line}
use Rattle.media_playlist.specs.declared.row.FrameRow.{FrameRow}
use Rattle.media_playlist.specs.Rows.{SegmentRow}
use Rattle.media_playlist.specs.Listed.{Pushed, discontinuity_count, frame_count, listed, removed}
use Rattle.media_playlist.specs.Lines.{entry_of, frame_lines, frames_only_line, iframe_lines, listing_of, media_lines, range_line, row_frame_lines, unless_empty}
use Rattle.item_io.specs.Blocks.{AreBlocks}
use Rattle.item_io.specs.Items.{ItemValue}
use Rattle.ladder_items.specs.Ladder.{Ladder, rendition_at}
use Rattle.ladder_items.specs.Items.{Part, part_at, shown_of}
use Rattle.ladder_items.specs.Shown.{in_window}
use Rattle.ladder_items.specs.Weave.{End, Event, Row, Weaves, after, blocks, none_of}
use Rattle.keeping.specs.InPlace.{FramesFollow, IsUri, ListsNoMore}

module _ (lines : List (List ℕ)) where
  abbrev Says : List ℕ → Type 0
  Says line = IsUri line → Contains lines line

  abbrev AreSaid : List (List ℕ) → Type 0
  AreSaid ls = All Says ls

  none : AreSaid []
  none = All-nil Says

  and-line : (x : List ℕ) (xs : List (List ℕ)) → Says x → AreSaid xs → AreSaid (x ∷ xs)
  and-line x xs = All-cons Says x xs

  and-lines : (xs ys : List (List ℕ)) → AreSaid xs → AreSaid ys → AreSaid (xs ++ ys)
  and-lines xs ys = All-append Says xs ys

  -- a tag, which is no URI, and more lines
  and-tag : (line : List ℕ) (xs : List (List ℕ)) → AreSaid xs → AreSaid ((35 ∷ line) ∷ xs)
  and-tag line xs said = and-line (35 ∷ line) xs (λ uri. absurd (uri refl)) said

  head-said : (target sequence discontinuities : ℕ) → AreSaid (head_lines target sequence discontinuities)
  unfolding head_lines
  head-said target sequence discontinuities =
      let last = (codes "#EXT-X-DISCONTINUITY-SEQUENCE:" ++ decimal discontinuities) ∷ [] in
      let later = (codes "#EXT-X-MEDIA-SEQUENCE:" ++ decimal sequence) ∷ last in
      let more = (codes "#EXT-X-TARGETDURATION:" ++ decimal target) ∷ later in
      and-tag (codes "EXTM3U") (codes "#EXT-X-VERSION:4" ∷ more)
      (and-tag (codes "EXT-X-VERSION:4") more
      (and-tag (codes "EXT-X-TARGETDURATION:" ++ decimal target) later
      (and-tag (codes "EXT-X-MEDIA-SEQUENCE:" ++ decimal sequence) last
      (and-tag (codes "EXT-X-DISCONTINUITY-SEQUENCE:" ++ decimal discontinuities) [] none))))

  type-said : (event : Bool) → AreSaid (type_lines event)
  unfolding type_lines
  type-said true = and-tag (codes "EXT-X-PLAYLIST-TYPE:EVENT") [] none
  type-said false = none

  discontinuity-said : (signs : Bool) → AreSaid (discontinuity_lines signs)
  unfolding discontinuity_lines
  discontinuity-said true = and-tag (codes "EXT-X-DISCONTINUITY") [] none
  discontinuity-said false = none

  end-said : (ended : Bool) → AreSaid (end_lines ended)
  unfolding end_lines
  end-said true = and-tag (codes "EXT-X-ENDLIST") [] none
  end-said false = none

  key-said : (name : List ℕ) (salt : Option (List ℕ)) (key number : ℕ) → Says (vector_key_line name salt key number)
  unfolding vector_key_line
  key-said name salt key number uri = absurd (uri refl)

  duration-said : (micros : ℕ) → Says (duration_line micros)
  unfolding duration_line
  duration-said micros uri = absurd (uri refl)

  range-said : (len offset : ℕ) → Says (range_line len offset)
  unfolding range_line
  range-said len offset uri = absurd (uri refl)

  frames-said : (name : List ℕ) (number : ℕ) (frames : List FrameRow) → Contains lines (segment_uri name number) → AreSaid (flat_map (frame_lines name number) frames)
  unfolding frame_lines
  frames-said name number [] has = none
  frames-said name number (frame ∷ frames) has =
      let uri = segment_uri name number in
      let range = range_line frame.len frame.offset in
      and-lines (frame_lines name number frame) (flat_map (frame_lines name number) frames)
      (and-line (duration_line frame.micros) (range ∷ uri ∷ []) (duration-said frame.micros)
      (and-line range (uri ∷ []) (range-said frame.len frame.offset) (and-line uri [] (λ _. has) none)))
      (frames-said name number frames has)

  row-said : (name : List ℕ) (salt : Option (List ℕ)) (row : SegmentRow) → Contains lines (segment_uri name row.number) → AreSaid (row_frame_lines name salt row)
  unfolding row_frame_lines
  row-said name salt row has =
      let signs = discontinuity_lines row.discontinuity in
      let key = vector_key_line name salt row.key row.number in
      and-lines (signs ++ key ∷ []) (flat_map (frame_lines name row.number) row.frames)
      (and-lines signs (key ∷ []) (discontinuity-said row.discontinuity) (and-line key [] (key-said name salt row.key row.number) none))
      (frames-said name row.number row.frames has)

  abbrev IsListed : List ℕ → SegmentRow → Type 0
  IsListed name row = Contains lines (segment_uri name row.number)

  rows-said : (name : List ℕ) (salt : Option (List ℕ)) (rows : List SegmentRow) → All (IsListed name) rows → AreSaid (flat_map (row_frame_lines name salt) rows)
  rows-said name salt [] has = none
  rows-said name salt (row ∷ rows) has =
      and-lines (row_frame_lines name salt row) (flat_map (row_frame_lines name salt) rows)
      (row-said name salt row (All-head (IsListed name) row rows has)) (rows-said name salt rows (All-tail (IsListed name) row rows has))

-- a media playlist has the URI of each row that it lists
in-entry : (name : List ℕ) (salt : Option (List ℕ)) (before : Option ℕ) (entry : Entry) → Contains (entry_lines name salt before entry) (segment_uri name entry.number)
unfolding entry_lines
in-entry name salt before entry =
    Contains-append_right (discontinuity_lines entry.discontinuity ++ entry_key_lines name salt before entry.key entry.number) (duration_line entry.micros ∷ segment_uri name entry.number ∷ [])
    (segment_uri name entry.number) (1, omega arith, refl)

in-entries : (name : List ℕ) (salt : Option (List ℕ)) (before : Option ℕ) (rows : List SegmentRow) →
    All (λ (row : SegmentRow). Contains (entries_lines name salt before (map entry_of rows)) (segment_uri name row.number)) rows
unfolding entries_lines
in-entries name salt before [] = All-nil (λ (row : SegmentRow). Contains (entries_lines name salt before []) (segment_uri name row.number))
in-entries name salt before (row ∷ rows) =
    let first = entry_lines name salt before (entry_of row) in
    let later = entries_lines name salt (Some row.key) (map entry_of rows) in
    All-cons (λ (r : SegmentRow). Contains (first ++ later) (segment_uri name r.number)) row rows
    (Contains-append_left first later (segment_uri name row.number) (in-entry name salt before (entry_of row)))
    (All-weaker (λ (r : SegmentRow). Contains later (segment_uri name r.number)) (λ (r : SegmentRow). Contains (first ++ later) (segment_uri name r.number))
    (λ r has. Contains-append_right first later (segment_uri name r.number) has) rows (in-entries name salt (Some row.key) rows))

in-listing : (pushed : Pushed) (ended : Bool) → All (λ (row : SegmentRow). Contains (listing_lines (listing_of pushed ended)) (segment_uri pushed.name row.number)) (listed pushed)
unfolding listing_lines listing_of
in-listing pushed ended =
    let l = listing_of pushed ended in
    let front = head_lines l.target l.sequence l.discontinuity_sequence ++ type_lines l.event in
    let entries = entries_lines l.name l.salt None l.entries in
    All-weaker (λ (r : SegmentRow). Contains entries (segment_uri pushed.name r.number)) (λ (r : SegmentRow). Contains (front ++ entries ++ end_lines ended) (segment_uri pushed.name r.number))
    (λ r has. Contains-append_left (front ++ entries) (end_lines ended) (segment_uri pushed.name r.number) (Contains-append_right front entries (segment_uri pushed.name r.number) has))
    (listed pushed) (in-entries pushed.name pushed.salt None (listed pushed))

unless-both : (rows : List SegmentRow) (media frames : List (List ℕ)) → AreSaid media frames → ListsNoMore (text_of (unless_empty rows media)) (text_of (unless_empty rows frames))
unless-both [] media frames said = record { lines = []; media_is = refl; frame_lines = []; frames_is = refl; listed = none [] }
unless-both (row ∷ rows) media frames said = record { lines = media; media_is = refl; frame_lines = frames; frames_is = refl; listed = said }

lists-no-more : (pushed : Pushed) (ended : Bool) → ListsNoMore (text_of (media_lines pushed ended)) (text_of (iframe_lines pushed ended))
unfolding media_lines iframe_lines
lists-no-more pushed ended =
    let media = listing_lines (listing_of pushed ended) in
    let frames = pushed.gone.frames + frame_count (removed pushed) in
    let discontinuities = pushed.gone.discontinuities + discontinuity_count (removed pushed) in
    let head = head_lines pushed.target frames discontinuities in
    let rows = flat_map (row_frame_lines pushed.name pushed.salt) (listed pushed) in
    unless-both pushed.rows media (head ++ type_lines pushed.event ++ frames_only_line ∷ [] ++ rows ++ end_lines ended)
    (and-lines media (head ++ type_lines pushed.event ++ frames_only_line ∷ [] ++ rows) (end_lines ended)
    (and-lines media (head ++ type_lines pushed.event ++ frames_only_line ∷ []) rows
    (and-lines media (head ++ type_lines pushed.event) (frames_only_line ∷ [])
    (and-lines media head (type_lines pushed.event) (head-said media pushed.target frames discontinuities) (type-said media pushed.event))
    (and-tag media (codes "EXT-X-I-FRAMES-ONLY") [] (none media)))
    (rows-said media pushed.name pushed.salt (listed pushed) (in-listing pushed ended)))
    (end-said media ended))

blocks-follow : (ladder : Ladder) (parts : List Part) (events : List Event) → AreBlocks (blocks ladder parts events) → FramesFollow (blocks ladder parts events)
unfolding blocks
blocks-follow ladder parts [] whole = tt
blocks-follow ladder parts (Row r plan ∷ events) whole =
    let shown = shown_of ladder (rendition_at ladder r) ((part_at parts r).plans ++ plan ∷ []) in
    (whole.0, (refl, lists-no-more (in_window shown) false, blocks-follow ladder (after parts (Row r plan)) events whole.3))
blocks-follow ladder parts (End r ∷ events) whole =
    let shown = shown_of ladder (rendition_at ladder r) (part_at parts r).plans in
    (whole.0, (refl, lists-no-more (in_window shown) true, blocks-follow ladder (after parts (End r)) events whole.2))

pub weaves-follow : (ladder : Ladder) (parts : List Part) (items : List ItemValue) → AreBlocks items → Weaves ladder parts items → FramesFollow items
weaves-follow ladder parts items whole weaves =
    subst FramesFollow (sym weaves.items_are) (blocks-follow ladder (none_of ladder) weaves.events (subst (λ (l : List ItemValue). AreBlocks l) weaves.items_are whole))
