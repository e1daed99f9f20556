-- The lines of an I-frame playlist, and what is picked of them.
use Rattle.std.proofs.Common.{◌≡◌, ℕ, ◌+◌, ◌/◌, ◌%◌, ◌<◌, ◌^◌, Bool, false, Option, Some, None, List, [], ◌∷◌, ◌++◌, length, refl, sym, ap, subst, ◌∙◌, arith, append_assoc, append-nil}
use Rattle.std.specs.Prelude.{All, codes}
use Rattle.std.specs.Fmt.{decimal}
use Rattle.std.specs.List.{flat_map}
use Rattle.std.proofs.lemmas.List.Elements.{All-head, All-tail, All-map}
use Rattle.hex.specs.Hex.{encode_upper}
use Rattle.playlist_text.specs.Attributes.{hexadecimal, attribute_list, quoted}
use Rattle.playlist_text.specs.Uris.{escaped, segment_uri, key_uri}
use Rattle.playlist_text.specs.Vectors.{salted_vector}
use Rattle.playlist_text.specs.MediaLines.{duration_line, vector_key_line, discontinuity_lines, head_lines, type_lines, end_lines}
use Rattle.playlist_text.proofs.SaltedVectors.{salted-small}
use Rattle.media_playlist.specs.declared.row.FrameRow.{FrameRow}
use Rattle.media_playlist.specs.Rows.{SegmentRow}
use Rattle.media_playlist.specs.Listed.{Pushed, first}
use Rattle.media_playlist.specs.Lines.{range_line, frame_lines, row_frame_lines, frames_only_line, iframe_lines}
use Rattle.media_playlist.proofs.WindowLines.{iframe_lines-some}
use Rattle.media_reading.specs.MediaTexts.{IsLine}
use Rattle.media_reading.specs.State.{key_begin}
use Rattle.media_reading.proofs.KeyLines.{key_front}
use Rattle.media_reading.proofs.Salts.{upper-without}
use Rattle.media_reading.proofs.LineEnds.{joined, written, decimal-line, duration-line, escaped-line, segment-line, no-lines, and-line, and-lines, type-IsLine, discontinuity-IsLine}
use Rattle.resume.proofs.PickedRows.{IsPlain}

-- no line has an LF within: the bytes of an I-frame
range-IsLine : (l o : ℕ) → l < 2 ^ 64 → o < 2 ^ 64 → IsLine (range_line l o)
unfolding range_line
range-IsLine l o few small =
    joined (codes "#EXT-X-BYTERANGE:" ++ decimal l ++ codes "@") (decimal o)
    (joined (codes "#EXT-X-BYTERANGE:" ++ decimal l) (codes "@") (joined (codes "#EXT-X-BYTERANGE:") (decimal l) (written (codes "#EXT-X-BYTERANGE:") refl) (decimal-line l few))
    (written (codes "@") refl)) (decimal-line o small)

-- the line of a key
vector-small : (salt : Option (List ℕ)) (n : ℕ) → All (λ b. b < 256) (salted_vector salt n)
vector-small None x =
    All-map (λ b. b < 256) (λ m. m % 256) (x / 256 ^ 15 ∷ x / 256 ^ 14 ∷ x / 256 ^ 13 ∷ x / 256 ^ 12 ∷ x / 256 ^ 11 ∷ x / 256 ^ 10 ∷ x / 256 ^ 9 ∷ x / 256 ^ 8 ∷ x / 256 ^ 7 ∷ x / 256 ^ 6 ∷ x / 256 ^ 5 ∷ x / 256 ^ 4 ∷ x / 256 ^ 3 ∷ x / 256 ^ 2 ∷ x / 256 ^ 1 ∷ x ∷ []) (λ k d lt. omega arith)
vector-small (Some salt) n = salted-small salt n

key-parts : (name : List ℕ) (salt : Option (List ℕ)) (n key : ℕ) →
    vector_key_line name salt key n ≡ key_front name ++ decimal key ++ (codes ".key\",IV=" ++ hexadecimal (salted_vector salt n))
unfolding vector_key_line attribute_list quoted key_uri
key-parts name salt n key =
    let uri = escaped name ++ codes "." ++ decimal key in
    let vector = codes ",IV=" ++ hexadecimal (salted_vector salt n) in
    ap (λ x. key_begin ++ x) (append_assoc (uri ++ codes ".key") (codes "\"") vector ∙ append_assoc uri (codes ".key") (codes "\"" ++ vector))

vector-IsLine : (xs : List ℕ) → All (λ b. b < 256) xs → IsLine (codes ".key\",IV=" ++ hexadecimal xs)
unfolding hexadecimal
vector-IsLine xs small = joined (codes ".key\",IV=0x") (encode_upper xs) (written (codes ".key\",IV=0x") refl) (upper-without 10 refl xs small)

key-IsLine : (name : List ℕ) (salt : Option (List ℕ)) (n key : ℕ) → key < 2 ^ 64 → IsLine (vector_key_line name salt key n)
key-IsLine name salt n key small =
    subst IsLine (sym (key-parts name salt n key))
    (joined (key_front name ++ decimal key) (codes ".key\",IV=" ++ hexadecimal (salted_vector salt n))
    (joined (key_front name) (decimal key)
    (joined (key_begin ++ escaped name) (codes ".") (joined key_begin (escaped name) (written key_begin refl) (escaped-line name)) (written (codes ".") refl))
    (decimal-line key small))
    (vector-IsLine (salted_vector salt n) (vector-small salt n)))

-- the lines of I-frames
frames-IsLine : (name : List ℕ) (number : ℕ) (frames : List FrameRow) → number < 2 ^ 33 → All IsPlain frames → All IsLine (flat_map (frame_lines name number) frames)
unfolding frame_lines
frames-IsLine name number [] small plain = no-lines
frames-IsLine name number (frame ∷ frames) small plain =
    let one = All-head IsPlain frame frames plain in
    let uri = segment_uri name number ∷ [] in
    and-lines (duration_line frame.micros ∷ range_line frame.len frame.offset ∷ uri) (flat_map (frame_lines name number) frames)
    (and-line (duration_line frame.micros) (range_line frame.len frame.offset ∷ uri) (duration-line frame.micros one.micros)
    (and-line (range_line frame.len frame.offset) uri (range-IsLine frame.len frame.offset (omega (arith, one.len)) (omega (arith, one.offset)))
    (and-line (segment_uri name number) [] (segment-line name number small) no-lines)))
    (frames-IsLine name number frames small (All-tail IsPlain frame frames plain))

-- a row whose numbers are read
pub record IsPlainRow (row : SegmentRow) : Type 0 where
  pub number : row.number < 2 ^ 33
  pub key : row.key < 2 ^ 64
  pub frames : All IsPlain row.frames

rows-IsLine : (name : List ℕ) (salt : Option (List ℕ)) (rows : List SegmentRow) → All IsPlainRow rows → All IsLine (flat_map (row_frame_lines name salt) rows)
unfolding row_frame_lines
rows-IsLine name salt [] plain = no-lines
rows-IsLine name salt (row ∷ rows) plain =
    let one = All-head IsPlainRow row rows plain in
    let key = vector_key_line name salt row.key row.number in
    let frames = flat_map (frame_lines name row.number) row.frames in
    and-lines (discontinuity_lines row.discontinuity ++ key ∷ [] ++ frames) (flat_map (row_frame_lines name salt) rows)
    (and-lines (discontinuity_lines row.discontinuity ++ key ∷ []) frames
    (and-lines (discontinuity_lines row.discontinuity) (key ∷ []) (discontinuity-IsLine row.discontinuity) (and-line key [] (key-IsLine name salt row.number row.key one.key) no-lines))
    (frames-IsLine name row.number row.frames one.number one.frames))
    (rows-IsLine name salt rows (All-tail IsPlainRow row rows plain))

head-IsLine : (t s d : ℕ) → t < 2 ^ 64 → s < 2 ^ 64 → d < 2 ^ 64 → All IsLine (head_lines t s d)
unfolding head_lines
head-IsLine t s d one two three =
    let disc = codes "#EXT-X-DISCONTINUITY-SEQUENCE:" ++ decimal d in
    let sequence = codes "#EXT-X-MEDIA-SEQUENCE:" ++ decimal s in
    let target = codes "#EXT-X-TARGETDURATION:" ++ decimal t in
    and-line (codes "#EXTM3U") (codes "#EXT-X-VERSION:4" ∷ target ∷ sequence ∷ disc ∷ []) (written (codes "#EXTM3U") refl)
    (and-line (codes "#EXT-X-VERSION:4") (target ∷ sequence ∷ disc ∷ []) (written (codes "#EXT-X-VERSION:4") refl)
    (and-line target (sequence ∷ disc ∷ []) (joined (codes "#EXT-X-TARGETDURATION:") (decimal t) (written (codes "#EXT-X-TARGETDURATION:") refl) (decimal-line t one))
    (and-line sequence (disc ∷ []) (joined (codes "#EXT-X-MEDIA-SEQUENCE:") (decimal s) (written (codes "#EXT-X-MEDIA-SEQUENCE:") refl) (decimal-line s two))
    (and-line disc [] (joined (codes "#EXT-X-DISCONTINUITY-SEQUENCE:") (decimal d) (written (codes "#EXT-X-DISCONTINUITY-SEQUENCE:") refl) (decimal-line d three)) no-lines))))

-- the lines that list I-frames
abbrev pub frame_playlist : ℕ → ℕ → ℕ → Bool → List ℕ → Option (List ℕ) → List SegmentRow → List (List ℕ)
frame_playlist t s d event name salt rows = head_lines t s d ++ type_lines event ++ frames_only_line ∷ [] ++ flat_map (row_frame_lines name salt) rows

pub frame_playlist-IsLine : (t s d : ℕ) (event : Bool) (name : List ℕ) (salt : Option (List ℕ)) (rows : List SegmentRow) → t < 2 ^ 64 → s < 2 ^ 64 → d < 2 ^ 64 →
    All IsPlainRow rows → All IsLine (frame_playlist t s d event name salt rows)
frame_playlist-IsLine t s d event name salt rows one two three plain =
    let head = head_lines t s d in
    let only = frames_only_line ∷ [] in
    and-lines (head ++ type_lines event ++ only) (flat_map (row_frame_lines name salt) rows)
    (and-lines (head ++ type_lines event) only (and-lines head (type_lines event) (head-IsLine t s d one two three) (type-IsLine event))
    (and-line frames_only_line [] (written frames_only_line refl) no-lines))
    (rows-IsLine name salt rows plain)

-- those of a window that removed no row
whole-by : (w : Pushed) (lines : List (List ℕ)) → lines ≡ head_lines w.target (w.gone.frames + 0) (w.gone.discontinuities + 0) ++ type_lines w.event ++ frames_only_line ∷ []
    ++ flat_map (row_frame_lines w.name w.salt) w.rows ++ end_lines false →
    lines ≡ frame_playlist w.target w.gone.frames w.gone.discontinuities w.event w.name w.salt w.rows
unfolding end_lines
whole-by w lines is =
    let frames : w.gone.frames + 0 ≡ w.gone.frames = omega arith in
    let breaks : w.gone.discontinuities + 0 ≡ w.gone.discontinuities = omega arith in
    is ∙ append-nil _ ∙ rw (frames, breaks) refl

pub iframes-whole : (w : Pushed) → first w ≡ 0 → 0 < length w.rows →
    iframe_lines w false ≡ frame_playlist w.target w.gone.frames w.gone.discontinuities w.event w.name w.salt w.rows
iframes-whole w none some = whole-by w (iframe_lines w false) (iframe_lines-some w false 0 0 0 some (sym none) refl refl)
