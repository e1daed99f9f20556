-- Each line of a playlist is a tag, or a URI of a file that it lists.
use Rattle.std.proofs.Common.{◌≡◌, ◌∙◌, ℕ, ◌+◌, ◌==◌, Bool, true, false, List, [], ◌∷◌, ◌++◌, map, All, Option, Some, None, refl, sym}
use Rattle.std.specs.Prelude.{codes, if◌then◌else◌}
use Rattle.std.specs.List.{flat_map}
use Rattle.std.specs.Fmt.{decimal}
use Rattle.std.proofs.lemmas.Bool.{false≢true}
use Rattle.std.proofs.lemmas.List.Elements.{All-nil, All-cons, All-head, All-tail, All-append, All-drop, All-map}
use Rattle.playlist_text.specs.Attributes.{quoted, hexadecimal, resolution, attribute, attribute_list}
use Rattle.playlist_text.specs.Numbers.{seconds}
use Rattle.playlist_text.specs.Uris.{segment_uri, key_uri, media_uri, frames_uri}
use Rattle.playlist_text.specs.Vectors.{salted_vector}
use Rattle.playlist_text.specs.MediaLines.{Entry, Listing, head_lines, type_lines, discontinuity_lines, key_attributes, key_line, key_lines, vector_key_attributes, vector_key_line, entry_key_lines, duration_line, entry_lines, entries_lines, end_lines, listing_lines}
use Rattle.media_playlist.specs.declared.row.FrameRow.{FrameRow}
use Rattle.media_playlist.specs.Rows.{SegmentRow}
use Rattle.media_playlist.specs.Listed.{Pushed, first, listed, removed, discontinuity_count, frame_count}
use Rattle.media_playlist.specs.Lines.{entry_of, unless_empty, listing_of, media_lines, range_line, frame_lines, row_frame_lines, frames_only_line, iframe_lines}
use Rattle.master_playlist.specs.Listed.{Listed}
use Rattle.master_playlist.specs.MasterLines.{attributes, stream_lines, frames_line, master_lines}
use Rattle.ladder_laws.specs.Playlists.{is_uri}
use Rattle.ladder_laws.proofs.UriLines.{IsGood, IsOneLine}
use Rattle.ladder_laws.proofs.WholeLines.{joined, written, decimal-line, seconds-line, segment-line, key-line as key-uri-line, media-line, frames-line, quoted-line, hexadecimal-line, resolution-line, attribute-line, list-line}

-- texts of attributes
no-texts : All IsOneLine []
no-texts = All-nil IsOneLine

and-text : (x : List ℕ) (xs : List (List ℕ)) → IsOneLine x → All IsOneLine xs → All IsOneLine (x ∷ xs)
and-text x xs = All-cons IsOneLine x xs

key-attributes : (name : List ℕ) (index : ℕ) → All IsOneLine (key_attributes (key_uri name index))
key-attributes name index =
    let method = attribute (codes "METHOD") (codes "AES-128") in
    let uri = attribute (codes "URI") (quoted (key_uri name index)) in
    and-text method (uri ∷ []) (attribute-line (codes "METHOD") (codes "AES-128") refl (written (codes "AES-128") refl))
    (and-text uri [] (attribute-line (codes "URI") (quoted (key_uri name index)) refl (quoted-line (key_uri name index) (key-uri-line name index))) no-texts)

variant-attributes : (v : Listed) (peak average : ℕ) → IsOneLine v.codecs → All IsOneLine (attributes v peak average)
unfolding attributes
variant-attributes v peak average one =
    let peak_is = attribute (codes "BANDWIDTH") (decimal peak) in
    let average_is = attribute (codes "AVERAGE-BANDWIDTH") (decimal average) in
    let codecs_are = attribute (codes "CODECS") (quoted v.codecs) in
    let size_is = attribute (codes "RESOLUTION") (resolution v.width v.height) in
    and-text peak_is (average_is ∷ codecs_are ∷ size_is ∷ []) (attribute-line (codes "BANDWIDTH") (decimal peak) refl (decimal-line peak))
    (and-text average_is (codecs_are ∷ size_is ∷ []) (attribute-line (codes "AVERAGE-BANDWIDTH") (decimal average) refl (decimal-line average))
    (and-text codecs_are (size_is ∷ []) (attribute-line (codes "CODECS") (quoted v.codecs) refl (quoted-line v.codecs one))
    (and-text size_is [] (attribute-line (codes "RESOLUTION") (resolution v.width v.height) refl (resolution-line v.width v.height)) no-texts)))

module _ (P : List ℕ → Type 0) where
  abbrev AreGood : List (List ℕ) → Type 0
  AreGood lines = All (IsGood P) lines

  no-lines : AreGood []
  no-lines = All-nil (IsGood P)

  and-line : (x : List ℕ) (xs : List (List ℕ)) → IsGood P x → AreGood xs → AreGood (x ∷ xs)
  and-line x xs = All-cons (IsGood P) x xs

  and-lines : (xs ys : List (List ℕ)) → AreGood xs → AreGood ys → AreGood (xs ++ ys)
  and-lines xs ys = All-append (IsGood P) xs ys

  -- a tag
  tag : (line : List ℕ) → is_uri line ≡ false → IsOneLine line → IsGood P line
  tag line none one = (one, λ is. absurd (false≢true (sym none ∙ is)))

  -- a tag that is written out
  known : (front : List ℕ) (rest : List ℕ) → IsOneLine front → is_uri (front ++ rest) ≡ false → IsOneLine rest → IsGood P (front ++ rest)
  known front rest one none other = tag (front ++ rest) none (joined front rest one other)

  key-good : (name : List ℕ) (index : ℕ) → IsGood P (key_line name index)
  unfolding key_line
  key-good name index = known (codes "#EXT-X-KEY:") (attribute_list (key_attributes (key_uri name index))) (written (codes "#EXT-X-KEY:") refl) refl (list-line (key_attributes (key_uri name index)) (key-attributes name index))

  vector-good : (name : List ℕ) (salt : Option (List ℕ)) (index number : ℕ) → IsGood P (vector_key_line name salt index number)
  unfolding vector_key_line
  vector-good name salt index number =
      let vector = salted_vector salt number in
      let all = vector_key_attributes (key_uri name index) vector in
      known (codes "#EXT-X-KEY:") (attribute_list all) (written (codes "#EXT-X-KEY:") refl) refl
      (list-line all (All-append IsOneLine (key_attributes (key_uri name index)) (attribute (codes "IV") (hexadecimal vector) ∷ []) (key-attributes name index)
      (and-text (attribute (codes "IV") (hexadecimal vector)) [] (attribute-line (codes "IV") (hexadecimal vector) refl (hexadecimal-line vector)) no-texts)))

  duration-good : (micros : ℕ) → IsGood P (duration_line micros)
  unfolding duration_line
  duration-good micros =
      tag (codes "#EXTINF:" ++ seconds micros ++ codes ",") refl
      (joined (codes "#EXTINF:" ++ seconds micros) (codes ",") (joined (codes "#EXTINF:") (seconds micros) (written (codes "#EXTINF:") refl) (seconds-line micros)) (written (codes ",") refl))

  range-good : (len offset : ℕ) → IsGood P (range_line len offset)
  unfolding range_line
  range-good len offset =
      tag (codes "#EXT-X-BYTERANGE:" ++ decimal len ++ codes "@" ++ decimal offset) refl
      (joined (codes "#EXT-X-BYTERANGE:" ++ decimal len ++ codes "@") (decimal offset)
      (joined (codes "#EXT-X-BYTERANGE:" ++ decimal len) (codes "@") (joined (codes "#EXT-X-BYTERANGE:") (decimal len) (written (codes "#EXT-X-BYTERANGE:") refl) (decimal-line len)) (written (codes "@") refl))
      (decimal-line offset))

  uri-good : (name : List ℕ) (n : ℕ) → P (segment_uri name n) → IsGood P (segment_uri name n)
  uri-good name n says = (segment-line name n, λ _. says)

  head-good : (target sequence discontinuities : ℕ) → AreGood (head_lines target sequence discontinuities)
  unfolding head_lines
  head-good target sequence discontinuities =
      let last = (codes "#EXT-X-DISCONTINUITY-SEQUENCE:" ++ decimal discontinuities) ∷ [] in
      let later = (codes "#EXT-X-MEDIA-SEQUENCE:" ++ decimal sequence) ∷ last in
      let more = (codes "#EXT-X-TARGETDURATION:" ++ decimal target) ∷ later in
      and-line (codes "#EXTM3U") (codes "#EXT-X-VERSION:4" ∷ more) (tag (codes "#EXTM3U") refl (written (codes "#EXTM3U") refl))
      (and-line (codes "#EXT-X-VERSION:4") more (tag (codes "#EXT-X-VERSION:4") refl (written (codes "#EXT-X-VERSION:4") refl))
      (and-line (codes "#EXT-X-TARGETDURATION:" ++ decimal target) later (known (codes "#EXT-X-TARGETDURATION:") (decimal target) (written (codes "#EXT-X-TARGETDURATION:") refl) refl (decimal-line target))
      (and-line (codes "#EXT-X-MEDIA-SEQUENCE:" ++ decimal sequence) last (known (codes "#EXT-X-MEDIA-SEQUENCE:") (decimal sequence) (written (codes "#EXT-X-MEDIA-SEQUENCE:") refl) refl (decimal-line sequence))
      (and-line (codes "#EXT-X-DISCONTINUITY-SEQUENCE:" ++ decimal discontinuities) [] (known (codes "#EXT-X-DISCONTINUITY-SEQUENCE:") (decimal discontinuities) (written (codes "#EXT-X-DISCONTINUITY-SEQUENCE:") refl) refl (decimal-line discontinuities)) no-lines))))

  type-good : (event : Bool) → AreGood (type_lines event)
  unfolding type_lines
  type-good true = and-line (codes "#EXT-X-PLAYLIST-TYPE:EVENT") [] (tag (codes "#EXT-X-PLAYLIST-TYPE:EVENT") refl (written (codes "#EXT-X-PLAYLIST-TYPE:EVENT") refl)) no-lines
  type-good false = no-lines

  discontinuity-good : (signs : Bool) → AreGood (discontinuity_lines signs)
  unfolding discontinuity_lines
  discontinuity-good true = and-line (codes "#EXT-X-DISCONTINUITY") [] (tag (codes "#EXT-X-DISCONTINUITY") refl (written (codes "#EXT-X-DISCONTINUITY") refl)) no-lines
  discontinuity-good false = no-lines

  end-good : (ended : Bool) → AreGood (end_lines ended)
  unfolding end_lines
  end-good true = and-line (codes "#EXT-X-ENDLIST") [] (tag (codes "#EXT-X-ENDLIST") refl (written (codes "#EXT-X-ENDLIST") refl)) no-lines
  end-good false = no-lines

  keys-by : (name : List ℕ) (index : ℕ) (same : Bool) → AreGood (if same then [] else key_line name index ∷ [])
  keys-by name index true = no-lines
  keys-by name index false = and-line (key_line name index) [] (key-good name index) no-lines

  keys-good : (name : List ℕ) (before : Option ℕ) (index : ℕ) → AreGood (key_lines name before index)
  unfolding key_lines
  keys-good name None index = and-line (key_line name index) [] (key-good name index) no-lines
  keys-good name (Some before) index = keys-by name index (before == index)

  all-keys-good : (name : List ℕ) (salt : Option (List ℕ)) (before : Option ℕ) (index number : ℕ) → AreGood (entry_key_lines name salt before index number)
  unfolding entry_key_lines
  all-keys-good name None before index number = keys-good name before index
  all-keys-good name (Some salt) before index number = and-line (vector_key_line name (Some salt) index number) [] (vector-good name (Some salt) index number) no-lines

  entry-good : (name : List ℕ) (salt : Option (List ℕ)) (before : Option ℕ) (entry : Entry) → P (segment_uri name entry.number) → AreGood (entry_lines name salt before entry)
  unfolding entry_lines
  entry-good name salt before entry says =
      let keys = entry_key_lines name salt before entry.key entry.number in
      and-lines (discontinuity_lines entry.discontinuity ++ keys) (duration_line entry.micros ∷ segment_uri name entry.number ∷ [])
      (and-lines (discontinuity_lines entry.discontinuity) keys (discontinuity-good entry.discontinuity) (all-keys-good name salt before entry.key entry.number))
      (and-line (duration_line entry.micros) (segment_uri name entry.number ∷ []) (duration-good entry.micros)
      (and-line (segment_uri name entry.number) [] (uri-good name entry.number says) no-lines))

  entries-good : (name : List ℕ) (salt : Option (List ℕ)) (before : Option ℕ) (entries : List Entry) → All (λ entry. P (segment_uri name entry.number)) entries → AreGood (entries_lines name salt before entries)
  unfolding entries_lines
  entries-good name salt before [] says = no-lines
  entries-good name salt before (entry ∷ entries) says =
      and-lines (entry_lines name salt before entry) (entries_lines name salt (Some entry.key) entries)
      (entry-good name salt before entry (All-head (λ e. P (segment_uri name e.number)) entry entries says))
      (entries-good name salt (Some entry.key) entries (All-tail (λ e. P (segment_uri name e.number)) entry entries says))

  listing-good : (l : Listing) → All (λ entry. P (segment_uri l.name entry.number)) l.entries → AreGood (listing_lines l)
  unfolding listing_lines
  listing-good l says =
      let head = head_lines l.target l.sequence l.discontinuity_sequence in
      let entries = entries_lines l.name l.salt None l.entries in
      and-lines (head ++ type_lines l.event ++ entries) (end_lines l.ended)
      (and-lines (head ++ type_lines l.event) entries
      (and-lines head (type_lines l.event) (head-good l.target l.sequence l.discontinuity_sequence) (type-good l.event))
      (entries-good l.name l.salt None l.entries says))
      (end-good l.ended)

  unless-good : (rows : List SegmentRow) (lines : List (List ℕ)) → AreGood lines → AreGood (unless_empty rows lines)
  unless-good [] lines good = no-lines
  unless-good (row ∷ rows) lines good = good

  -- the lines of a media playlist
  pub media-good : (pushed : Pushed) (ended : Bool) → All (λ row. P (segment_uri pushed.name row.number)) pushed.rows → AreGood (media_lines pushed ended)
  unfolding media_lines listing_of
  media-good pushed ended says =
      unless-good pushed.rows (listing_lines (listing_of pushed ended))
      (listing-good (listing_of pushed ended) (All-map (λ (e : Entry). P (segment_uri pushed.name e.number)) entry_of (listed pushed) (All-drop (λ (row : SegmentRow). P (segment_uri pushed.name row.number)) (first pushed) pushed.rows says)))

  frames-good : (name : List ℕ) (number : ℕ) (frames : List FrameRow) → P (segment_uri name number) → AreGood (flat_map (frame_lines name number) frames)
  unfolding frame_lines
  frames-good name number [] says = no-lines
  frames-good name number (frame ∷ frames) says =
      and-lines (frame_lines name number frame) (flat_map (frame_lines name number) frames)
      (and-line (duration_line frame.micros) (range_line frame.len frame.offset ∷ segment_uri name number ∷ []) (duration-good frame.micros)
      (and-line (range_line frame.len frame.offset) (segment_uri name number ∷ []) (range-good frame.len frame.offset)
      (and-line (segment_uri name number) [] (uri-good name number says) no-lines)))
      (frames-good name number frames says)

  row-good : (name : List ℕ) (salt : Option (List ℕ)) (row : SegmentRow) → P (segment_uri name row.number) → AreGood (row_frame_lines name salt row)
  unfolding row_frame_lines
  row-good name salt row says =
      let signs = discontinuity_lines row.discontinuity in
      let key = vector_key_line name salt row.key row.number ∷ [] in
      let frames = flat_map (frame_lines name row.number) row.frames in
      and-lines (signs ++ key) frames (and-lines signs key (discontinuity-good row.discontinuity) (and-line (vector_key_line name salt row.key row.number) [] (vector-good name salt row.key row.number) no-lines))
      (frames-good name row.number row.frames says)

  rows-good : (name : List ℕ) (salt : Option (List ℕ)) (rows : List SegmentRow) → All (λ row. P (segment_uri name row.number)) rows → AreGood (flat_map (row_frame_lines name salt) rows)
  rows-good name salt [] says = no-lines
  rows-good name salt (row ∷ rows) says =
      and-lines (row_frame_lines name salt row) (flat_map (row_frame_lines name salt) rows)
      (row-good name salt row (All-head (λ r. P (segment_uri name r.number)) row rows says)) (rows-good name salt rows (All-tail (λ r. P (segment_uri name r.number)) row rows says))

  -- the lines of an I-frame playlist
  pub iframes-good : (pushed : Pushed) (ended : Bool) → All (λ row. P (segment_uri pushed.name row.number)) pushed.rows → AreGood (iframe_lines pushed ended)
  unfolding iframe_lines
  iframes-good pushed ended says =
      let head = head_lines pushed.target (pushed.gone.frames + frame_count (removed pushed)) (pushed.gone.discontinuities + discontinuity_count (removed pushed)) in
      let kind = type_lines pushed.event in
      let only = frames_only_line ∷ [] in
      let rows = flat_map (row_frame_lines pushed.name pushed.salt) (listed pushed) in
      unless-good pushed.rows (head ++ kind ++ only ++ rows ++ end_lines ended)
      (and-lines (head ++ kind ++ only ++ rows) (end_lines ended)
      (and-lines (head ++ kind ++ only) rows
      (and-lines (head ++ kind) only
      (and-lines head kind (head-good pushed.target (pushed.gone.frames + frame_count (removed pushed)) (pushed.gone.discontinuities + discontinuity_count (removed pushed))) (type-good pushed.event))
      (and-line frames_only_line [] (tag frames_only_line refl (written frames_only_line refl)) no-lines))
      (rows-good pushed.name pushed.salt (listed pushed) (All-drop (λ (row : SegmentRow). P (segment_uri pushed.name row.number)) (first pushed) pushed.rows says)))
      (end-good ended))

  -- what a master playlist is to say of a variant
  abbrev pub IsGoodVariant : Listed → Type 0
  IsGoodVariant v = IsOneLine v.codecs × P (media_uri v.name)

  stream-good : (v : Listed) → IsGoodVariant v → AreGood (stream_lines v)
  unfolding stream_lines
  stream-good v says =
      let all = attributes v v.peak v.average in
      and-line (codes "#EXT-X-STREAM-INF:" ++ attribute_list all) (media_uri v.name ∷ [])
      (known (codes "#EXT-X-STREAM-INF:") (attribute_list all) (written (codes "#EXT-X-STREAM-INF:") refl) refl (list-line all (variant-attributes v v.peak v.average says.0)))
      (and-line (media_uri v.name) [] (media-line v.name, λ _. says.1) no-lines)

  frames-line-good : (v : Listed) → IsGoodVariant v → IsGood P (frames_line v)
  unfolding frames_line
  frames-line-good v says =
      let first = attributes v v.frame_peak v.frame_average in
      let uri = attribute (codes "URI") (quoted (frames_uri v.name)) in
      known (codes "#EXT-X-I-FRAME-STREAM-INF:") (attribute_list (first ++ uri ∷ [])) (written (codes "#EXT-X-I-FRAME-STREAM-INF:") refl) refl
      (list-line (first ++ uri ∷ []) (All-append IsOneLine first (uri ∷ []) (variant-attributes v v.frame_peak v.frame_average says.0)
      (and-text uri [] (attribute-line (codes "URI") (quoted (frames_uri v.name)) refl (quoted-line (frames_uri v.name) (frames-line v.name))) no-texts)))

  streams-good : (vs : List Listed) → All IsGoodVariant vs → AreGood (flat_map stream_lines vs)
  streams-good [] says = no-lines
  streams-good (v ∷ vs) says = and-lines (stream_lines v) (flat_map stream_lines vs) (stream-good v (All-head IsGoodVariant v vs says)) (streams-good vs (All-tail IsGoodVariant v vs says))

  frames-lines-good : (vs : List Listed) → All IsGoodVariant vs → AreGood (map frames_line vs)
  frames-lines-good [] says = no-lines
  frames-lines-good (v ∷ vs) says = and-line (frames_line v) (map frames_line vs) (frames-line-good v (All-head IsGoodVariant v vs says)) (frames-lines-good vs (All-tail IsGoodVariant v vs says))

  -- the lines of a master playlist
  pub master-good : (vs : List Listed) → All IsGoodVariant vs → AreGood (master_lines vs)
  unfolding master_lines
  master-good [] says = no-lines
  master-good (v ∷ vs) says =
      let lines = flat_map stream_lines (v ∷ vs) ++ map frames_line (v ∷ vs) in
      and-line (codes "#EXTM3U") (codes "#EXT-X-VERSION:4" ∷ lines) (tag (codes "#EXTM3U") refl (written (codes "#EXTM3U") refl))
      (and-line (codes "#EXT-X-VERSION:4") lines (tag (codes "#EXT-X-VERSION:4") refl (written (codes "#EXT-X-VERSION:4") refl))
      (and-lines (flat_map stream_lines (v ∷ vs)) (map frames_line (v ∷ vs)) (streams-good (v ∷ vs) says) (frames-lines-good (v ∷ vs) says)))
