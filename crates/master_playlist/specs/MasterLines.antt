-- The master playlist, line by line (RFC 8216, 4.3.4).
use Rattle.std.specs.Prelude.{ℕ, List, [], ◌∷◌, ◌++◌, codes, map}
use Rattle.std.specs.List.{flat_map}
use Rattle.std.specs.Fmt.{decimal}
use Rattle.playlist_text.specs.Uris.{media_uri, frames_uri}
use Rattle.playlist_text.specs.Attributes.{quoted, resolution, attribute, attribute_list}
use Rattle.playlist_text.specs.Lines.{text_of}
use Rattle.master_playlist.specs.Listed.{Listed}

-- the attributes of a variant with a peak and an average rate (4.3.4.2)
unfoldable pub attributes : Listed → ℕ → ℕ → List (List ℕ)
attributes v peak average =
    attribute (codes "BANDWIDTH") (decimal peak)
    ∷ attribute (codes "AVERAGE-BANDWIDTH") (decimal average)
    ∷ attribute (codes "CODECS") (quoted v.codecs)
    ∷ attribute (codes "RESOLUTION") (resolution v.width v.height)
    ∷ []

-- the line of a variant, and its media playlist (4.3.4.2)
unfoldable pub stream_lines : Listed → List (List ℕ)
stream_lines v =
    (codes "#EXT-X-STREAM-INF:" ++ attribute_list (attributes v v.peak v.average))
    ∷ media_uri v.name
    ∷ []

-- the line of its I-frame playlist (4.3.4.3)
unfoldable pub frames_line : Listed → List ℕ
frames_line v =
    codes "#EXT-X-I-FRAME-STREAM-INF:"
    ++ attribute_list (attributes v v.frame_peak v.frame_average ++ attribute (codes "URI") (quoted (frames_uri v.name)) ∷ [])

-- the lines of all variants, then those of all their I-frame playlists; no variants have no lines
unfoldable pub master_lines : List Listed → List (List ℕ)
master_lines [] = []
master_lines (v ∷ vs) =
    codes "#EXTM3U" ∷ codes "#EXT-X-VERSION:4" ∷ (flat_map stream_lines (v ∷ vs) ++ map frames_line (v ∷ vs))

-- the whole text
unfoldable pub master_text : List Listed → List ℕ
master_text vs = text_of (master_lines vs)
