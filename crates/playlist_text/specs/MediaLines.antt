-- Media playlists, line by line (RFC 8216, 4.3).
use Rattle.std.specs.Prelude.{ℕ, Bool, ◌==◌, if◌then◌else◌, Option, Some, None, List, [], ◌∷◌, ◌++◌, codes}
use Rattle.std.specs.Fmt.{decimal}
use Rattle.playlist_text.specs.Numbers.{seconds}
use Rattle.playlist_text.specs.Uris.{segment_uri, key_uri}
use Rattle.playlist_text.specs.Attributes.{quoted, hexadecimal, attribute, attribute_list}
use Rattle.playlist_text.specs.Vectors.{salted_vector}

-- one segment of a playlist: its number, the index of its key, its microseconds, and whether it is a discontinuity
pub record Entry : Type 0 where
  pub number : ℕ
  pub key : ℕ
  pub micros : ℕ
  pub discontinuity : Bool

-- a media playlist: the rendition's name, the target duration in seconds, the numbers of media and of discontinuities at its beginning, whether it is one of an event, the salt of its vectors where it lists them, its segments, and whether it has ended
pub record Listing : Type 0 where
  pub name : List ℕ
  pub target : ℕ
  pub sequence : ℕ
  pub discontinuity_sequence : ℕ
  pub event : Bool
  pub salt : Option (List ℕ)
  pub entries : List Entry
  pub ended : Bool

-- the lines that both kinds of media playlist begin with (4.3.1 and 4.3.3.1 to 4.3.3.3)
unfoldable pub head_lines : ℕ → ℕ → ℕ → List (List ℕ)
head_lines target sequence discontinuity_sequence =
    codes "#EXTM3U"
    ∷ codes "#EXT-X-VERSION:4"
    ∷ (codes "#EXT-X-TARGETDURATION:" ++ decimal target)
    ∷ (codes "#EXT-X-MEDIA-SEQUENCE:" ++ decimal sequence)
    ∷ (codes "#EXT-X-DISCONTINUITY-SEQUENCE:" ++ decimal discontinuity_sequence)
    ∷ []

-- the line of a playlist that only grows (4.3.3.5)
unfoldable pub type_lines : Bool → List (List ℕ)
type_lines event = if event then codes "#EXT-X-PLAYLIST-TYPE:EVENT" ∷ [] else []

-- the line before a discontinuity (4.3.2.3)
unfoldable pub discontinuity_lines : Bool → List (List ℕ)
discontinuity_lines discontinuity = if discontinuity then codes "#EXT-X-DISCONTINUITY" ∷ [] else []

-- the attributes of a key of AES-128 at a URI (4.3.2.4)
abbrev pub key_attributes : List ℕ → List (List ℕ)
key_attributes uri =
    attribute (codes "METHOD") (codes "AES-128") ∷ attribute (codes "URI") (quoted uri) ∷ []

-- the line of a key
unfoldable pub key_line : List ℕ → ℕ → List ℕ
key_line name index = codes "#EXT-X-KEY:" ++ attribute_list (key_attributes (key_uri name index))

-- a key's line, unless the segment before had that key
unfoldable pub key_lines : List ℕ → Option ℕ → ℕ → List (List ℕ)
key_lines name None index = key_line name index ∷ []
key_lines name (Some before) index = if before == index then [] else key_line name index ∷ []

-- the attributes of a key at a URI, with a vector
abbrev pub vector_key_attributes : List ℕ → List ℕ → List (List ℕ)
vector_key_attributes uri iv = key_attributes uri ++ attribute (codes "IV") (hexadecimal iv) ∷ []

-- the line of a key with the vector of a segment, under a salt or none
unfoldable pub vector_key_line : List ℕ → Option (List ℕ) → ℕ → ℕ → List ℕ
vector_key_line name salt index number =
    codes "#EXT-X-KEY:" ++ attribute_list (vector_key_attributes (key_uri name index) (salted_vector salt number))

-- the line of the key that a segment is opened by: under a salt it has its vector too
abbrev pub key_line_under : List ℕ → Option (List ℕ) → ℕ → ℕ → List ℕ
key_line_under name None number index = key_line name index
key_line_under name (Some salt) number index = vector_key_line name (Some salt) index number

-- the key lines of a segment behind one with a key, or behind none: with a salt, one with the vector of its number
unfoldable pub entry_key_lines : List ℕ → Option (List ℕ) → Option ℕ → ℕ → ℕ → List (List ℕ)
entry_key_lines name None before index number = key_lines name before index
entry_key_lines name (Some salt) before index number = vector_key_line name (Some salt) index number ∷ []

-- the line of a duration in microseconds (4.3.2.1)
unfoldable pub duration_line : ℕ → List ℕ
duration_line micros = codes "#EXTINF:" ++ seconds micros ++ codes ","

-- the lines of a segment behind one with a key, or behind none
unfoldable pub entry_lines : List ℕ → Option (List ℕ) → Option ℕ → Entry → List (List ℕ)
entry_lines name salt before entry =
    discontinuity_lines entry.discontinuity ++ entry_key_lines name salt before entry.key entry.number
    ++ duration_line entry.micros ∷ segment_uri name entry.number ∷ []

-- the lines of all segments
unfoldable pub entries_lines : List ℕ → Option (List ℕ) → Option ℕ → List Entry → List (List ℕ)
entries_lines name salt before [] = []
entries_lines name salt before (entry ∷ entries) =
    entry_lines name salt before entry ++ entries_lines name salt (Some entry.key) entries

-- the last line of a playlist that has ended (4.3.3.4)
unfoldable pub end_lines : Bool → List (List ℕ)
end_lines ended = if ended then codes "#EXT-X-ENDLIST" ∷ [] else []

-- the lines of a media playlist
unfoldable pub listing_lines : Listing → List (List ℕ)
listing_lines listing =
    head_lines listing.target listing.sequence listing.discontinuity_sequence
    ++ type_lines listing.event
    ++ entries_lines listing.name listing.salt None listing.entries
    ++ end_lines listing.ended
