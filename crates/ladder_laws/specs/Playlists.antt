-- Which files a playlist lists (RFC 8216, 4.1).
use Rattle.std.specs.Prelude.{◌≡◌, ◌⊎◌, ℕ, ◌==◌, ◌&&◌, not, Bool, true, false, List, [], ◌∷◌, ◌++◌, All, filter, codes, nat_eq}
use Rattle.std.specs.List.{list_any, ends_with}
use Rattle.std.specs.Str.{bytes_eq}
use Rattle.std.specs.Str.Lines.{lines}
use Rattle.percent_encoding.specs.Percent.{percent_decode}
use Rattle.ghost_list.specs.Bytes.{AreBytes}
use Rattle.folder.specs.Puts.{Put}
use Rattle.folder.specs.Playing.{IsAmong, Lists}
use Rattle.item_io.specs.FileNames.{segment_file_name}
use Rattle.ladder_items.specs.Ladder.{Ladder, rendition_at}

-- a line that is a URI: it isn't blank, and doesn't begin with '#' as tags and comments do
abbrev pub is_uri : List ℕ → Bool
is_uri [] = false
is_uri (b ∷ line) = not (b == 35)

-- the URIs of a text: its lines end in LF or in CR LF
abbrev pub uris : List ℕ → List (List ℕ)
uris text = filter is_uri (lines text)

-- a URI names the file beside the playlist whose name it is, escaped (RFC 3986, 2.1)
abbrev pub names_file : List ℕ → List ℕ → Bool
names_file file uri = bytes_eq (percent_decode uri) file

-- a file of a playlist, by its name
abbrev pub is_playlist : List ℕ → Bool
is_playlist name = ends_with nat_eq name (codes ".m3u8")

-- a file is a playlist with a URI that names the other one
abbrev pub lists_file : List ℕ → List ℕ → List ℕ → Bool
lists_file name text other = is_playlist name && list_any (names_file other) (uris text)

-- the names of a ladder's renditions are bytes
abbrev pub HasByteNames : Ladder → Type 0
HasByteNames ladder = All (λ rendition. AreBytes rendition.name) ladder.renditions

-- no rendition has rows of earlier runs
abbrev pub HasNoEarlier : Ladder → Type 0
HasNoEarlier ladder = All (λ rendition. rendition.earlier ≡ []) ladder.renditions

-- a file of this name was put
abbrev pub IsPut : List Put → List ℕ → Type 0
IsPut before name = (s : Put) × IsAmong s before × (s.name ≡ name)

-- the segments of the earlier rows of rendition r were put, and if there is one its media playlist
pub record HasEarlier (ladder : Ladder) (before : List Put) (r : ℕ) : Type 0 where
  pub rows : All (λ row. IsPut before (segment_file_name (rendition_at ladder r).name row.number)) (rendition_at ladder r).earlier
  pub media : ((rendition_at ladder r).earlier ≡ []) ⊎ IsPut before ((rendition_at ladder r).name ++ codes ".m3u8")

-- so it is of each rendition: what came before stands there
abbrev pub HasEarlierFiles : Ladder → List Put → Type 0
HasEarlierFiles ladder before = (r : ℕ) → HasEarlier ladder before r

-- each file that one of them lists is put before it, or came before all
abbrev pub AreListedBehind : Lists → List Put → List Put → Type 0
AreListedBehind lists earlier puts = (before : List Put) (p : Put) (behind : List Put) → puts ≡ before ++ p ∷ behind →
    (name : List ℕ) → lists p.name p.bytes name ≡ true → IsPut (earlier ++ before) name
