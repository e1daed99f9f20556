-- The two playlists of a rendition as they were read of a folder.
use Rattle.std.specs.Prelude.{◌≡◌, ◌⊎◌, ℕ, Bool, false, ◌||◌, Option, Some, None, List, [], ◌∷◌, codes, ◌^◌}
use Rattle.std.specs.Option.{option_or}
use Rattle.std.specs.Str.{bytes_eq}
use Rattle.playlist_text.specs.Uris.{segment_uri}
use Rattle.media_reading.specs.State.{number_in}
use Rattle.media_reading.specs.MediaTexts.{Splits}
use Rattle.channel_folder.specs.Files.{media_file, frames_file}

-- what was read under a name: these bytes, or no file
abbrev pub IsFound : (List ℕ → List ℕ → Type 0) → (List ℕ → Type 0) → List ℕ → Option (List ℕ) → Type 0
IsFound Gives Lacks file None = Lacks file
IsFound Gives Lacks file (Some bytes) = Gives file bytes

-- the bytes of both
pub record TextsValue : Type 0 where
  pub media : Option (List ℕ)
  pub frames : Option (List ℕ)

pub record AreTexts (Gives : List ℕ → List ℕ → Type 0) (Lacks : List ℕ → Type 0) (name : List ℕ) (t : TextsValue) : Type 0 where
  pub media_is : IsFound Gives Lacks (media_file name) t.media
  pub frames_are : IsFound Gives Lacks (frames_file name) t.frames

-- one of both alone
abbrev pub IsHalfOf : TextsValue → Type 0
IsHalfOf t =
    ((bytes : List ℕ) × (t.media ≡ Some bytes) × (t.frames ≡ None)) ⊎ ((bytes : List ℕ) × (t.media ≡ None) × (t.frames ≡ Some bytes))

-- what lines tell: the number of the last segment that has its URI among them, and whether the playlist has ended
pub record Told : Type 0 where
  pub last : Option ℕ
  pub ended : Bool

abbrev pub untold : Told
untold = record { last = None; ended = false }

-- one line more
unfoldable pub tell_line : List ℕ → Told → List ℕ → Told
tell_line name t line = record {
  last = option_or (number_in (segment_uri name) (2 ^ 64) line) t.last;
  ended = t.ended || bytes_eq line (codes "#EXT-X-ENDLIST");
}

-- all of them
unfoldable pub tell_lines : List ℕ → Told → List (List ℕ) → Told
tell_lines name t [] = t
tell_lines name t (line ∷ lines) = tell_lines name (tell_line name t line) lines

-- this is what a playlist's lines tell, where there is one
abbrev pub IsToldBy : List ℕ → Option (List ℕ) → Told → Type 0
IsToldBy name None t = t ≡ untold
IsToldBy name (Some text) t = (lines : List (List ℕ)) (last : List ℕ) → Splits text lines last → t ≡ tell_lines name untold lines
