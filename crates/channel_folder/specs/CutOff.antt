-- Which block a kill cut off.
use Rattle.std.specs.Prelude.{◌≡◌, ℕ, ◌+◌, Bool, true, false, ◌&&◌, not, nat_le, if◌then◌else◌, Option, Some, None, List, [], ◌∷◌}
use Rattle.limits.specs.declared.TheConstants.{LAST_SEGMENT}
use Rattle.folder.specs.Puts.{Names}
use Rattle.item_io.specs.FileNames.{segment_file_name}
use Rattle.channel_folder.specs.Files.{media_file, frames_file, part_of}
use Rattle.channel_folder.specs.ReadTexts.{TextsValue, AreTexts, Told, IsToldBy}

-- the number behind the last segment
abbrev pub behind : Option ℕ → Option ℕ
behind None = None
behind (Some n) = if nat_le n LAST_SEGMENT then Some (n + 1) else None

-- The number of the segment whose block may be cut off: that behind the last one that the I-frame playlist in place lists. A
-- rendition that has none in place begins with segment 0.
abbrev pub next_segment : Option (List ℕ) → Told → Option ℕ
next_segment None told = Some 0
next_segment (Some text) told = behind told.last

-- whether its file is in place
abbrev pub IsInPlace : (List ℕ → List ℕ → Type 0) → (List ℕ → Type 0) → List ℕ → Option ℕ → Bool → Type 0
IsInPlace Gives Lacks name None there = there ≡ false
IsInPlace Gives Lacks name (Some n) true = (bytes : List ℕ) × Gives (segment_file_name name n) bytes
IsInPlace Gives Lacks name (Some n) false = Lacks (segment_file_name name n)

-- the part name of a file, and its name
abbrev pub names_of : List ℕ → Names
names_of file = (part_of file, file)

-- The files that are due: where the segment is in place, both playlists that list it; where the media playlist has ended and
-- the I-frame playlist hasn't, the latter.
abbrev pub due_files : List ℕ → Bool → Bool → Option (List Names)
due_files name true apart = Some (names_of (media_file name) ∷ names_of (frames_file name) ∷ [])
due_files name false true = Some (names_of (frames_file name) ∷ [])
due_files name false false = None

-- By what stands in the folder these files of the block that was cut off are due, or no block was cut off.
pub record IsCutOff (Gives : List ℕ → List ℕ → Type 0) (Lacks : List ℕ → Type 0) (name : List ℕ) (due : Option (List Names)) : Type 0 where
  pub texts : TextsValue
  pub are : AreTexts Gives Lacks name texts
  pub media : Told
  pub media_tells : IsToldBy name texts.media media
  pub frames : Told
  pub frames_tell : IsToldBy name texts.frames frames
  pub there : Bool
  pub in_place : IsInPlace Gives Lacks name (next_segment texts.frames frames) there
  pub due_is : due ≡ due_files name there (media.ended && not frames.ended)
