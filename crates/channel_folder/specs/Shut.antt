-- Which file of a rendition can't be read. What is looked at before it stands.
use Rattle.std.specs.Prelude.{◌≡◌, ◌⊎◌, ℕ, Option, Some, List, ◌∷◌, ◌++◌, length, slice_get}
use Rattle.std.specs.Str.{IsUtf8}
use Rattle.item_io.specs.FileNames.{segment_file_name}
use Rattle.playlist_text.specs.MediaLines.{Entry, Listing}
use Rattle.resume.specs.declared.restored.Wanted.{Wanted}
use Rattle.resume.specs.Restoring.{RestoredValue}
use Rattle.resume.specs.Wanting.{IsAsWanted}
use Rattle.channel_folder.specs.declared.asked.Asked.{Asked}
use Rattle.channel_folder.specs.Files.{media_file, frames_file}
use Rattle.channel_folder.specs.ReadTexts.{IsFound}
use Rattle.channel_folder.specs.Scans.{ScanValue}
use Rattle.channel_folder.specs.Reopened.{AreSizes, IsListed, StandTo}

-- the folder can't be read at the file of this name
abbrev pub CannotRead : Type 0 → (List ℕ → Type 0) → List ℕ → Type 0
CannotRead Refuses Shuts file = Refuses × Shuts file

-- one of two files can't be read: the second only behind the first, which was read or isn't there
abbrev pub HasShutText : (List ℕ → Type 0) → (List ℕ → List ℕ → Type 0) → (List ℕ → Type 0) → List ℕ → List ℕ → Type 0
HasShutText Shut Gives Lacks first second = Shut first ⊎ ((found : Option (List ℕ)) × IsFound Gives Lacks first found × Shut second)

-- the file of a listed segment can't be read, and those of all that are listed before it have sizes
pub record HasShutSegment (Shut : List ℕ → Type 0) (Gives : List ℕ → List ℕ → Type 0) (name : List ℕ) (entries : List Entry) : Type 0 where
  pub front : List Entry
  pub entry : Entry
  pub rest : List Entry
  pub listed : entries ≡ front ++ entry ∷ rest
  pub sizes : List ℕ
  pub before : AreSizes Gives name front sizes
  pub shut : Shut (segment_file_name name entry.number)

-- both playlists are there, a run goes on from the media playlist, and so it is with a segment that it lists
pub record HasShutListed (Shut : List ℕ → Type 0) (Gives : List ℕ → List ℕ → Type 0) (name : List ℕ) (wanted : Wanted) : Type 0 where
  pub listing : Listing
  pub listed : IsListed Gives name listing
  pub frames : List ℕ
  pub frames_are : Gives (frames_file name) frames
  pub text : IsUtf8 frames
  pub goes_on : IsAsWanted wanted listing
  pub shut : HasShutSegment Shut Gives name listing.entries

-- a file of a rendition can't be read
abbrev pub IsShutOf : (List ℕ → Type 0) → (List ℕ → List ℕ → Type 0) → (List ℕ → Type 0) → Asked → Type 0
IsShutOf Shut Gives Lacks a =
    HasShutText Shut Gives Lacks (media_file a.name.now) (frames_file a.name.now) ⊎ HasShutListed Shut Gives a.name.now a.wanted

-- rendition r is the first of which that is so: those before it stand
pub record IsFirstShut (Shut : List ℕ → Type 0) (Gives : List ℕ → List ℕ → Type 0) (Lacks : List ℕ → Type 0) (scan : ScanValue)
    (asked : List Asked) : Type 0 where
  pub r : ℕ
  pub found : List (Option RestoredValue)
  pub count : length found ≡ r
  pub before : StandTo Gives Lacks scan asked found r
  pub one : Asked
  pub one_is : slice_get asked r ≡ Some one
  pub shut : IsShutOf Shut Gives Lacks one
