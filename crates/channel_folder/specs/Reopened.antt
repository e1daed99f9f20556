-- What the renditions of a ladder go on behind, by what a folder holds.
use Rattle.std.specs.Prelude.{◌≡◌, ℕ, ◌<◌, ◌≤◌, Option, Some, None, List, [], ◌∷◌, length, All, slice_get}
use Rattle.folder.specs.Reads.{MayHaveSize}
use Rattle.item_io.specs.FileNames.{segment_file_name}
use Rattle.limits.specs.declared.TheConstants.{LAST_SEGMENT}
use Rattle.playlist_text.specs.MediaLines.{Entry, Listing}
use Rattle.media_reading.specs.MediaTexts.{IsListing, listing_text}
use Rattle.ladder_items.specs.declared.settings.Kind.{Kind}
use Rattle.resume.specs.declared.restored.Wanted.{Wanted}
use Rattle.resume.specs.Restoring.{RestoredValue, IsRestored}
use Rattle.resume.specs.Evening.{AreEven, beside, gone_at_first, most_breaks, MayGoBeside}
use Rattle.channel_folder.specs.declared.asked.Asked.{Asked}
use Rattle.channel_folder.specs.Files.{media_file, frames_file}
use Rattle.channel_folder.specs.Scans.{ScanValue, numbers_at}

-- the file of a listed segment may have this size
abbrev pub HasSize : (List ℕ → List ℕ → Type 0) → List ℕ → Entry → ℕ → Type 0
HasSize Gives name entry size = MayHaveSize Gives (segment_file_name name entry.number) size

-- the sizes of the files of listed segments, one for each
abbrev pub AreSizes : (List ℕ → List ℕ → Type 0) → List ℕ → List Entry → List ℕ → Type 0
AreSizes Gives name [] sizes = sizes ≡ []
AreSizes Gives name (entry ∷ entries) [] = ⊥
AreSizes Gives name (entry ∷ entries) (size ∷ sizes) = HasSize Gives name entry size × AreSizes Gives name entries sizes

-- a media playlist stands under its name
pub record IsListed (Gives : List ℕ → List ℕ → Type 0) (name : List ℕ) (l : Listing) : Type 0 where
  pub sound : IsListing l
  pub text : Gives (media_file name) (listing_text l)

-- a rendition goes on behind this: both its playlists and the files of all listed segments are there, and are those of it
pub record IsReopened (Gives : List ℕ → List ℕ → Type 0) (name : List ℕ) (wanted : Wanted) (r : RestoredValue) : Type 0 where
  pub listing : Listing
  pub listed : IsListed Gives name listing
  pub frames : List ℕ
  pub frames_are : Gives (frames_file name) frames
  pub sizes : List ℕ
  pub sizes_are : AreSizes Gives name listing.entries sizes
  pub restored : IsRestored name wanted listing frames sizes r

-- it has no playlists
pub record HasNone (Lacks : List ℕ → Type 0) (name : List ℕ) : Type 0 where
  pub media : Lacks (media_file name)
  pub frames : Lacks (frames_file name)

-- what was found of a rendition: that it has no playlists, or what it goes on behind
abbrev pub IsOf : (List ℕ → List ℕ → Type 0) → (List ℕ → Type 0) → List ℕ → Wanted → Option RestoredValue → Type 0
IsOf Gives Lacks name wanted None = HasNone Lacks name
IsOf Gives Lacks name wanted (Some r) = IsReopened Gives name wanted r

-- the number of its next segment
abbrev pub next_of : Option RestoredValue → ℕ
next_of None = 0
next_of (Some r) = r.next

-- no segment that isn't listed, and comes next or later, is there
pub record Stands (Gives : List ℕ → List ℕ → Type 0) (Lacks : List ℕ → Type 0) (numbers : List ℕ) (asked : Asked) (one : Option RestoredValue)
    : Type 0 where
  pub is : IsOf Gives Lacks asked.name.now asked.wanted one
  pub behind : All (λ n. n < next_of one) numbers

-- so it is with the first renditions of those asked for
abbrev pub StandTo : (List ℕ → List ℕ → Type 0) → (List ℕ → Type 0) → ScanValue → List Asked → List (Option RestoredValue) → ℕ → Type 0
StandTo Gives Lacks scan asked found count = (r : ℕ) (a : Asked) (one : Option RestoredValue) → r < count → slice_get asked r ≡ Some a →
    slice_get found r ≡ Some one → Stands Gives Lacks (numbers_at scan r) a one

pub record AllStand (Gives : List ℕ → List ℕ → Type 0) (Lacks : List ℕ → Type 0) (scan : ScanValue) (asked : List Asked)
    (found : List (Option RestoredValue)) : Type 0 where
  pub each : length found ≡ length asked
  pub stand : StandTo Gives Lacks scan asked found (length asked)

-- what a rendition without playlists begins behind
abbrev pub begun : Option ℕ → RestoredValue
begun most = record { gone = gone_at_first most; earlier = []; next = 0 }

-- what a rendition goes on behind, beside the others, of which one had the most discontinuities
abbrev pub gone_on : Option ℕ → Option RestoredValue → RestoredValue
gone_on most None = begun most
gone_on most (Some r) = beside most r

-- its numbers aren't past the last
abbrev pub MayGo : Option ℕ → Option RestoredValue → Type 0
MayGo most None = (gone_at_first most).discontinuities ≤ LAST_SEGMENT
MayGo most (Some r) = MayGoBeside most r

-- what was found of each rendition, and the most discontinuities that one of those with playlists had
pub record ReopenedValue : Type 0 where
  pub found : List (Option RestoredValue)
  pub most : Option ℕ

-- each stands by itself, and all go together
pub record AreReopened (Gives : List ℕ → List ℕ → Type 0) (Lacks : List ℕ → Type 0) (scan : ScanValue) (kind : Kind) (asked : List Asked)
    (r : ReopenedValue) : Type 0 where
  pub all : AllStand Gives Lacks scan asked r.found
  pub even : AreEven kind r.found
  pub most_is : r.most ≡ most_breaks r.found
