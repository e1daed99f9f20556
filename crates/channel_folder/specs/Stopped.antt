-- Why a channel doesn't go on.
use Rattle.std.specs.Prelude.{◌≡◌, ◌≢◌, ◌⊎◌, ⊤, ℕ, ◌<◌, ◌≤◌, Option, Some, List, ◌∷◌, ◌++◌, All, Contains, length, slice_get}
use Rattle.std.specs.Str.{IsUtf8}
use Rattle.item_io.specs.FileNames.{segment_file_name}
use Rattle.playlist_text.specs.MediaLines.{Entry, Listing}
use Rattle.media_reading.specs.MediaTexts.{IsListing, MayWantMemory, listing_text}
use Rattle.ladder_items.specs.declared.settings.Kind.{Kind}
use Rattle.resume.specs.declared.restored.Wanted.{Wanted}
use Rattle.resume.specs.declared.fault.ResumeFault.{ResumeFault}
use Rattle.resume.specs.declared.fault.ResumeFault.TheVariants as Of
use Rattle.resume.specs.Restoring.{RestoredValue, IsRestored}
use Rattle.resume.specs.Picking.{MayWantMemory as MayWantForFrames}
use Rattle.resume.specs.Reading.{MayBeOf}
use Rattle.resume.specs.Wanting.{IsRefused, IsAsWanted}
use Rattle.resume.specs.Evening.{IsUneven}
use Rattle.channel_folder.specs.declared.asked.Asked.{Asked}
use Rattle.channel_folder.specs.declared.fault.WhyNot.{WhyNot}
use Rattle.channel_folder.specs.declared.fault.WhyNot.TheVariants.{Foreign, Ended, OtherTarget, OtherSalt, OtherKind, Uneven, Lost, Ahead, Limit}
use Rattle.channel_folder.specs.declared.fault.ReopenFault.{ReopenFault}
use Rattle.channel_folder.specs.declared.fault.ReopenFault.TheVariants as Reopen
use Rattle.channel_folder.specs.declared.fault.ReopenStop.{ReopenStop}
use Rattle.channel_folder.specs.declared.fault.ReopenStop.TheVariants as Stopping
use Rattle.channel_folder.specs.Files.{media_file, frames_file}
use Rattle.channel_folder.specs.Scans.{ScanValue, numbers_at}
use Rattle.channel_folder.specs.Reopened.{AreSizes, IsListed, IsOf, next_of, StandTo, AllStand}
use Rattle.channel_folder.specs.Shut.{HasShutSegment, IsFirstShut, IsShutOf}

-- the I-frame playlist is there, and it is UTF-8
abbrev pub HasFrames : (List ℕ → List ℕ → Type 0) → List ℕ → Type 0
HasFrames Gives name = (frames : List ℕ) × Gives (frames_file name) frames × IsUtf8 frames

-- both playlists are there, and the run doesn't go on from the media playlist
pub record IsRefusedAt (Gives : List ℕ → List ℕ → Type 0) (name : List ℕ) (wanted : Wanted) (fault : ResumeFault) : Type 0 where
  pub listing : Listing
  pub listed : IsListed Gives name listing
  pub frames : HasFrames Gives name
  pub refused : IsRefused wanted listing fault

-- the file of a listed segment of this number isn't there, and those of all that are listed before it are
pub record IsLostOf (Gives : List ℕ → List ℕ → Type 0) (Lacks : List ℕ → Type 0) (name : List ℕ) (entries : List Entry) (n : ℕ) : Type 0 where
  pub front : List Entry
  pub entry : Entry
  pub rest : List Entry
  pub listed : entries ≡ front ++ entry ∷ rest
  pub number : n ≡ entry.number
  pub sizes : List ℕ
  pub before : AreSizes Gives name front sizes
  pub lacks : Lacks (segment_file_name name n)

-- both playlists are there, and it is the first that the media playlist lists
pub record IsLost (Gives : List ℕ → List ℕ → Type 0) (Lacks : List ℕ → Type 0) (name : List ℕ) (wanted : Wanted) (n : ℕ) : Type 0 where
  pub listing : Listing
  pub listed : IsListed Gives name listing
  pub frames : HasFrames Gives name
  pub goes_on : IsAsWanted wanted listing
  pub lost : IsLostOf Gives Lacks name listing.entries n

-- both playlists and all files are there, the run goes on from the media playlist, and they aren't those of one rendition of this name
pub record AreApart (Gives : List ℕ → List ℕ → Type 0) (name : List ℕ) (wanted : Wanted) : Type 0 where
  pub listing : Listing
  pub listed : IsListed Gives name listing
  pub goes_on : IsAsWanted wanted listing
  pub frames : List ℕ
  pub frames_are : Gives (frames_file name) frames
  pub sizes : List ℕ
  pub sizes_are : AreSizes Gives name listing.entries sizes
  pub none : (r : RestoredValue) → ¬ IsRestored name wanted listing frames sizes r

-- the text of a file that is there is none of a media playlist
pub record IsNoPlaylist (Gives : List ℕ → List ℕ → Type 0) (name : List ℕ) : Type 0 where
  pub text : List ℕ
  pub gives : Gives (media_file name) text
  pub none : (l : Listing) → IsListing l → text ≢ listing_text l

-- a file that is there isn't UTF-8
pub record IsNoText (Gives : List ℕ → List ℕ → Type 0) (file : List ℕ) : Type 0 where
  pub bytes : List ℕ
  pub gives : Gives file bytes
  pub none : ¬ IsUtf8 bytes

-- one file is there and another isn't
pub record IsHalf (Gives : List ℕ → List ℕ → Type 0) (Lacks : List ℕ → Type 0) (one other : List ℕ) : Type 0 where
  pub bytes : List ℕ
  pub gives : Gives one bytes
  pub lacks : Lacks other

-- The files aren't those of a rendition of this name: one of its playlists is there and the other isn't, or one is no text, or
-- there is no playlist of which the one is the text, or all of them don't fit together.
abbrev pub IsForeign : (List ℕ → List ℕ → Type 0) → (List ℕ → Type 0) → List ℕ → Wanted → Type 0
IsForeign Gives Lacks name wanted =
    IsHalf Gives Lacks (media_file name) (frames_file name) ⊎ IsHalf Gives Lacks (frames_file name) (media_file name)
    ⊎ IsNoText Gives (media_file name) ⊎ IsNoText Gives (frames_file name)
    ⊎ IsNoPlaylist Gives name ⊎ AreApart Gives name wanted

-- of these numbers it is the first that isn't below another one
pub record IsFirstFrom (next : ℕ) (numbers : List ℕ) (n : ℕ) : Type 0 where
  pub front : List ℕ
  pub rest : List ℕ
  pub all : numbers ≡ front ++ n ∷ rest
  pub below : All (λ m. m < next) front
  pub from : next ≤ n

-- that it is
abbrev pub IsAheadOf : ℕ → List ℕ → WhyNot → Type 0
IsAheadOf next numbers (Ahead n) = Contains numbers n × (next ≤ n) × IsFirstFrom next numbers n
IsAheadOf next numbers why = ⊥

abbrev pub IsAheadStop : ℕ → List ℕ → ReopenStop → Type 0
IsAheadStop next numbers Stopping.Unread = ⊥
IsAheadStop next numbers Stopping.NoMemory = ⊥
IsAheadStop next numbers (Stopping.Why why) = IsAheadOf next numbers why

-- a segment's file is there that isn't listed, and comes next or later: of several the first that was found
pub record IsAhead (Gives : List ℕ → List ℕ → Type 0) (Lacks : List ℕ → Type 0) (numbers : List ℕ) (asked : Asked) (n : ℕ) : Type 0 where
  pub one : Option RestoredValue
  pub is : IsOf Gives Lacks asked.name.now asked.wanted one
  pub there : Contains numbers n
  pub past : next_of one ≤ n
  pub first : IsFirstFrom (next_of one) numbers n

-- that is the reason
abbrev pub IsAheadBy : (List ℕ → List ℕ → Type 0) → (List ℕ → Type 0) → List ℕ → Asked → WhyNot → Type 0
IsAheadBy Gives Lacks numbers a (Ahead n) = IsAhead Gives Lacks numbers a n
IsAheadBy Gives Lacks numbers a why = ⊥

-- why a rendition doesn't go on, whatever numbers are there
abbrev pub IsWhyFrom : (List ℕ → List ℕ → Type 0) → (List ℕ → Type 0) → List ℕ → Wanted → WhyNot → Type 0
IsWhyFrom Gives Lacks name wanted Foreign = IsForeign Gives Lacks name wanted
IsWhyFrom Gives Lacks name wanted Ended = IsRefusedAt Gives name wanted Of.Ended
IsWhyFrom Gives Lacks name wanted OtherTarget = IsRefusedAt Gives name wanted Of.OtherTarget
IsWhyFrom Gives Lacks name wanted OtherSalt = IsRefusedAt Gives name wanted Of.OtherSalt
IsWhyFrom Gives Lacks name wanted OtherKind = IsRefusedAt Gives name wanted Of.OtherKind
IsWhyFrom Gives Lacks name wanted Uneven = ⊥
IsWhyFrom Gives Lacks name wanted (Lost n) = IsLost Gives Lacks name wanted n
IsWhyFrom Gives Lacks name wanted (Ahead n) = ⊥
IsWhyFrom Gives Lacks name wanted Limit = IsRefusedAt Gives name wanted Of.Limit

-- why one rendition doesn't go on
abbrev pub IsWhy : (List ℕ → List ℕ → Type 0) → (List ℕ → Type 0) → List ℕ → Asked → WhyNot → Type 0
IsWhy Gives Lacks numbers a why = IsWhyFrom Gives Lacks a.name.now a.wanted why ⊎ IsAheadBy Gives Lacks numbers a why

-- why one isn't reopened
abbrev pub IsStopFrom : (List ℕ → Type 0) → (List ℕ → List ℕ → Type 0) → (List ℕ → Type 0) → Asked → ReopenStop → Type 0
IsStopFrom Shut Gives Lacks a Stopping.Unread = IsShutOf Shut Gives Lacks a
IsStopFrom Shut Gives Lacks a Stopping.NoMemory = ⊤
IsStopFrom Shut Gives Lacks a (Stopping.Why why) = IsWhyFrom Gives Lacks a.name.now a.wanted why

abbrev pub IsStop : (List ℕ → Type 0) → (List ℕ → List ℕ → Type 0) → (List ℕ → Type 0) → List ℕ → Asked → ReopenStop → Type 0
IsStop Shut Gives Lacks numbers a Stopping.Unread = IsShutOf Shut Gives Lacks a
IsStop Shut Gives Lacks numbers a Stopping.NoMemory = ⊤
IsStop Shut Gives Lacks numbers a (Stopping.Why why) = IsWhy Gives Lacks numbers a why

-- .. where the text is none of a media playlist
abbrev pub IsListStop : List ℕ → ReopenStop → Type 0
IsListStop text Stopping.Unread = ⊥
IsListStop text Stopping.NoMemory = MayWantMemory text
IsListStop text (Stopping.Why why) = (why ≡ Foreign) × ((l : Listing) → IsListing l → text ≢ listing_text l)

-- .. where the files of these segments aren't there
abbrev pub IsSizeStop : (List ℕ → Type 0) → (List ℕ → List ℕ → Type 0) → (List ℕ → Type 0) → List ℕ → List Entry → ReopenStop → Type 0
IsSizeStop Shut Gives Lacks name entries Stopping.Unread = HasShutSegment Shut Gives name entries
IsSizeStop Shut Gives Lacks name entries Stopping.NoMemory = ⊤
IsSizeStop Shut Gives Lacks name entries (Stopping.Why (Lost n)) = IsLostOf Gives Lacks name entries n
IsSizeStop Shut Gives Lacks name entries (Stopping.Why why) = ⊥

-- .. where the size of the file of the segment of this number isn't told: the folder can't be read or wants memory, or there is none
abbrev pub IsUnsized : Type 0 → Type 0 → Type 0 → ℕ → ReopenStop → Type 0
IsUnsized Refuses Wants Lacking n Stopping.Unread = Refuses
IsUnsized Refuses Wants Lacking n Stopping.NoMemory = Wants
IsUnsized Refuses Wants Lacking n (Stopping.Why why) = (why ≡ Lost n) × Lacking

-- .. where a run goes on from its media playlist, and its playlists and its files aren't those of one rendition. Memory is wanted
-- for a line of the text of I-frames, or for rows where they may be had.
abbrev pub IsRestoreStop : Asked → Listing → List ℕ → List ℕ → ReopenStop → Type 0
IsRestoreStop a l frames sizes Stopping.Unread = ⊥
IsRestoreStop a l frames sizes Stopping.NoMemory = (l.name ≡ a.name.now) × (MayWantForFrames frames ⊎ MayBeOf l frames sizes)
IsRestoreStop a l frames sizes (Stopping.Why why) = (why ≡ Foreign) × ((r : RestoredValue) → ¬ IsRestored a.name.now a.wanted l frames sizes r)

-- rendition r is the first that doesn't go on by itself, and this is why: those before it stand
pub record IsFirstStopped (Gives : List ℕ → List ℕ → Type 0) (Lacks : List ℕ → Type 0) (scan : ScanValue) (asked : List Asked) (r : ℕ)
    (why : WhyNot) : Type 0 where
  pub found : List (Option RestoredValue)
  pub count : length found ≡ r
  pub before : StandTo Gives Lacks scan asked found r
  pub one : Asked
  pub one_is : slice_get asked r ≡ Some one
  pub is_why : IsWhy Gives Lacks (numbers_at scan r) one why

-- each goes on by itself, and rendition r is the first that doesn't go with one before it
pub record IsFirstUneven (Gives : List ℕ → List ℕ → Type 0) (Lacks : List ℕ → Type 0) (scan : ScanValue) (kind : Kind) (asked : List Asked)
    (r : ℕ) : Type 0 where
  pub found : List (Option RestoredValue)
  pub all : AllStand Gives Lacks scan asked found
  pub uneven : IsUneven kind found r

-- why one of them doesn't go on by itself
abbrev pub IsStopped : (List ℕ → Type 0) → (List ℕ → List ℕ → Type 0) → (List ℕ → Type 0) → ScanValue → List Asked → ReopenFault → Type 0
IsStopped Shut Gives Lacks scan asked Reopen.Unread = IsFirstShut Shut Gives Lacks scan asked
IsStopped Shut Gives Lacks scan asked Reopen.NoMemory = ⊤
IsStopped Shut Gives Lacks scan asked (Reopen.Of r why) = IsFirstStopped Gives Lacks scan asked r why

-- Why a channel doesn't go on: a file can't be read of a rendition, and those before it stand; or this rendition is the first that
-- doesn't go on by itself; or all do, and it is the first that doesn't go with one before it.
abbrev pub IsNotReopened : (List ℕ → Type 0) → (List ℕ → List ℕ → Type 0) → (List ℕ → Type 0) → ScanValue → Kind → List Asked → ReopenFault → Type 0
IsNotReopened Shut Gives Lacks scan kind asked Reopen.Unread = IsFirstShut Shut Gives Lacks scan asked
IsNotReopened Shut Gives Lacks scan kind asked Reopen.NoMemory = ⊤
IsNotReopened Shut Gives Lacks scan kind asked (Reopen.Of r why) =
    IsFirstStopped Gives Lacks scan asked r why ⊎ ((why ≡ Uneven) × IsFirstUneven Gives Lacks scan kind asked r)
