-- What an earlier run left of a ladder is read back.
use Rattle.std.specs.Prelude.{◌≡◌, ◌⊎◌, ⊤, ℕ, List, map}
use Rattle.ladder_items.specs.Ladder.{RenditionValue, Ladder}
use Rattle.resume.specs.declared.restored.Wanted.{Wanted}
use Rattle.channel_folder.specs.declared.asked.Asked.{Asked}
use Rattle.channel_folder.specs.declared.fault.ReopenFault.{ReopenFault}
use Rattle.channel_folder.specs.declared.fault.ReopenFault.TheVariants.{Unread as UnreadThere, Of}
use Rattle.channel_folder.specs.Scans.{ScanValue}
use Rattle.channel_folder.specs.Reopened.{ReopenedValue, AreReopened}
use Rattle.channel_folder.specs.Shut.{CannotRead}
use Rattle.channel_folder.specs.Stopped.{IsNotReopened}
use Rattle.channel.specs.Views.{FolderView}
use Rattle.channel.specs.GoingOn.{IsPastFault}
use Rattle.channel.specs.Looking.{AllKeysOpen, IsLookFault}
use Rattle.channel.specs.declared.fault.ResumingFault.{ResumingFault}
use Rattle.channel.specs.declared.fault.ResumingFault.TheVariants.{Unread, Outlet, NoMemory, Not, OtherKeys}

-- the names of the renditions
abbrev pub names_of : List RenditionValue → List (List ℕ)
names_of renditions = map (λ r. r.name) renditions

-- why its files aren't listed
abbrev pub IsScanFault : Type 0 → ResumingFault → Type 0
IsScanFault Refuses Unread = Refuses
IsScanFault Refuses Outlet = ⊥
IsScanFault Refuses NoMemory = ⊤
IsScanFault Refuses (Not r why) = ⊥
IsScanFault Refuses (OtherKeys r key) = ⊥

-- what a ladder asks of a rendition: its name; and of its playlists the ladder's target duration and kind, and its own salt
abbrev pub wanted_of : Ladder → RenditionValue → List ℕ × Wanted
wanted_of ladder r = (r.name, record { target = ladder.cut.target; kind = ladder.kind; salt = r.salt })

-- each rendition is asked for, in order
abbrev pub AsksFor : Ladder → List Asked → Type 0
AsksFor ladder asked = map (λ a. (a.name.now, a.wanted)) asked ≡ map (wanted_of ladder) ladder.renditions

-- each is reopened, by what the folder holds
pub record IsReopenedFor {F : Type 0} (folder : FolderView F) (at : F) (ladder : Ladder) (scan : ScanValue) (reopened : ReopenedValue) : Type 0 where
  pub asked : List Asked
  pub asks : AsksFor ladder asked
  pub are : AreReopened (folder.gives at) (folder.lacks at) scan ladder.kind asked reopened

-- and of each key that is listed, the last segment opens
pub record IsReadBack {F : Type 0} (folder : FolderView F) (at : F) (ladder : Ladder) (scan : ScanValue) (reopened : ReopenedValue) : Type 0 where
  pub all : IsReopenedFor folder at ladder scan reopened
  pub keys : AllKeysOpen (folder.gives at) ladder.renditions reopened.found

-- one isn't reopened
pub record IsNotReopenedFor {F : Type 0} (folder : FolderView F) (at : F) (ladder : Ladder) (scan : ScanValue) (fault : ReopenFault) : Type 0 where
  pub asked : List Asked
  pub asks : AsksFor ladder asked
  pub is : IsNotReopened (CannotRead (folder.refuses at) (folder.shuts at)) (folder.gives at) (folder.lacks at) scan ladder.kind asked fault

-- each is reopened, and the last segment of a key isn't opened
pub record IsShut {F : Type 0} (folder : FolderView F) (at : F) (ladder : Ladder) (scan : ScanValue) (fault : ResumingFault) : Type 0 where
  pub reopened : ReopenedValue
  pub all : IsReopenedFor folder at ladder scan reopened
  pub shut : IsLookFault (CannotRead (folder.refuses at) (folder.shuts at)) (folder.gives at) (folder.lacks at) ladder.renditions reopened.found fault

-- why it isn't read back
abbrev pub IsReadFault : {F : Type 0} → FolderView F → F → Ladder → ScanValue → ResumingFault → Type 0
IsReadFault folder at ladder scan Unread = IsNotReopenedFor folder at ladder scan UnreadThere ⊎ IsShut folder at ladder scan Unread
IsReadFault folder at ladder scan Outlet = ⊥
IsReadFault folder at ladder scan NoMemory = ⊤
IsReadFault folder at ladder scan (Not r why) = IsNotReopenedFor folder at ladder scan (Of r why) ⊎ IsShut folder at ladder scan (Not r why)
IsReadFault folder at ladder scan (OtherKeys r key) = IsShut folder at ladder scan (OtherKeys r key)

-- it is read back, and a rendition without playlists would begin past the last number
pub record IsPast {F : Type 0} (folder : FolderView F) (at : F) (ladder : Ladder) (scan : ScanValue) (fault : ResumingFault) : Type 0 where
  pub reopened : ReopenedValue
  pub back : IsReadBack folder at ladder scan reopened
  pub past : IsPastFault reopened.found reopened.most fault
