-- What stands in the folder couldn't be read.
use Rattle.std.proofs.Common.{◌≡◌, ◌∙◌, refl, ap, subst, ℕ, List}
use Rattle.folder.specs.declared.read_fault.FolderReadFault.{FolderReadFault}
use Rattle.folder.specs.declared.read_fault.FolderReadFault.TheVariants as Read
use Rattle.ladder_items.specs.Ladder.{RenditionValue}
use Rattle.media_playlist.specs.Rows.{SegmentRow}
use Rattle.channel.specs.Faults.{of_reading}
use Rattle.channel.specs.Looking.{alone, IsReadFault, IsRowFault, IsShutFault}
use Rattle.channel.specs.Reading.{IsScanFault}
use Rattle.channel.specs.Rolling.{IsRollFault}
use Rattle.channel.specs.Views.{FolderView}
use Rattle.channel.specs.declared.fault.ResumingFault.{ResumingFault}
use Rattle.channel.specs.declared.fault.ResumingFault.TheVariants.{Unread, Outlet, NoMemory, Not, OtherKeys}
use Rattle.channel_folder.specs.declared.fault.WhyNot.TheVariants.{Lost}
use Rattle.item_io.specs.FileNames.{segment_file_name}

pub not-read : {F : Type 0} (folder : FolderView F) (name : List ℕ) (now : F) (why : FolderReadFault) → (why ≡ Read.Unread → folder.refuses now) → IsRollFault folder name now now (of_reading why)
not-read folder name now Read.Unread refuses = (refl, refuses refl)
not-read folder name now Read.NoMemory refuses = refl

-- a segment's file couldn't be
pub row-not-read : (Shut : List ℕ → Type 0) (Wants : Type 0) (Gives : List ℕ → List ℕ → Type 0) (Lacks : List ℕ → Type 0) (r : ℕ) (rendition : RenditionValue) (row : SegmentRow) (file : List ℕ) (number : ℕ)
    (fault : ResumingFault) → file ≡ segment_file_name rendition.name row.number → number ≡ row.number → IsReadFault (Shut file) Wants (Lacks file) r number fault
    → IsRowFault Shut Gives Lacks r rendition row fault
row-not-read Shut Wants Gives Lacks r rendition row file number Unread named numbered is = subst Shut named is
row-not-read Shut Wants Gives Lacks r rendition row file number Outlet named numbered is = is
row-not-read Shut Wants Gives Lacks r rendition row file number NoMemory named numbered is = tt
row-not-read Shut Wants Gives Lacks r rendition row file number (Not q why) named numbered is = (is.0, is.1 ∙ ap Lost numbered, subst Lacks named is.2)
row-not-read Shut Wants Gives Lacks r rendition row file number (OtherKeys q key) named numbered is = absurd is

-- it was, and doesn't open
pub shut-row : (Shut : List ℕ → Type 0) (Gives : List ℕ → List ℕ → Type 0) (Lacks : List ℕ → Type 0) (r : ℕ) (rendition : RenditionValue) (row : SegmentRow) (bytes : List ℕ) (fault : ResumingFault)
    → Gives (segment_file_name rendition.name row.number) bytes → IsShutFault (alone rendition row bytes) r row.key fault → IsRowFault Shut Gives Lacks r rendition row fault
shut-row Shut Gives Lacks r rendition row bytes Unread given is = absurd is
shut-row Shut Gives Lacks r rendition row bytes Outlet given is = absurd is
shut-row Shut Gives Lacks r rendition row bytes NoMemory given is = tt
shut-row Shut Gives Lacks r rendition row bytes (Not q why) given is = absurd is
shut-row Shut Gives Lacks r rendition row bytes (OtherKeys q key) given is = (is.0, is.1, record { bytes = bytes; gives = given; closed = is.2 })

pub names-not-read : (Refuses : Type 0) (why : FolderReadFault) → (why ≡ Read.Unread → Refuses) → IsScanFault Refuses (of_reading why)
names-not-read Refuses Read.Unread refuses = refuses refl
names-not-read Refuses Read.NoMemory refuses = tt

-- that isn't told as a file that can't be changed
pub not-outlet : (why : FolderReadFault) → ¬ (of_reading why ≡ Outlet)
not-outlet Read.Unread is = cc is
not-outlet Read.NoMemory is = cc is
