-- The first rendition that doesn't go on.
use Rattle.std.proofs.Common.{◌≡◌, inl, inr, refl, ℕ, List, Option, Some, length}
use Rattle.std.specs.Prelude.{slice_get}
use Rattle.ladder_items.specs.declared.settings.Kind.{Kind}
use Rattle.resume.specs.Restoring.{RestoredValue}
use Rattle.channel_folder.specs.declared.asked.Asked.{Asked}
use Rattle.channel_folder.specs.declared.fault.ReopenFault.{ReopenFault}
use Rattle.channel_folder.specs.declared.fault.ReopenFault.TheVariants as Reopen
use Rattle.channel_folder.specs.declared.fault.ReopenStop.{ReopenStop}
use Rattle.channel_folder.specs.declared.fault.ReopenStop.TheVariants as Stopping
use Rattle.channel_folder.specs.Scans.{ScanValue, numbers_at}
use Rattle.channel_folder.specs.Reopened.{IsListed, StandTo}
use Rattle.channel_folder.specs.StopOf.{fault_at, stop_of_read}
use Rattle.std.specs.Str.{IsUtf8}
use Rattle.folder.specs.declared.read_fault.FolderReadFault.{FolderReadFault}
use Rattle.folder.specs.declared.read_fault.FolderReadFault.TheVariants as Read
use Rattle.playlist_text.specs.MediaLines.{Listing}
use Rattle.resume.specs.Wanting.{IsAsWanted}
use Rattle.channel_folder.specs.declared.fault.WhyNot.TheVariants.{Foreign, Ended, OtherTarget, OtherSalt, OtherKind, Uneven, Lost, Ahead, Limit}
use Rattle.channel_folder.specs.Files.{media_file, frames_file}
use Rattle.channel_folder.specs.Shut.{HasShutText}
use Rattle.channel_folder.specs.Stopped.{IsSizeStop, IsStop, IsStopFrom, IsStopped, IsNotReopened}

-- it doesn't go on by itself, and those before it do
pub stopped-at : (Shut : List ℕ → Type 0) (Gives : List ℕ → List ℕ → Type 0) (Lacks : List ℕ → Type 0) (scan : ScanValue) (asked : List Asked) (found : List (Option RestoredValue)) (r : ℕ) (a : Asked)
    (stop : ReopenStop) → length found ≡ r → StandTo Gives Lacks scan asked found r → slice_get asked r ≡ Some a → IsStop Shut Gives Lacks (numbers_at scan r) a stop →
    IsStopped Shut Gives Lacks scan asked (fault_at r stop)
stopped-at Shut Gives Lacks scan asked found r a Stopping.Unread count stand at is =
    record { r = r; found = found; count = count; before = stand; one = a; one_is = at; shut = is }
stopped-at Shut Gives Lacks scan asked found r a Stopping.NoMemory count stand at is = tt
stopped-at Shut Gives Lacks scan asked found r a (Stopping.Why why) count stand at is = record { found = found; count = count; before = stand; one = a; one_is = at; is_why = is }

-- so the channel doesn't go on
pub not-by-one : (Shut : List ℕ → Type 0) (Gives : List ℕ → List ℕ → Type 0) (Lacks : List ℕ → Type 0) (scan : ScanValue) (kind : Kind) (asked : List Asked) (fault : ReopenFault) →
    IsStopped Shut Gives Lacks scan asked fault → IsNotReopened Shut Gives Lacks scan kind asked fault
not-by-one Shut Gives Lacks scan kind asked Reopen.Unread is = is
not-by-one Shut Gives Lacks scan kind asked Reopen.NoMemory is = is
not-by-one Shut Gives Lacks scan kind asked (Reopen.Of r why) is = inl is

-- a playlist of it isn't read
pub not-read : (Shut : List ℕ → Type 0) (Gives : List ℕ → List ℕ → Type 0) (Lacks : List ℕ → Type 0) (a : Asked) (why : FolderReadFault) →
    (why ≡ Read.Unread → HasShutText Shut Gives Lacks (media_file a.name.now) (frames_file a.name.now)) → IsStopFrom Shut Gives Lacks a (stop_of_read why)
not-read Shut Gives Lacks a Read.Unread shut = inl (shut refl)
not-read Shut Gives Lacks a Read.NoMemory shut = tt

-- the size of a file that it lists isn't told
pub not-sized : (Shut : List ℕ → Type 0) (Gives : List ℕ → List ℕ → Type 0) (Lacks : List ℕ → Type 0) (a : Asked) (l : Listing) (frames : List ℕ) (stop : ReopenStop) →
    IsListed Gives a.name.now l → Gives (frames_file a.name.now) frames → IsUtf8 frames → IsAsWanted a.wanted l → IsSizeStop Shut Gives Lacks a.name.now l.entries stop →
    IsStopFrom Shut Gives Lacks a stop
not-sized Shut Gives Lacks a l frames Stopping.Unread listed there text goes is =
    inr (record { listing = l; listed = listed; frames = frames; frames_are = there; text = text; goes_on = goes; shut = is })
not-sized Shut Gives Lacks a l frames Stopping.NoMemory listed there text goes is = tt
not-sized Shut Gives Lacks a l frames (Stopping.Why (Lost n)) listed there text goes is =
    record { listing = l; listed = listed; frames = (frames, there, text); goes_on = goes; lost = is }
not-sized Shut Gives Lacks a l frames (Stopping.Why Foreign) listed there text goes is = absurd is
not-sized Shut Gives Lacks a l frames (Stopping.Why Ended) listed there text goes is = absurd is
not-sized Shut Gives Lacks a l frames (Stopping.Why OtherTarget) listed there text goes is = absurd is
not-sized Shut Gives Lacks a l frames (Stopping.Why OtherSalt) listed there text goes is = absurd is
not-sized Shut Gives Lacks a l frames (Stopping.Why OtherKind) listed there text goes is = absurd is
not-sized Shut Gives Lacks a l frames (Stopping.Why Uneven) listed there text goes is = absurd is
not-sized Shut Gives Lacks a l frames (Stopping.Why (Ahead n)) listed there text goes is = absurd is
not-sized Shut Gives Lacks a l frames (Stopping.Why Limit) listed there text goes is = absurd is
