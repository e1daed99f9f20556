-- Why a rendition isn't reopened, by what isn't done for it.
use Rattle.std.specs.Prelude.{ℕ}
use Rattle.folder.specs.declared.read_fault.FolderReadFault.{FolderReadFault}
use Rattle.folder.specs.declared.read_fault.FolderReadFault.TheVariants as Read
use Rattle.resume.specs.declared.fault.ResumeFault.{ResumeFault}
use Rattle.resume.specs.declared.fault.ResumeFault.TheVariants.{Ended, OtherTarget, OtherSalt, OtherKind, Limit, Foreign, NoMemory}
use Rattle.channel_folder.specs.declared.fault.WhyNot.TheVariants as Why
use Rattle.channel_folder.specs.declared.fault.ReopenFault.{ReopenFault}
use Rattle.channel_folder.specs.declared.fault.ReopenFault.TheVariants as Reopen
use Rattle.channel_folder.specs.declared.fault.ReopenStop.{ReopenStop}
use Rattle.channel_folder.specs.declared.fault.ReopenStop.TheVariants as Stopping

-- the folder isn't read
abbrev pub stop_of_read : FolderReadFault → ReopenStop
stop_of_read Read.Unread = Stopping.Unread
stop_of_read Read.NoMemory = Stopping.NoMemory

-- the playlists aren't gone on from
abbrev pub stop_of : ResumeFault → ReopenStop
stop_of Ended = Stopping.Why Why.Ended
stop_of OtherTarget = Stopping.Why Why.OtherTarget
stop_of OtherSalt = Stopping.Why Why.OtherSalt
stop_of OtherKind = Stopping.Why Why.OtherKind
stop_of Limit = Stopping.Why Why.Limit
stop_of Foreign = Stopping.Why Why.Foreign
stop_of NoMemory = Stopping.NoMemory

-- rendition r isn't reopened
abbrev pub fault_at : ℕ → ReopenStop → ReopenFault
fault_at r Stopping.Unread = Reopen.Unread
fault_at r Stopping.NoMemory = Reopen.NoMemory
fault_at r (Stopping.Why why) = Reopen.Of r why
