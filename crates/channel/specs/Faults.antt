-- Which fault a fault below is told as.
use Rattle.folder.specs.declared.read_fault.FolderReadFault.{FolderReadFault}
use Rattle.folder.specs.declared.read_fault.FolderReadFault.TheVariants.{Unread as FolderUnread, NoMemory as FolderNoMemory}
use Rattle.channel_folder.specs.declared.fault.ReopenFault.{ReopenFault}
use Rattle.channel_folder.specs.declared.fault.ReopenFault.TheVariants.{Unread as IsUnread, NoMemory as WantsMemory, Of}
use Rattle.channel.specs.declared.fault.ResumingFault.{ResumingFault}
use Rattle.hls_check.specs.declared.fault.UnpackFault.{UnpackFault}
use Rattle.hls_check.specs.declared.fault.UnpackFault.TheVariants as Unpack
use Rattle.channel.specs.declared.fault.ResumingFault.TheVariants.{Unread, NoMemory, Not, OtherKeys}
use Rattle.std.specs.Prelude.{ℕ}

abbrev pub of_reading : FolderReadFault → ResumingFault
of_reading FolderUnread = Unread
of_reading FolderNoMemory = NoMemory

abbrev pub of_reopening : ReopenFault → ResumingFault
of_reopening IsUnread = Unread
of_reopening WantsMemory = NoMemory
of_reopening (Of r why) = Not r why

-- of a segment that rendition r lists under this key
abbrev pub of_unpacking : ℕ → ℕ → UnpackFault → ResumingFault
of_unpacking r key (Unpack.Missing i) = OtherKeys r key
of_unpacking r key (Unpack.Closed i) = OtherKeys r key
of_unpacking r key (Unpack.NoHead i) = OtherKeys r key
of_unpacking r key Unpack.NoMemory = NoMemory
