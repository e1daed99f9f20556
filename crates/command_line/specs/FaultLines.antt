-- The line that standard error gets of a fault, as docs/COMMANDS.md lists it: a name, and behind it the numbers that say where.
use Rattle.std.specs.Prelude.{ℕ, List, ◌++◌, codes, decimal, Option, None, Some, option_map}
use Rattle.ladder_items.specs.declared.fault.PackFault.{PackFault}
use Rattle.ladder_items.specs.declared.fault.PackFault.TheVariants as packing
use Rattle.media_reading.specs.declared.list_fault.ListFault.{ListFault}
use Rattle.media_reading.specs.declared.list_fault.ListFault.TheVariants as listing
use Rattle.hls_check.specs.declared.fault.UnpackFault.{UnpackFault}
use Rattle.hls_check.specs.declared.fault.UnpackFault.TheVariants as unpacking
use Rattle.hls_check.specs.declared.checking.CheckFault.{CheckFault}
use Rattle.hls_check.specs.declared.checking.CheckFault.TheVariants.{Text, Segments}
use Rattle.read_ahead.specs.declared.starting.InputFault.{InputFault}
use Rattle.read_ahead.specs.declared.starting.InputFault.TheVariants as input
use Rattle.channel_folder.specs.declared.fault.WhyNot.{WhyNot}
use Rattle.channel_folder.specs.declared.fault.WhyNot.TheVariants as why_not
use Rattle.channel.specs.declared.fault.ResumingFault.{ResumingFault}
use Rattle.channel.specs.declared.fault.ResumingFault.TheVariants as resuming
use Rattle.commands.specs.declared.cipher.CipherFault.{CipherFault}
use Rattle.commands.specs.declared.cipher.CipherFault.TheVariants as cipher
use Rattle.commands.specs.declared.key_list.KeyListFault.{KeyListFault}
use Rattle.commands.specs.declared.key_list.KeyListFault.TheVariants as keys
use Rattle.commands.specs.declared.settings.SettingsFault.{SettingsFault}
use Rattle.commands.specs.declared.settings.SettingsFault.TheVariants as settings
use Rattle.commands.specs.declared.ladder_fault.LadderFault.{LadderFault}
use Rattle.commands.specs.declared.ladder_fault.LadderFault.TheVariants as ladder
use Rattle.commands.specs.declared.sealing.SealingFault.{SealingFault}
use Rattle.commands.specs.declared.sealing.SealingFault.TheVariants as sealing
use Rattle.commands.specs.declared.opening.OpeningFault.{OpeningFault}
use Rattle.commands.specs.declared.opening.OpeningFault.TheVariants as opening
use Rattle.commands.specs.declared.packing_fault.LadderPackingFault.{LadderPackingFault}
use Rattle.commands.specs.declared.packing_fault.LadderPackingFault.TheVariants as ladder_packing
use Rattle.commands.specs.declared.checking.CheckingFault.{CheckingFault}
use Rattle.commands.specs.declared.checking.CheckingFault.TheVariants as checking
use Rattle.command_line.specs.declared.fault.Fault.{Fault}
use Rattle.command_line.specs.declared.fault.Fault.TheVariants.{Usage, NotUtf8, Cipher, Settings, KeyList, Ladder, NoMemory, Busy, Sealing, Opening, Resuming, Unopened, Packing, LadderPacking, Checking}

-- a key and a vector; of a bad key file, its number
abbrev pub cipher_text : CipherFault → List ℕ
cipher_text cipher.BadKey = codes "BadKey"
cipher_text cipher.BadVector = codes "BadVector"
cipher_text cipher.Unread = codes "Unread"
cipher_text (cipher.BadKeyFile n) = codes "BadKeyFile " ++ decimal n
cipher_text cipher.NoMemory = codes "NoMemory"

-- the keys of `check`
abbrev pub key_list_text : KeyListFault → List ℕ
key_list_text keys.BadKey = codes "BadKey"
key_list_text keys.Unread = codes "Unread"
key_list_text (keys.BadKeyFile n) = codes "BadKeyFile " ++ decimal n
key_list_text keys.NoMemory = codes "NoMemory"

-- the words of `one`
abbrev pub settings_text : SettingsFault → List ℕ
settings_text settings.BadKey = codes "BadKey"
settings_text settings.BadSize = codes "BadSize"
settings_text settings.BadVector = codes "BadVector"
settings_text settings.TooMany = codes "TooMany"
settings_text settings.ZeroPeriod = codes "ZeroPeriod"
settings_text settings.Settings = codes "Settings"
settings_text settings.Unread = codes "Unread"
settings_text (settings.BadKeyFile n) = codes "BadKeyFile " ++ decimal n
settings_text settings.NoMemory = codes "NoMemory"

-- the words of `pack`; of an entry that is bad or has a bad key file, its number, from 1
abbrev pub ladder_text : LadderFault → List ℕ
ladder_text (ladder.BadEntry n) = codes "BadEntry " ++ decimal n
ladder_text ladder.BadVector = codes "BadVector"
ladder_text ladder.TooMany = codes "TooMany"
ladder_text ladder.ZeroPeriod = codes "ZeroPeriod"
ladder_text ladder.Settings = codes "Settings"
ladder_text ladder.Unread = codes "Unread"
ladder_text (ladder.BadKeyFile n) = codes "BadKeyFile " ++ decimal n
ladder_text ladder.NoMemory = codes "NoMemory"

abbrev pub sealing_text : SealingFault → List ℕ
sealing_text sealing.Unread = codes "Unread"
sealing_text sealing.ReadLimit = codes "ReadLimit"
sealing_text sealing.Unwritten = codes "Unwritten"
sealing_text sealing.NoMemory = codes "NoMemory"

abbrev pub opening_text : OpeningFault → List ℕ
opening_text opening.Unread = codes "Unread"
opening_text opening.ReadLimit = codes "ReadLimit"
opening_text opening.BadHex = codes "BadHex"
opening_text opening.NotBlocks = codes "NotBlocks"
opening_text opening.BadPadding = codes "BadPadding"
opening_text opening.Unwritten = codes "Unwritten"
opening_text opening.NoMemory = codes "NoMemory"

-- Why rendition `r`, counted from 0, doesn't go on; the number of a segment where there is one.
abbrev pub why_not_text : ℕ → WhyNot → List ℕ
why_not_text r why_not.Foreign = codes "Foreign " ++ decimal r
why_not_text r why_not.Ended = codes "Ended " ++ decimal r
why_not_text r why_not.OtherTarget = codes "OtherTarget " ++ decimal r
why_not_text r why_not.OtherSalt = codes "OtherSalt " ++ decimal r
why_not_text r why_not.OtherKind = codes "OtherKind " ++ decimal r
why_not_text r why_not.Uneven = codes "Uneven " ++ decimal r
why_not_text r (why_not.Lost n) = codes "Lost " ++ decimal r ++ codes " " ++ decimal n
why_not_text r (why_not.Ahead n) = codes "Ahead " ++ decimal r ++ codes " " ++ decimal n
why_not_text r why_not.Limit = codes "Limit " ++ decimal r

-- Why a ladder doesn't go on; of other keys, the rendition and the key's index.
abbrev pub resuming_text : ResumingFault → List ℕ
resuming_text resuming.Unread = codes "Unread"
resuming_text resuming.Outlet = codes "Outlet"
resuming_text resuming.NoMemory = codes "NoMemory"
resuming_text (resuming.Not r why) = why_not_text r why
resuming_text (resuming.OtherKeys r i) = codes "OtherKeys " ++ decimal r ++ codes " " ++ decimal i

abbrev pub input_text : InputFault → List ℕ
input_text input.Unread = codes "Unread"
input_text input.NoMemory = codes "NoMemory"

-- a run of the packager; the rendition, from 0, and the segment, from 0
abbrev pub packing_text : PackFault → List ℕ
packing_text packing.Settings = codes "Settings"
packing_text (packing.Read r) = codes "Read " ++ decimal r
packing_text (packing.ReadLimit r) = codes "ReadLimit " ++ decimal r
packing_text (packing.NoProgram r) = codes "NoProgram " ++ decimal r
packing_text (packing.NoStart r) = codes "NoStart " ++ decimal r
packing_text (packing.LongSegment r n) = codes "LongSegment " ++ decimal r ++ codes " " ++ decimal n
packing_text (packing.BigSegment r n) = codes "BigSegment " ++ decimal r ++ codes " " ++ decimal n
packing_text (packing.Limit r) = codes "Limit " ++ decimal r
packing_text packing.Outlet = codes "Outlet"
packing_text packing.NoMemory = codes "NoMemory"
packing_text (packing.Held r n) = codes "Held " ++ decimal r ++ codes " " ++ decimal n

abbrev pub ladder_packing_text : LadderPackingFault → List ℕ
ladder_packing_text (ladder_packing.Packing fault) = packing_text fault
ladder_packing_text ladder_packing.Unwritten = codes "Unwritten"
ladder_packing_text ladder_packing.NoMemory = codes "NoMemory"

-- a playlist that isn't one that is written here, by the first line that isn't
abbrev pub listing_text : ListFault → List ℕ
listing_text (listing.NotProfile line) = codes "NotProfile " ++ decimal line
listing_text listing.NoMemory = codes "NoMemory"

-- a listed segment that doesn't unpack, by the place of its entry, from 0
abbrev pub unpacking_text : UnpackFault → List ℕ
unpacking_text (unpacking.Missing i) = codes "Missing " ++ decimal i
unpacking_text (unpacking.Closed i) = codes "Closed " ++ decimal i
unpacking_text (unpacking.NoHead i) = codes "NoHead " ++ decimal i
unpacking_text unpacking.NoMemory = codes "NoMemory"

abbrev pub check_text : CheckFault → List ℕ
check_text (Text why) = listing_text why
check_text (Segments why) = unpacking_text why

abbrev pub checking_text : CheckingFault → List ℕ
checking_text checking.Unread = codes "Unread"
checking_text checking.Unwritten = codes "Unwritten"
checking_text checking.NoMemory = codes "NoMemory"
checking_text (checking.Faulty why) = check_text why

-- a fault; of a command line that isn't one, what clap says is its own
abbrev pub fault_text : Fault → Option (List ℕ)
fault_text (Usage error) = None
fault_text NotUtf8 = Some (codes "NotUtf8")
fault_text (Cipher fault) = Some (cipher_text fault)
fault_text (Settings fault) = Some (settings_text fault)
fault_text (KeyList fault) = Some (key_list_text fault)
fault_text (Ladder fault) = Some (ladder_text fault)
fault_text NoMemory = Some (codes "NoMemory")
fault_text Busy = Some (codes "Busy")
fault_text (Sealing fault) = Some (sealing_text fault)
fault_text (Opening fault) = Some (opening_text fault)
fault_text (Resuming fault) = Some (resuming_text fault)
fault_text (Unopened fault) = Some (input_text fault)
fault_text (Packing fault) = Some (packing_text fault)
fault_text (LadderPacking fault) = Some (ladder_packing_text fault)
fault_text (Checking fault) = Some (checking_text fault)

-- the line, behind the program's name
abbrev pub fault_line : Fault → Option (List ℕ)
fault_line fault = option_map (λ text. codes "tshls: " ++ text ++ codes "\n") (fault_text fault)
