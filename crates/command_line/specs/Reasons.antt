-- What a fault means, in words, for whoever reads it at a terminal. None of them names an option, an entry or a path of its own.
use Rattle.std.specs.Prelude.{ℕ, List, codes}
use Rattle.commands.specs.declared.cipher.CipherFault.{CipherFault}
use Rattle.commands.specs.declared.cipher.CipherFault.TheVariants as cipher
use Rattle.commands.specs.declared.key_list.KeyListFault.{KeyListFault}
use Rattle.commands.specs.declared.key_list.KeyListFault.TheVariants as keys
use Rattle.commands.specs.declared.sealing.SealingFault.{SealingFault}
use Rattle.commands.specs.declared.sealing.SealingFault.TheVariants as sealing
use Rattle.commands.specs.declared.opening.OpeningFault.{OpeningFault}
use Rattle.commands.specs.declared.opening.OpeningFault.TheVariants as opening
use Rattle.channel_folder.specs.declared.fault.WhyNot.{WhyNot}
use Rattle.channel_folder.specs.declared.fault.WhyNot.TheVariants as why
use Rattle.channel.specs.declared.fault.ResumingFault.{ResumingFault}
use Rattle.channel.specs.declared.fault.ResumingFault.TheVariants as resuming
use Rattle.read_ahead.specs.declared.starting.InputFault.{InputFault}
use Rattle.read_ahead.specs.declared.starting.InputFault.TheVariants as input
use Rattle.media_reading.specs.declared.list_fault.ListFault.{ListFault}
use Rattle.media_reading.specs.declared.list_fault.ListFault.TheVariants as listing
use Rattle.hls_check.specs.declared.fault.UnpackFault.{UnpackFault}
use Rattle.hls_check.specs.declared.fault.UnpackFault.TheVariants as unpacking
use Rattle.hls_check.specs.declared.checking.CheckFault.{CheckFault}
use Rattle.hls_check.specs.declared.checking.CheckFault.TheVariants.{Text, Segments}
use Rattle.commands.specs.declared.checking.CheckingFault.{CheckingFault}
use Rattle.commands.specs.declared.checking.CheckingFault.TheVariants as checking

-- a key and a vector
abbrev pub cipher_reason : CipherFault → List ℕ
cipher_reason cipher.BadKey = codes "--key is not 32 hex digits"
cipher_reason cipher.BadVector = codes "exactly one of --seq and --iv is wanted, and --iv as 32 hex digits"
cipher_reason cipher.Unread = codes "the file of a key can't be read; nothing was written"
cipher_reason (cipher.BadKeyFile n) = codes "the file of that key, counted from 1, is neither 16 bytes nor 32 hex digits with at most one line end"
cipher_reason cipher.NoMemory = codes "out of memory"

-- the keys of `check`
abbrev pub key_list_reason : KeyListFault → List ℕ
key_list_reason keys.BadKey = codes "a key of --keys is not 32 hex digits"
key_list_reason keys.Unread = codes "the file of a key can't be read; nothing was written"
key_list_reason (keys.BadKeyFile n) = codes "the file of that key, counted from 1, is neither 16 bytes nor 32 hex digits with at most one line end"
key_list_reason keys.NoMemory = codes "out of memory"

-- a stream that is sealed
abbrev pub sealing_reason : SealingFault → List ℕ
sealing_reason sealing.Unread = codes "standard input can't be read"
sealing_reason sealing.ReadLimit = codes "2^40 reads did not reach the end of the input"
sealing_reason sealing.Unwritten = codes "standard output can't be written: it is closed, or its disk is full"
sealing_reason sealing.NoMemory = codes "out of memory"

-- a line that is opened
abbrev pub opening_reason : OpeningFault → List ℕ
opening_reason opening.Unread = codes "standard input can't be read"
opening_reason opening.ReadLimit = codes "2^40 reads did not reach the end of the input"
opening_reason opening.BadHex = codes "the input is not one line of an even number of hex digits"
opening_reason opening.NotBlocks = codes "the digits are not whole blocks of 16 bytes, or there are none"
opening_reason opening.BadPadding = codes "sealed under another key or vector, or damaged"
opening_reason opening.Unwritten = codes "standard output can't be written: it is closed, or its disk is full"
opening_reason opening.NoMemory = codes "out of memory"

-- why a rendition doesn't go on
abbrev pub why_not : WhyNot → List ℕ
why_not why.Foreign = codes "its playlists in --out are not what tshls writes for a rendition of this name, or one of the two is missing"
why_not why.Ended = codes "its playlist has ended: nothing may follow; take a new name or another folder"
why_not why.OtherTarget = codes "its playlist has another target duration: give that one as --target"
why_not why.OtherSalt = codes "its playlist has another --salt, or none, or one where none is given"
why_not why.OtherKind = codes "its playlist is that of an event and --event isn't given, or the other way"
why_not why.Uneven = codes "it had another number of discontinuities than one before it: begin anew in another folder"
why_not (why.Lost n) = codes "that segment is listed, and its file is missing: put it back, or begin anew"
why_not (why.Ahead n) = codes "the file of that segment is there and no playlist lists it: an older playlist was put back? Begin anew in another folder"
why_not why.Limit = codes "the last number of a segment is passed"

-- why a ladder doesn't, where no rendition is told
abbrev pub resuming_reason : ResumingFault → List ℕ
resuming_reason resuming.Unread = codes "--out, or a file in it, can't be read; nothing was written"
resuming_reason resuming.Outlet = codes "a file in --out can't be renamed or removed"
resuming_reason resuming.NoMemory = codes "out of memory"
resuming_reason (resuming.Not r fault) = why_not fault
resuming_reason (resuming.OtherKeys r i) = codes "the last segment under that key, counted from 0, does not open: its entry has another key"

-- a stream of a ladder
abbrev pub unopened_reason : InputFault → List ℕ
unopened_reason input.Unread = codes "the path of an entry can't be opened; nothing was written"
unopened_reason input.NoMemory = codes "out of memory"

abbrev pub listing_reason : ListFault → List ℕ
listing_reason (listing.NotProfile n) = codes "that line of the playlist, counted from 1, is not what tshls writes there"
listing_reason listing.NoMemory = codes "out of memory"

abbrev pub unpacking_reason : UnpackFault → List ℕ
unpacking_reason (unpacking.Missing n) = codes "--keys has no key for that entry of the playlist, counted from 0"
unpacking_reason (unpacking.Closed n) = codes "that entry, counted from 0, does not open: another key, or its segment is damaged"
unpacking_reason (unpacking.NoHead n) = codes "that entry, counted from 0, opens to something else than a segment: exchanged or damaged"
unpacking_reason unpacking.NoMemory = codes "out of memory"

abbrev pub check_reason : CheckFault → List ℕ
check_reason (Text fault) = listing_reason fault
check_reason (Segments fault) = unpacking_reason fault

-- a playlist and its segments
abbrev pub checking_reason : CheckingFault → List ℕ
checking_reason checking.Unread = codes "the playlist, or a segment that it lists, can't be read, or the playlist is not UTF-8"
checking_reason checking.Unwritten = codes "standard output can't be written: it is closed, or its disk is full"
checking_reason checking.NoMemory = codes "out of memory"
checking_reason (checking.Faulty fault) = check_reason fault
