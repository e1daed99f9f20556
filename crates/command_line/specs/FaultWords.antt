-- What an explanation says of a fault, by what was found for the options of the command that it comes from. A key is no part of it: of an entry
-- it has the name and the path.
use Rattle.std.specs.Prelude.{◌≡◌, ℕ, List, ◌++◌, Option, codes}
use Rattle.clap.specs.declared.parser.matches.Found.{Found}
use Rattle.clap.specs.Words.{Row, Text}
use Rattle.ladder_items.specs.declared.fault.PackFault.{PackFault}
use Rattle.commands.specs.declared.settings.SettingsFault.{SettingsFault}
use Rattle.commands.specs.declared.settings.SettingsFault.TheVariants as settings
use Rattle.commands.specs.declared.ladder_fault.LadderFault.{LadderFault}
use Rattle.commands.specs.declared.ladder_fault.LadderFault.TheVariants as ladder
use Rattle.commands.specs.declared.packing_fault.LadderPackingFault.{LadderPackingFault}
use Rattle.commands.specs.declared.packing_fault.LadderPackingFault.TheVariants as ladder_packing
use Rattle.command_line.specs.declared.fault.Fault.{Fault}
use Rattle.command_line.specs.declared.fault.Fault.TheVariants.{Usage, NotUtf8, Cipher, Settings, KeyList, Ladder, NoMemory, Busy, Sealing, Opening, Resuming, Unopened, Packing, LadderPacking, Checking}
use Rattle.command_line.specs.EntryTexts.{bad_entry_text, bad_key_file_text, entry_numbered, packing_words, resuming_words}
use Rattle.command_line.specs.Jobs.{IsMatched}
use Rattle.command_line.specs.Reasons.{checking_reason, cipher_reason, key_list_reason, opening_reason, sealing_reason, unopened_reason}
use Rattle.command_line.specs.SettingsWords.{settings_words}
use Rattle.command_line.specs.Words.{is_given, texts_of}

-- the words of `one`
abbrev pub one_words : Found → SettingsFault → List ℕ
one_words found settings.BadKey = codes "a key of --keys is not 32 hex digits"
one_words found settings.BadSize = codes "--size is not WIDTHxHEIGHT in pixels, as 1280x720"
one_words found settings.BadVector = codes "--salt is not 32 hex digits"
one_words found settings.TooMany = codes "more than 4096 keys for one rendition"
one_words found settings.ZeroPeriod = codes "--period is 0: a key seals at least one segment"
one_words found settings.Settings = settings_words found
one_words found settings.Unread = codes "the file of a key can't be read; nothing was written"
one_words found (settings.BadKeyFile n) = codes "the file of that key, counted from 1, is neither 16 bytes nor 32 hex digits with at most one line end"
one_words found settings.NoMemory = codes "out of memory"

-- the words of `pack`
abbrev pub pack_words : Found → LadderFault → List ℕ
pack_words found (ladder.BadEntry n) = bad_entry_text (entry_numbered (texts_of found (codes "entries")) n) n
pack_words found ladder.BadVector = codes "--salt is not 32 hex digits"
pack_words found ladder.TooMany = codes "more than 4096 keys for one rendition"
pack_words found ladder.ZeroPeriod = codes "--period is 0: a key seals at least one segment"
pack_words found ladder.Settings = settings_words found
pack_words found ladder.Unread = codes "the file of a key can't be read; nothing was written"
pack_words found (ladder.BadKeyFile n) = bad_key_file_text (entry_numbered (texts_of found (codes "entries")) n) n
pack_words found ladder.NoMemory = codes "out of memory"

-- why a run ended: settings, and a stream that may have been silent, are told by the options besides
abbrev pub run_words : Found → PackFault → List ℕ
run_words found fault = packing_words (texts_of found (codes "entries")) (is_given found (codes "stall")) (settings_words found) fault

-- .. of `pack`
abbrev pub ladder_run_words : Found → LadderPackingFault → List ℕ
ladder_run_words found (ladder_packing.Packing fault) = run_words found fault
ladder_run_words found ladder_packing.Unwritten = codes "all was packed, but standard output can't be written"
ladder_run_words found ladder_packing.NoMemory = codes "out of memory"

-- any fault; what clap says of a command line stands for itself, and is explained no further
abbrev pub fault_words : Found → Fault → List ℕ
fault_words found (Usage error) = codes "out of memory"
fault_words found NotUtf8 = codes "a word of the command line is not UTF-8"
fault_words found (Cipher fault) = cipher_reason fault
fault_words found (Settings fault) = one_words found fault
fault_words found (KeyList fault) = key_list_reason fault
fault_words found (Ladder fault) = pack_words found fault
fault_words found NoMemory = codes "out of memory"
fault_words found Busy = codes "another tshls packs into this folder; nothing was read or written"
fault_words found (Sealing fault) = sealing_reason fault
fault_words found (Opening fault) = opening_reason fault
fault_words found (Resuming fault) = resuming_words (texts_of found (codes "entries")) fault
fault_words found (Unopened fault) = unopened_reason fault
fault_words found (Packing fault) = run_words found fault
fault_words found (LadderPacking fault) = ladder_run_words found fault
fault_words found (Checking fault) = checking_reason fault

-- the line that an explanation is
abbrev pub fault_words_line : Found → Fault → List ℕ
fault_words_line found fault = codes "  " ++ fault_words found fault ++ codes "\n"

-- A text explains a fault by what was found for the options of the command that was matched.
pub record Explains (matched : Option (Text × List Row)) (fault : Fault) (text : List ℕ) : Type 0 where
  pub name : Text
  pub found : Found
  pub is_matched : IsMatched matched name found
  pub is : text ≡ fault_words_line found fault
