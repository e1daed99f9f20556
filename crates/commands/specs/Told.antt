-- What a command tells of a fault of its parts.
use Rattle.aes_cbc.specs.declared.fault.OpenFault.{OpenFault}
use Rattle.aes_cbc.specs.declared.fault.OpenFault.TheVariants as cipher
use Rattle.commands.specs.declared.reading.ReadingFault.{ReadingFault}
use Rattle.commands.specs.declared.reading.ReadingFault.TheVariants as reading
use Rattle.commands.specs.declared.sealing.SealingFault.{SealingFault}
use Rattle.commands.specs.declared.sealing.SealingFault.TheVariants as sealing
use Rattle.commands.specs.declared.opening.OpeningFault.{OpeningFault}
use Rattle.commands.specs.declared.opening.OpeningFault.TheVariants as opening
use Rattle.commands.specs.declared.files.FileFault.{FileFault}
use Rattle.commands.specs.declared.files.FileFault.TheVariants as file
use Rattle.commands.specs.declared.key_word.KeyFileFault.{KeyFileFault}
use Rattle.commands.specs.declared.key_word.KeyFileFault.TheVariants as key_file
use Rattle.commands.specs.declared.cipher.CipherFault.{CipherFault}
use Rattle.commands.specs.declared.cipher.CipherFault.TheVariants as cipher_words
use Rattle.commands.specs.declared.key_list.KeyListFault.{KeyListFault}
use Rattle.commands.specs.declared.key_list.KeyListFault.TheVariants as key_list
use Rattle.commands.specs.declared.settings.SettingsFault.{SettingsFault}
use Rattle.commands.specs.declared.settings.SettingsFault.TheVariants as settings
use Rattle.commands.specs.declared.ladder_fault.LadderFault.{LadderFault}
use Rattle.commands.specs.declared.ladder_fault.LadderFault.TheVariants as ladder
use Rattle.commands.specs.declared.checking.CheckingFault.{CheckingFault}
use Rattle.commands.specs.declared.checking.CheckingFault.TheVariants as checking

abbrev pub sealing_of : ReadingFault → SealingFault
sealing_of reading.Unread = sealing.Unread
sealing_of reading.ReadLimit = sealing.ReadLimit
sealing_of reading.NoMemory = sealing.NoMemory

abbrev pub opening_of_reading : ReadingFault → OpeningFault
opening_of_reading reading.Unread = opening.Unread
opening_of_reading reading.ReadLimit = opening.ReadLimit
opening_of_reading reading.NoMemory = opening.NoMemory

-- of a sealed text that doesn't open
abbrev pub opening_of : OpenFault → OpeningFault
opening_of cipher.NotBlocks = opening.NotBlocks
opening_of cipher.BadPadding = opening.BadPadding
opening_of cipher.NoMemory = opening.NoMemory

abbrev pub checking_of : FileFault → CheckingFault
checking_of file.Unread = checking.Unread
checking_of file.NoMemory = checking.NoMemory

abbrev pub key_fault_of : FileFault → KeyFileFault
key_fault_of file.Unread = key_file.Unread
key_fault_of file.NoMemory = key_file.NoMemory

abbrev pub cipher_fault_of : KeyFileFault → CipherFault
cipher_fault_of key_file.Unread = cipher_words.Unread
cipher_fault_of (key_file.BadKeyFile n) = cipher_words.BadKeyFile n
cipher_fault_of key_file.NoMemory = cipher_words.NoMemory

abbrev pub key_list_fault_of : KeyFileFault → KeyListFault
key_list_fault_of key_file.Unread = key_list.Unread
key_list_fault_of (key_file.BadKeyFile n) = key_list.BadKeyFile n
key_list_fault_of key_file.NoMemory = key_list.NoMemory

abbrev pub settings_fault_of : KeyFileFault → SettingsFault
settings_fault_of key_file.Unread = settings.Unread
settings_fault_of (key_file.BadKeyFile n) = settings.BadKeyFile n
settings_fault_of key_file.NoMemory = settings.NoMemory

abbrev pub ladder_fault_of : KeyFileFault → LadderFault
ladder_fault_of key_file.Unread = ladder.Unread
ladder_fault_of (key_file.BadKeyFile n) = ladder.BadKeyFile n
ladder_fault_of key_file.NoMemory = ladder.NoMemory
