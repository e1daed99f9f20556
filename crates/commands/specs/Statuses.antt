-- The status that a process ends with: 2 where its words are refused, else 1.
use Rattle.std.specs.Prelude.{ℕ}
use Rattle.commands.specs.declared.cipher.CipherFault.{CipherFault}
use Rattle.commands.specs.declared.cipher.CipherFault.TheVariants as cipher
use Rattle.commands.specs.declared.key_list.KeyListFault.{KeyListFault}
use Rattle.commands.specs.declared.key_list.KeyListFault.TheVariants as keys
use Rattle.commands.specs.declared.ladder_fault.LadderFault.{LadderFault}
use Rattle.commands.specs.declared.ladder_fault.LadderFault.TheVariants as ladder
use Rattle.commands.specs.declared.settings.SettingsFault.{SettingsFault}
use Rattle.commands.specs.declared.settings.SettingsFault.TheVariants as settings

abbrev pub cipher_status : CipherFault → ℕ
cipher_status cipher.BadKey = 2
cipher_status cipher.BadVector = 2
cipher_status cipher.Unread = 1
cipher_status (cipher.BadKeyFile n) = 1
cipher_status cipher.NoMemory = 1

abbrev pub key_list_status : KeyListFault → ℕ
key_list_status keys.BadKey = 2
key_list_status keys.Unread = 1
key_list_status (keys.BadKeyFile n) = 1
key_list_status keys.NoMemory = 1

abbrev pub settings_status : SettingsFault → ℕ
settings_status settings.BadKey = 2
settings_status settings.BadSize = 2
settings_status settings.BadVector = 2
settings_status settings.TooMany = 1
settings_status settings.ZeroPeriod = 1
settings_status settings.Settings = 1
settings_status settings.Unread = 1
settings_status (settings.BadKeyFile n) = 1
settings_status settings.NoMemory = 1

abbrev pub ladder_status : LadderFault → ℕ
ladder_status (ladder.BadEntry n) = 2
ladder_status ladder.BadVector = 2
ladder_status ladder.TooMany = 1
ladder_status ladder.ZeroPeriod = 1
ladder_status ladder.Settings = 1
ladder_status ladder.Unread = 1
ladder_status (ladder.BadKeyFile n) = 1
ladder_status ladder.NoMemory = 1
