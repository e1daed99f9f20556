-- Why the words of a command line tell no job, of what was found for the options of its command.
use Rattle.std.specs.Prelude.{◌≡◌, ◌⊎◌, ℕ, ◌<◌, ◌≤◌, true, false, List, Option, None, length, codes}
use Rattle.clap.specs.declared.parser.matches.Found.{Found}
use Rattle.clap.specs.Values.{kind_of}
use Rattle.clap.specs.Words.{IsAmong, Row, Text, fault_of, first_value, subcommand_of}
use Rattle.clap.specs.declared.error.Error.{Error}
use Rattle.clap.specs.declared.error.kind.ErrorKind.TheVariants.{MissingSubcommand}
use Rattle.limits.specs.declared.TheConstants.{MOST_KEYS}
use Rattle.commands.specs.declared.cipher.CipherFault.{CipherFault}
use Rattle.commands.specs.declared.cipher.CipherFault.TheVariants as cipher
use Rattle.commands.specs.declared.key_list.KeyListFault.{KeyListFault}
use Rattle.commands.specs.declared.key_list.KeyListFault.TheVariants as keys
use Rattle.commands.specs.declared.ladder_fault.LadderFault.{LadderFault}
use Rattle.commands.specs.declared.ladder_fault.LadderFault.TheVariants as ladder
use Rattle.commands.specs.declared.settings.SettingsFault.{SettingsFault}
use Rattle.commands.specs.declared.settings.SettingsFault.TheVariants as settings
use Rattle.commands.specs.declared.numbers.NumberWords.{NumberWords}
use Rattle.commands.specs.declared.numbers.Numbers.{Numbers}
use Rattle.commands.specs.declared.pool.PoolWords.{PoolWords}
use Rattle.commands.specs.CipherWords.{AreGood, KeyAndVector}
use Rattle.commands.specs.Defaults.{name_of, numbers_of}
use Rattle.commands.specs.Hex.{chosen_salt, chosen_vector}
use Rattle.commands.specs.KeyFiles.{GivesNoKey, IsOfFile, is_key_word}
use Rattle.commands.specs.KeyLists.{IsBadKeyFile, IsUnreadKey, are_keys, key_texts}
use Rattle.commands.specs.LadderOptions.{Asked, HasBadKeyFile, HasBadSalt, HasNoPeriod, HasTooMany, HasTurns, HasUnreadKey, IsBadEntry, IsOutside}
use Rattle.commands.specs.Pools.{IsPool, pool_of}
use Rattle.commands.specs.Settings.{AreFit, AreInside, AreOutside, FitsCut, HasSalt, Words}
use Rattle.commands.specs.Sizes.{HasSize}
use Rattle.command_line.specs.declared.fault.Fault.{Fault}
use Rattle.command_line.specs.declared.fault.Fault.TheVariants.{Usage, NotUtf8, Cipher, Settings, KeyList, Ladder, NoMemory, Busy, Sealing, Opening, Resuming, Unopened, Packing, LadderPacking, Checking}
use Rattle.command_line.specs.Jobs.{IsCommand, IsMatched}
use Rattle.command_line.specs.Options.{tshls}
use Rattle.command_line.specs.Words.{AreNumberWords, ArePoolWords, IsFlagOf, IsNumberOf, given_text, text_of, texts_of}

-- what reading the file at a path may do: give bytes, fail, want memory that isn't there
pub record FilesView : Type 1 where
  pub gives : List ℕ → List ℕ → Type 0
  pub refuses : List ℕ → Type 0
  pub wants : List ℕ → Type 0

abbrev pub files_view : (List ℕ → List ℕ → Type 0) → (List ℕ → Type 0) → (List ℕ → Type 0) → FilesView
files_view g r w = record { gives = g; refuses = r; wants = w }

-- why words tell no key and vector, of several reasons the first in this order
abbrev pub IsCipherFault : FilesView → KeyAndVector → CipherFault → Type 0
IsCipherFault files words cipher.BadKey = is_key_word words.key ≡ false
IsCipherFault files words cipher.BadVector = (is_key_word words.key ≡ true) × (chosen_vector words.seq words.iv ≡ None)
IsCipherFault files words cipher.Unread = AreGood words × IsOfFile files.refuses words.key
IsCipherFault files words (cipher.BadKeyFile n) = AreGood words × (n ≡ 1) × IsOfFile (GivesNoKey files.gives) words.key
IsCipherFault files words cipher.NoMemory = AreGood words × IsOfFile files.wants words.key

-- why words tell no settings of a rendition: so too
abbrev pub IsSettingsFault : FilesView → Words → Numbers → SettingsFault → Type 0
IsSettingsFault files words numbers settings.BadKey = are_keys words.keys ≡ false
IsSettingsFault files words numbers settings.BadSize = (are_keys words.keys ≡ true) × ¬ HasSize words.size
IsSettingsFault files words numbers settings.BadVector = (are_keys words.keys ≡ true) × HasSize words.size × (chosen_salt words.salt ≡ None)
IsSettingsFault files words numbers settings.TooMany =
    (are_keys words.keys ≡ true) × HasSize words.size × HasSalt words × (MOST_KEYS < length (key_texts words.keys))
IsSettingsFault files words numbers settings.ZeroPeriod =
    (are_keys words.keys ≡ true) × HasSize words.size × HasSalt words × (length (key_texts words.keys) ≤ MOST_KEYS) × (numbers.period ≡ 0)
IsSettingsFault files words numbers settings.Settings = AreOutside words numbers
IsSettingsFault files words numbers settings.Unread = AreInside words numbers × IsUnreadKey files.gives files.refuses words.keys
IsSettingsFault files words numbers (settings.BadKeyFile n) = AreInside words numbers × IsBadKeyFile files.gives words.keys n
IsSettingsFault files words numbers settings.NoMemory = AreFit words numbers

-- why a word tells no keys
abbrev pub IsKeyListFault : FilesView → List ℕ → KeyListFault → Type 0
IsKeyListFault files text keys.BadKey = are_keys text ≡ false
IsKeyListFault files text keys.Unread = IsUnreadKey files.gives files.refuses text
IsKeyListFault files text (keys.BadKeyFile n) = IsBadKeyFile files.gives text n
IsKeyListFault files text keys.NoMemory = are_keys text ≡ true

-- why words tell no ladder
abbrev pub IsLadderFault : FilesView → Asked → LadderFault → Type 0
IsLadderFault files asked (ladder.BadEntry n) = IsBadEntry asked n
IsLadderFault files asked ladder.BadVector = HasBadSalt asked
IsLadderFault files asked ladder.TooMany = HasTooMany asked
IsLadderFault files asked ladder.ZeroPeriod = HasNoPeriod asked
IsLadderFault files asked ladder.Settings = IsOutside asked
IsLadderFault files asked ladder.Unread = HasUnreadKey files.gives files.refuses asked
IsLadderFault files asked (ladder.BadKeyFile n) = HasBadKeyFile files.gives asked n
IsLadderFault files asked ladder.NoMemory = HasTurns asked × FitsCut asked.numbers × IsPool asked.pool × (0 < length asked.entries)

-- the words of `one`, of what was found for its options
pub record AreStreamWords (found : Found) (words : Words) : Type 0 where
  pub name_is : words.name ≡ name_of (given_text found (codes "name"))
  pub codecs_are : words.codecs ≡ text_of found (codes "codecs")
  pub size_is : words.size ≡ text_of found (codes "size")
  pub keys_are : words.keys ≡ text_of found (codes "keys")
  pub salt_is : words.salt ≡ first_value found (codes "salt")
  pub event_is : IsFlagOf found (codes "event") words.event

-- what `pack` is asked for
pub record IsAskedBy (found : Found) (asked : Asked) : Type 0 where
  pub entries_are : asked.entries ≡ texts_of found (codes "entries")
  pub salt_is : asked.salt ≡ first_value found (codes "salt")
  pub event_is : IsFlagOf found (codes "event") asked.event
  pub numbers : NumberWords
  pub numbers_are : AreNumberWords found numbers
  pub stand : asked.numbers ≡ numbers_of numbers
  pub pool : PoolWords
  pub pool_is : ArePoolWords found pool
  pub stands : asked.pool ≡ pool_of pool

-- .. of what was found for the options of `seal` or `open`
pub record RefusesCipher (files : FilesView) (found : Found) (fault : CipherFault) : Type 0 where
  pub seq : Option ℕ
  pub seq_is : IsNumberOf found (codes "seq") seq
  pub is : IsCipherFault files (record { key = text_of found (codes "key"); seq = seq; iv = first_value found (codes "iv") }) fault

-- .. of `one`
pub record RefusesSettings (files : FilesView) (found : Found) (fault : SettingsFault) : Type 0 where
  pub words : Words
  pub words_are : AreStreamWords found words
  pub numbers : NumberWords
  pub numbers_are : AreNumberWords found numbers
  pub is : IsSettingsFault files words (numbers_of numbers) fault

-- .. of `check`
abbrev pub RefusesKeys : FilesView → Found → KeyListFault → Type 0
RefusesKeys files found fault = IsKeyListFault files (text_of found (codes "keys")) fault

-- .. of `pack`
pub record RefusesLadder (files : FilesView) (found : Found) (fault : LadderFault) : Type 0 where
  pub asked : Asked
  pub asked_is : IsAskedBy found asked
  pub is : IsLadderFault files asked fault

-- What each command is told: its own faults, and of `pack` that there is no memory for its entries, of which there are some.
abbrev pub IsNoCipher : FilesView → Found → Fault → Type 0
IsNoCipher files found fault = (why : CipherFault) × (fault ≡ Cipher why) × RefusesCipher files found why

abbrev pub AreNoSettings : FilesView → Found → Fault → Type 0
AreNoSettings files found fault = (why : SettingsFault) × (fault ≡ Settings why) × RefusesSettings files found why

abbrev pub AreNoKeys : FilesView → Found → Fault → Type 0
AreNoKeys files found fault = (why : KeyListFault) × (fault ≡ KeyList why) × RefusesKeys files found why

abbrev pub IsNoLadder : FilesView → Found → Fault → Type 0
IsNoLadder files found fault = ((fault ≡ NoMemory) × (0 < length (texts_of found (codes "entries")))) ⊎ ((why : LadderFault) × (fault ≡ Ladder why) × RefusesLadder files found why)

-- Why a line tells no job: that it isn't a call, only where that may be; want of memory; or what the command that was matched is told of its
-- options, each only its own. Nothing else was read but files of keys, and nothing written.
abbrev pub IsNoJob : FilesView → Type 0 → Option (Text × List Row) → Fault → Type 0
IsNoJob files usage matched (Usage error) = usage
IsNoJob files usage matched NotUtf8 = ⊥
IsNoJob files usage matched (Cipher fault) =
    (found : Found) × (IsMatched matched (codes "seal") found ⊎ IsMatched matched (codes "open") found) × RefusesCipher files found fault
IsNoJob files usage matched (Settings fault) = (found : Found) × IsMatched matched (codes "one") found × RefusesSettings files found fault
IsNoJob files usage matched (KeyList fault) = (found : Found) × IsMatched matched (codes "check") found × RefusesKeys files found fault
IsNoJob files usage matched (Ladder fault) = (found : Found) × IsMatched matched (codes "pack") found × RefusesLadder files found fault
IsNoJob files usage matched NoMemory = Unit {0}
IsNoJob files usage matched Busy = ⊥
IsNoJob files usage matched (Sealing fault) = ⊥
IsNoJob files usage matched (Opening fault) = ⊥
IsNoJob files usage matched (Resuming fault) = ⊥
IsNoJob files usage matched (Unopened fault) = ⊥
IsNoJob files usage matched (Packing fault) = ⊥
IsNoJob files usage matched (LadderPacking fault) = ⊥
IsNoJob files usage matched (Checking fault) = ⊥

-- Of what was matched memory may be wanted: where it is no command, for the words that say so, and for the entries of `pack`, of which there
-- are some.
abbrev pub MayWantMemory : Option (Text × List Row) → Type 0
MayWantMemory matched =
    (IsCommand matched → ⊥) ⊎ ((found : Found) × IsMatched matched (codes "pack") found × (0 < length (texts_of found (codes "entries"))))

-- What is told of words that aren't a call: of a kind that clap has for them, or that a command is wanted, where none was matched.
abbrev pub IsUsage : List Text → Error → Type 0
IsUsage words error =
    IsAmong (kind_of error) (fault_of tshls words) ⊎ ((IsCommand (subcommand_of tshls words) → ⊥) × (kind_of error ≡ MissingSubcommand))
