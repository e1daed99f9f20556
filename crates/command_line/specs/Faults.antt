-- What faults of the program stand for.
use Rattle.std.specs.Prelude.{◌≡◌, ◌≢◌, ℕ, List, ◌++◌, codes}
use Rattle.clap.specs.declared.error.Error.{Error}
use Rattle.clap.specs.declared.error.kind.ErrorKind.TheVariants.{OutOfMemory}
use Rattle.clap.specs.Values.{kind_of}
use Rattle.commands.specs.Statuses.{cipher_status, key_list_status, ladder_status, settings_status}
use Rattle.command_line.specs.declared.fault.Fault.{Fault}
use Rattle.command_line.specs.declared.fault.Fault.TheVariants.{Usage, NotUtf8, Cipher, Settings, KeyList, Ladder, NoMemory, Busy, Sealing, Opening, Resuming, Unopened, Packing, LadderPacking, Checking}

-- the status that the process ends with
abbrev pub status_of : Fault → ℕ
status_of (Usage error) = 2
status_of NotUtf8 = 2
status_of (Cipher fault) = cipher_status fault
status_of (Settings fault) = settings_status fault
status_of (KeyList fault) = key_list_status fault
status_of (Ladder fault) = ladder_status fault
status_of NoMemory = 1
status_of Busy = 1
status_of (Sealing fault) = 1
status_of (Opening fault) = 1
status_of (Resuming fault) = 1
status_of (Unopened fault) = 1
status_of (Packing fault) = 1
status_of (LadderPacking fault) = 1
status_of (Checking fault) = 1

-- what is told of words that aren't a line of the program: so, only where that may be; or want of memory
abbrev pub IsRefused : Type 0 → Fault → Type 0
IsRefused usage (Usage error) = usage
IsRefused usage NotUtf8 = ⊥
IsRefused usage (Cipher fault) = ⊥
IsRefused usage (Settings fault) = ⊥
IsRefused usage (KeyList fault) = ⊥
IsRefused usage (Ladder fault) = ⊥
IsRefused usage NoMemory = Unit {0}
IsRefused usage Busy = ⊥
IsRefused usage (Sealing fault) = ⊥
IsRefused usage (Opening fault) = ⊥
IsRefused usage (Resuming fault) = ⊥
IsRefused usage (Unopened fault) = ⊥
IsRefused usage (Packing fault) = ⊥
IsRefused usage (LadderPacking fault) = ⊥
IsRefused usage (Checking fault) = ⊥

-- What a refusal of clap is told as: as want of memory where it is that, and else as a command line that isn't one.
pub record IsRefusal (why : Error) (fault : Fault) : Type 0 where
  pub memory : kind_of why ≡ OutOfMemory → fault ≡ NoMemory
  pub usage : kind_of why ≢ OutOfMemory → fault ≡ Usage why
  pub early : IsRefused (kind_of why ≢ OutOfMemory) fault

-- a line that is indented by two spaces
pub record IsIndentedLine (text : List ℕ) : Type 0 where
  pub words : List ℕ
  pub is : text ≡ codes "  " ++ words ++ codes "\n"
