-- What a command does that reads in the calling thread alone.
use Rattle.std.specs.Prelude.{◌≡◌, ◌≢◌, ◌⊎◌, ◌<◌, ℕ, List, Option, length}
use Rattle.std.specs.String.{string_bytes}
use Rattle.ladder_items.specs.Ladder.{IsAllowed, Ladder}
use Rattle.packing.specs.StreamPacking.{CountsSay, PackingSays, WritesPacked}
use Rattle.commands.specs.Checking.{BeginsChecked, IsCheckFault, WritesChecked}
use Rattle.commands.specs.Counts.{OpeningCounts, SealingCounts}
use Rattle.commands.specs.Streams.{BeginsOpened, BeginsSealed, HasBegun, ReadsNoBlocks, ReadsNoSealed, ReadsOther, WritesOpened, WritesSealed}
use Rattle.commands.specs.declared.check_options.CheckOptions.{CheckOptions}
use Rattle.commands.specs.declared.checking.CheckingFault.{CheckingFault}
use Rattle.commands.specs.declared.checking.CheckingFault.TheVariants as checking
use Rattle.commands.specs.declared.cipher.CipherOptions.{CipherOptions}
use Rattle.commands.specs.declared.opening.OpeningFault.{OpeningFault}
use Rattle.commands.specs.declared.opening.OpeningFault.TheVariants as opening
use Rattle.commands.specs.declared.sealing.SealingFault.{SealingFault}
use Rattle.commands.specs.declared.sealing.SealingFault.TheVariants as sealing
use Rattle.ladder_items.specs.declared.fault.PackFault.{PackFault}
use Rattle.ladder_items.specs.declared.fault.PackFault.TheVariants as packing
use Rattle.command_line.specs.declared.fault.Fault.{Fault}
use Rattle.command_line.specs.declared.fault.Fault.TheVariants.{Checking, Opening, Packing, Sealing}
use Rattle.command_line.specs.declared.job.StreamJob.{StreamJob}
use Rattle.command_line.specs.declared.job.StreamJob.TheVariants.{Check, One, Open, Seal}

-- what was read to its end was sealed, opened or packed, and that was written; so was what a playlist and its segments hold
abbrev pub Seals : CipherOptions → Option (List ℕ) → Option (List ℕ) → Option (List ℕ) → Type 0
Seals options left held held_then = (left_then : Option (List ℕ)) × WritesSealed options.key options.vector left left_then held held_then

abbrev pub Opens : CipherOptions → Option (List ℕ) → Option (List ℕ) → Option (List ℕ) → Type 0
Opens options left held held_then = (left_then : Option (List ℕ)) × WritesOpened options.key options.vector left left_then held held_then

abbrev pub Packs : Ladder → Option (List ℕ) → Option (List ℕ) → Option (List ℕ) → Type 0
Packs ladder left held held_then = (left_then : Option (List ℕ)) × WritesPacked ladder left left_then held held_then

abbrev pub Checks : (List ℕ → List ℕ → Type 0) → CheckOptions → Option (List ℕ) → Option (List ℕ) → Type 0
Checks gives options held held_then = WritesChecked gives options.keys.items (string_bytes options.playlist) held held_then

-- a command did what it is for
abbrev pub DoesStream : (List ℕ → List ℕ → Type 0) → StreamJob → Option (List ℕ) → Option (List ℕ) → Option (List ℕ) → Type 0
DoesStream gives (Seal options) left held held_then = Seals options left held held_then
DoesStream gives (Open options) left held held_then = Opens options left held held_then
DoesStream gives (One settings) left held held_then = Packs settings left held held_then
DoesStream gives (Check options) left held held_then = Checks gives options held held_then

-- What a command read and wrote: what its reader had left before and after, how many reads gave bytes, how many failed, and what its
-- writer held before and after.
pub record Passed : Type 0 where
  pub left : Option (List ℕ)
  pub left_then : Option (List ℕ)
  pub reads : ℕ
  pub failures : ℕ
  pub held : Option (List ℕ)
  pub held_then : Option (List ℕ)

-- what reads files by their paths: what they may give, which may be refused, and which may want memory
pub record FileView : Type 1 where
  pub gives : List ℕ → List ℕ → Type 0
  pub refuses : List ℕ → Type 0
  pub wants : List ℕ → Type 0

-- Why nothing was sealed: each fault says how often was read. Where a write failed a prefix of the line was written, else nothing.
-- Memory is wanted only for bytes that a read gave, or once the end has come.
pub record FailsSealing (options : CipherOptions) (p : Passed) (why : SealingFault) : Type 0 where
  pub counts : SealingCounts 0 p.reads 0 p.failures why
  pub begun : why ≡ sealing.Unwritten → BeginsSealed options.key options.vector p.left p.left_then p.held p.held_then
  pub untouched : why ≢ sealing.Unwritten → p.held_then ≡ p.held
  pub scarce : why ≡ sealing.NoMemory → HasBegun 0 p.reads p.left p.left_then

-- Why nothing was opened: the same, and what was read is no hex digits, no blocks, or no sealed text, as the fault says. Memory is
-- wanted only for bytes that a read gave.
pub record FailsOpening (options : CipherOptions) (p : Passed) (why : OpeningFault) : Type 0 where
  pub counts : OpeningCounts 0 p.reads 0 p.failures why
  pub begun : why ≡ opening.Unwritten → BeginsOpened options.key options.vector p.left p.left_then p.held p.held_then
  pub bad_hex : why ≡ opening.BadHex → ReadsOther p.left p.left_then
  pub not_blocks : why ≡ opening.NotBlocks → ReadsNoBlocks p.left p.left_then
  pub bad_padding : why ≡ opening.BadPadding → ReadsNoSealed options.key options.vector p.left p.left_then
  pub untouched : why ≢ opening.Unwritten → p.held_then ≡ p.held
  pub scarce : why ≡ opening.NoMemory → 0 < p.reads

-- Why a stream wasn't packed to its end: each fault says what was read and written by then, and how often was read. Settings that
-- aren't those of one rendition are refused, unless there is no memory before anything is read.
pub record FailsPacking (ladder : Ladder) (p : Passed) (why : PackFault) : Type 0 where
  pub says : PackingSays ladder p.left p.left_then p.held p.held_then why
  pub failed_puts : ℕ
  pub counts : CountsSay p.reads p.failures failed_puts why
  pub breach : ((IsAllowed ladder × (length ladder.renditions ≡ 1)) → ⊥) → (why ≡ packing.Settings) ⊎ ((why ≡ packing.NoMemory) × (p.reads ≡ 0))

-- Why a playlist wasn't checked to its end, or isn't whole. Where a write failed a prefix of the line was written, else nothing.
pub record FailsChecking (files : FileView) (options : CheckOptions) (p : Passed) (why : CheckingFault) : Type 0 where
  pub begun : why ≡ checking.Unwritten → BeginsChecked files.gives options.keys.items (string_bytes options.playlist) p.held p.held_then
  pub is : why ≢ checking.Unwritten → IsCheckFault files.gives files.refuses files.wants options.keys.items (string_bytes options.playlist) why
  pub untouched : why ≢ checking.Unwritten → p.held_then ≡ p.held

-- what is told is a fault of that command, and it is the one that stopped it
abbrev pub IsOfStream : FileView → StreamJob → Passed → Fault → Type 0
IsOfStream files (Seal options) p fault = (why : SealingFault) × (fault ≡ Sealing why) × FailsSealing options p why
IsOfStream files (Open options) p fault = (why : OpeningFault) × (fault ≡ Opening why) × FailsOpening options p why
IsOfStream files (One settings) p fault = (why : PackFault) × (fault ≡ Packing why) × FailsPacking settings p why
IsOfStream files (Check options) p fault = (why : CheckingFault) × (fault ≡ Checking why) × FailsChecking files options p why
