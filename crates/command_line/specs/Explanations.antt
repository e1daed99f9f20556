-- What an explanation says of numbers that aren't allowed, as docs/COMMANDS.md has it.
use Rattle.std.specs.Prelude.{◌≡◌, ◌==◌, ◌<◌, ◌⊎◌, ℕ, ◌≤◌, Bool, true, false, length, List, ◌++◌, Option, None, Some, codes}
use Rattle.std.specs.List.{position_or_len}
use Rattle.playlist_text.specs.Names.{is_codecs, is_name}
use Rattle.limits.specs.declared.TheConstants.{MOST_PIXELS}
use Rattle.std.specs.Fmt.{HasWritten, IsPlainFormatter}
use Rattle.std.specs.declared.fmt.Formatter.{Formatter}
use Rattle.commands.specs.Ranges.{AreWithinBefore, IsWithin}
use Rattle.commands.specs.Sizes.{IsNumber, before_x, behind_x}
use Rattle.commands.specs.declared.numbers.Numbers.{Numbers}
use Rattle.commands.specs.declared.pool.Pool.{Pool}
use Rattle.commands.specs.declared.outside.Ranged.{Ranged}
use Rattle.commands.specs.declared.outside.Ranged.TheVariants.{Target, Segment, Window, Frame, Gap, Most, Program, Workers, Queue, Batch, Stall, Ahead}

-- the word of an option
abbrev pub option_word : Ranged → List ℕ
option_word Target = codes "--target"
option_word Segment = codes "--segment"
option_word Window = codes "--window"
option_word Frame = codes "--frame"
option_word Gap = codes "--gap"
option_word Most = codes "--most"
option_word Program = codes "--program"
option_word Workers = codes "--workers"
option_word Queue = codes "--queue"
option_word Batch = codes "--batch"
option_word Stall = codes "--stall"
option_word Ahead = codes "--ahead"

-- its range and its unit
abbrev pub range_text : Ranged → List ℕ
range_text Target = codes "1 to 3600 seconds"
range_text Segment = codes "1 second to the target"
range_text Window = codes "1 to 10000 segments"
range_text Frame = codes "1 to 900000 ticks"
range_text Gap = codes "1 to 4294967295 ticks"
range_text Most = codes "1 to 1000000 packets"
range_text Program = codes "1 to 65535"
range_text Workers = codes "1 to 64"
range_text Queue = codes "1 to 256 segments"
range_text Batch = codes "1 to 256 segments"
range_text Stall = codes "1 to 86400 seconds"
range_text Ahead = codes "1 to 65536 MiB"

-- that its number is outside of it
abbrev pub outside_text : Ranged → List ℕ
outside_text option = option_word option ++ codes " is outside its range, " ++ range_text option

-- It was written of an option whose number is outside its range, while those that come before it are within theirs.
pub record TellsFirstOutside {W : Type 0} (took : W → List ℕ → W → Type 0) (numbers : Numbers) (pool : Pool) (f g : Formatter W) : Type 0 where
  pub option : Ranged
  pub outside : ¬ IsWithin option numbers pool
  pub first : AreWithinBefore option numbers pool
  pub written : IsPlainFormatter f → HasWritten took f (outside_text option) g

-- Whether it was written of an option, told with it: of this one, or nothing where there is none.
abbrev pub WritesOutside : {W : Type 0} → (W → List ℕ → W → Type 0) → Option Ranged → Bool → Formatter W → Formatter W → Type 0
WritesOutside took (Some option) told f g = (told ≡ true) × (IsPlainFormatter f → HasWritten took f (outside_text option) g)
WritesOutside took None told f g = (told ≡ false) × (g ≡ f)

-- a number of pixels that a side may have; what isn't a number is told elsewhere
abbrev pub MayBeSide : List ℕ → Type 0
MayBeSide text = (n : ℕ) → IsNumber text n → (1 ≤ n) × (n ≤ MOST_PIXELS)

-- a size whose sides round its first x may be
pub record MayBeSize (text : List ℕ) : Type 0 where
  pub parted : position_or_len (λ b. b == 120) text < length text
  pub width : MayBeSide (before_x text)
  pub height : MayBeSide (behind_x text)

-- what a rendition may be listed by
pub record IsListable (name codecs size : List ℕ) : Type 0 where
  pub name_is : is_name name ≡ true
  pub codecs_are : is_codecs codecs ≡ true
  pub size_is : MayBeSize size

-- why one can't be listed: by its name, else by its codecs, else by its size
abbrev pub TellsUnlistable : List ℕ → List ℕ → List ℕ → List ℕ → Type 0
TellsUnlistable name codecs size why =
    ((is_name name ≡ false) × (why ≡ codes "the name is not 1 to 64 bytes without control bytes, '/', '.' and ':', or it is 'master'"))
    ⊎ ((is_name name ≡ true) × (is_codecs codecs ≡ false)
    × (why ≡ codes "the codecs are not 1 to 128 printable ASCII bytes without a quotation mark"))
    ⊎ ((is_name name ≡ true) × (is_codecs codecs ≡ true) × (¬ MayBeSize size) × (why ≡ codes "a side of the size is outside 1 to 16384 pixels"))
