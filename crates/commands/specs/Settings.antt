-- A packager's settings of words and numbers.
use Rattle.std.specs.Prelude.{◌≡◌, ◌≢◌, ◌⊎◌, ℕ, ◌*◌, ◌<◌, ◌≤◌, ◌^◌, Bool, true, false, List, [], ◌∷◌, length, Option, Some, None}
use Rattle.std.specs.Option.{unwrap_or, option_map}
use Rattle.cutter.specs.declared.settings.CutSettings.{CutSettings}
use Rattle.ladder_items.specs.declared.settings.Kind.{Kind}
use Rattle.ladder_items.specs.declared.settings.Kind.TheVariants.{Live, Event}
use Rattle.ladder_items.specs.Ladder.{Ladder, RenditionValue, IsAllowed, IsNew}
use Rattle.commands.specs.declared.numbers.Numbers.{Numbers}
use Rattle.commands.specs.declared.settings.PackingWords.{PackingWords}
use Rattle.commands.specs.declared.settings.SettingsFault.{SettingsFault}
use Rattle.commands.specs.declared.settings.SettingsFault.TheVariants.{Settings as Outside, Unread, BadKeyFile, NoMemory}
use Rattle.commands.specs.Defaults.{name_of}
use Rattle.commands.specs.Hex.{chosen_salt}
use Rattle.commands.specs.KeyFiles.{TellKeys}
use Rattle.commands.specs.KeyLists.{are_keys, key_texts}
use Rattle.commands.specs.Sizes.{HasSize, IsSize}
use Rattle.limits.specs.declared.TheConstants.{TICKS, MOST_PROGRAM, MOST_KEYS}

-- the seconds of a segment in ticks
abbrev pub segment_ticks : Numbers → ℕ
segment_ticks numbers = numbers.segment * TICKS

-- numbers that a cutter's settings have room for
pub record FitsCut (numbers : Numbers) : Type 0 where
  pub program : unwrap_or numbers.program 0 ≤ MOST_PROGRAM
  pub segment : segment_ticks numbers < 2 ^ 64

-- how streams are cut by these numbers
abbrev pub cut_of : Numbers → CutSettings
cut_of numbers = record {
  program = numbers.program;
  segment = segment_ticks numbers;
  target = numbers.target;
  gap = numbers.gap;
  frame = numbers.frame;
  most = numbers.most;
}

-- keys that may take turns by this period
abbrev pub TakeTurns : List (List ℕ) → ℕ → Type 0
TakeTurns keys period = (length keys ≤ MOST_KEYS) × (0 < period)

-- the words of a packager of one rendition, as texts
pub record Words : Type 0 where
  pub name : List ℕ
  pub codecs : List ℕ
  pub size : List ℕ
  pub keys : List ℕ
  pub salt : Option (List ℕ)
  pub event : Bool

abbrev pub words_of : PackingWords → Words
words_of words = record {
  name = name_of (option_map (λ t. t.now) words.name);
  codecs = words.codecs.now;
  size = words.size.now;
  keys = words.keys.now;
  salt = option_map (λ t. t.now) words.salt;
  event = words.event;
}

-- the salt is 32 hex digits, or there is none
abbrev pub HasSalt : Words → Type 0
HasSalt words = chosen_salt words.salt ≢ None

-- keys that name files or are 32 hex digits each, a size and a salt, as it may be, and keys that may take turns
pub record AreGoodWords (words : Words) (turns : ℕ) : Type 0 where
  pub keys_are : are_keys words.keys ≡ true
  pub size_is : HasSize words.size
  pub salt_is : HasSalt words
  pub turns_are : TakeTurns (key_texts words.keys) turns

-- playlists of an event, or that slide
abbrev pub kind_of : Bool → Kind
kind_of true = Event
kind_of false = Live

-- a rendition of these words and as many keys, which take turns by this period and hold its salt, and of which nothing came before
pub record IsRenditionOf (words : Words) (turns : ℕ) (keys : List (List ℕ)) (made : RenditionValue) : Type 0 where
  pub name_is : made.name ≡ words.name
  pub codecs_are : made.codecs ≡ words.codecs
  pub size_is : IsSize words.size made.width made.height
  pub number_is : length keys ≡ length (key_texts words.keys)
  pub keys_are : made.keys.keys ≡ keys
  pub period_is : made.keys.period ≡ turns
  pub salt_is : chosen_salt words.salt ≡ Some made.salt
  pub held_is : made.keys.salt ≡ made.salt
  pub is_new : IsNew made

-- the settings of one rendition with these keys, cut and listed by these numbers
pub record IsLadderOf (words : Words) (numbers : Numbers) (keys : List (List ℕ)) (made : Ladder) : Type 0 where
  pub rendition : RenditionValue
  pub alone : made.renditions ≡ rendition ∷ []
  pub rendition_is : IsRenditionOf words numbers.period keys rendition
  pub cut_is : made.cut ≡ cut_of numbers
  pub kind_is : made.kind ≡ kind_of words.event
  pub window_is : made.window ≡ numbers.window
  pub queue_is : made.queue ≡ 1

-- the words are good, and there is room for the numbers
abbrev pub AreFit : Words → Numbers → Type 0
AreFit words numbers = AreGoodWords words numbers.period × FitsCut numbers

-- the words tell settings, which aren't within their limits, whatever the keys are
pub record AreOutside (words : Words) (numbers : Numbers) : Type 0 where
  pub good : AreGoodWords words numbers.period
  pub outside : (keys : List (List ℕ)) (made : Ladder) → IsLadderOf words numbers keys made → FitsCut numbers → ¬ IsAllowed made

-- the words tell settings that are within their limits
pub record AreInside (words : Words) (numbers : Numbers) : Type 0 where
  pub fit : AreFit words numbers
  pub keys : List (List ℕ)
  pub made : Ladder
  pub ladder_is : IsLadderOf words numbers keys made
  pub allowed : IsAllowed made

-- a fault that no text of a rendition's words has
abbrev pub IsBehindWords : SettingsFault → Type 0
IsBehindWords fault = (fault ≡ Outside) ⊎ (fault ≡ Unread) ⊎ ((n : ℕ) × (fault ≡ BadKeyFile n)) ⊎ (fault ≡ NoMemory)

-- the settings of one rendition, with the keys that its words tell, where files may give such bytes, within their limits
pub record IsReadLadderOf (gives : List ℕ → List ℕ → Type 0) (words : Words) (numbers : Numbers) (made : Ladder) : Type 0 where
  pub keys : List (List ℕ)
  pub told : TellKeys gives (key_texts words.keys) keys
  pub ladder : IsLadderOf words numbers keys made
  pub allowed : IsAllowed made
