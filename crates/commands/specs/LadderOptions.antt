-- The settings of a ladder, of its entries and numbers.
use Rattle.std.specs.Prelude.{◌≡◌, ◌≢◌, ℕ, ◌+◌, ◌<◌, ◌≤◌, ◌⊎◌, Bool, List, [], ◌∷◌, ◌++◌, map, length, All, Any, Option, None}
use Rattle.std.specs.Option.{option_map}
use Rattle.ladder_items.specs.Ladder.{Ladder, RenditionValue, IsAllowed}
use Rattle.commands.specs.declared.numbers.Numbers.{Numbers}
use Rattle.commands.specs.declared.pool.Pool.{Pool}
use Rattle.commands.specs.declared.ladder_options.LadderWords.{LadderWords}
use Rattle.commands.specs.declared.ladder_options.LadderOptions.{LadderOptions}
use Rattle.commands.specs.Entries.{Entry, entry_of, HasGoodParts, IsGood, IsFirstBad}
use Rattle.commands.specs.Hex.{chosen_salt}
use Rattle.commands.specs.declared.ladder_fault.LadderFault.{LadderFault}
use Rattle.commands.specs.declared.ladder_fault.LadderFault.TheVariants.{Settings as Outside, Unread, BadKeyFile, NoMemory}
use Rattle.commands.specs.KeyFiles.{GivesNoKey, StopsAt, TellKeys, ToldWord, texts_of}
use Rattle.commands.specs.KeyLists.{key_texts}
use Rattle.commands.specs.Pools.{IsPool}
use Rattle.commands.specs.Settings.{Words, IsRenditionOf, FitsCut, cut_of, kind_of}
use Rattle.limits.specs.declared.TheConstants.{MOST_KEYS}

-- what is asked for: a text for each rendition, and what they share
pub record Asked : Type 0 where
  pub entries : List (List ℕ)
  pub salt : Option (List ℕ)
  pub event : Bool
  pub numbers : Numbers
  pub pool : Pool

abbrev pub asked_of : LadderWords → Numbers → Pool → Asked
asked_of words numbers pool = record {
  entries = map (λ t. t.now) words.entries.now;
  salt = option_map (λ t. t.now) words.salt;
  event = words.event;
  numbers = numbers;
  pool = pool;
}

-- the entry of this number, counted from 1, isn't good, and all before it are
pub record IsBadEntry (asked : Asked) (n : ℕ) : Type 0 where
  pub place : ℕ
  pub number : n ≡ place + 1
  pub bad : IsFirstBad asked.entries place

-- all entries are good, and the salt isn't 32 hex digits
pub record HasBadSalt (asked : Asked) : Type 0 where
  pub good : All IsGood asked.entries
  pub bad : chosen_salt asked.salt ≡ None

-- all entries are good, and the salt is 32 hex digits, or there is none
pub record HasTexts (asked : Asked) : Type 0 where
  pub good : All IsGood asked.entries
  pub salt : chosen_salt asked.salt ≢ None

-- how many keys an entry tells
abbrev pub key_count : List ℕ → ℕ
key_count text = length (key_texts (entry_of text).keys)

-- the texts are good, and some entry has more than 4,096 keys
pub record HasTooMany (asked : Asked) : Type 0 where
  pub texts : HasTexts asked
  pub many : Any (λ text. MOST_KEYS < key_count text) asked.entries

-- the texts are good, and no entry has more keys
pub record HasKeys (asked : Asked) : Type 0 where
  pub texts : HasTexts asked
  pub few : All (λ text. key_count text ≤ MOST_KEYS) asked.entries

-- besides, the keys take turns after no segment
pub record HasNoPeriod (asked : Asked) : Type 0 where
  pub keys : HasKeys asked
  pub zero : asked.numbers.period ≡ 0

-- or after some
pub record HasTurns (asked : Asked) : Type 0 where
  pub keys : HasKeys asked
  pub some : 0 < asked.numbers.period

-- an entry of good parts, with at most 4,096 keys
pub record IsWhole (entry : Entry) : Type 0 where
  pub parts : HasGoodParts entry
  pub few : length (key_texts entry.keys) ≤ MOST_KEYS

-- the words of a rendition: those of its entry, and what all share
abbrev pub entry_words : Option (List ℕ) → Bool → Entry → Words
entry_words salt event entry = record {
  name = entry.name;
  codecs = entry.codecs;
  size = entry.size;
  keys = entry.keys;
  salt = salt;
  event = event;
}

-- these texts, each told by one number
abbrev pub numbered : ℕ → List (List ℕ) → List ToldWord
numbered n texts = map (λ text. record { number = n; text = text }) texts

-- the words of the keys of all entries, each told by its entry's number, the first entry's being n
abbrev pub key_words : ℕ → List Entry → List ToldWord
key_words n [] = []
key_words n (entry ∷ rest) = numbered n (key_texts entry.keys) ++ key_words (n + 1) rest

-- how many they are
abbrev pub key_total : List Entry → ℕ
key_total [] = 0
key_total (entry ∷ rest) = length (key_texts entry.keys) + key_total rest

abbrev pub asked_words : Asked → List ToldWord
asked_words asked = key_words 1 (map entry_of asked.entries)

-- a rendition of each entry with its keys, in their order
abbrev pub AreRenditionsOf : (Entry → Words) → ℕ → List Entry → List (List (List ℕ)) → List RenditionValue → Type 0
AreRenditionsOf words turns [] [] [] = Unit {0}
AreRenditionsOf words turns [] [] (made ∷ more) = ⊥
AreRenditionsOf words turns [] (own ∷ shares) made = ⊥
AreRenditionsOf words turns (entry ∷ rest) [] made = ⊥
AreRenditionsOf words turns (entry ∷ rest) (own ∷ shares) [] = ⊥
AreRenditionsOf words turns (entry ∷ rest) (own ∷ shares) (made ∷ more) =
    IsRenditionOf (words entry) turns own made × AreRenditionsOf words turns rest shares more

abbrev pub joined : List (List (List ℕ)) → List (List ℕ)
joined [] = []
joined (own ∷ shares) = own ++ joined shares

-- a rendition of each entry, in their order, each with as many of these keys as its entry has words of keys
pub record ShareKeys (words : Entry → Words) (turns : ℕ) (entries : List Entry) (keys : List (List ℕ)) (made : List RenditionValue) : Type 0 where
  pub shares : List (List (List ℕ))
  pub all : joined shares ≡ keys
  pub each : AreRenditionsOf words turns entries shares made

-- the ladder that is asked for, under these keys, cut, listed and sealed by these numbers
pub record IsAskedLadder (asked : Asked) (keys : List (List ℕ)) (made : Ladder) : Type 0 where
  pub renditions_are : ShareKeys (entry_words asked.salt asked.event) asked.numbers.period (map entry_of asked.entries) keys made.renditions
  pub cut_is : made.cut ≡ cut_of asked.numbers
  pub kind_is : made.kind ≡ kind_of asked.event
  pub window_is : made.window ≡ asked.numbers.window
  pub queue_is : made.queue ≡ asked.pool.queue

-- numbers that there is room for, within their limits, and a ladder that is allowed
pub record IsWithin (asked : Asked) (made : Ladder) : Type 0 where
  pub cut_fits : FitsCut asked.numbers
  pub pool_fits : IsPool asked.pool
  pub allowed : IsAllowed made

-- the words tell a ladder, which isn't within its limits, whatever its keys are
pub record IsOutside (asked : Asked) : Type 0 where
  pub turns : HasTurns asked
  pub outside : (keys : List (List ℕ)) (made : Ladder) → IsAskedLadder asked keys made → ¬ IsWithin asked made

-- the words tell a ladder that is within its limits
pub record IsInside (asked : Asked) : Type 0 where
  pub turns : HasTurns asked
  pub keys : List (List ℕ)
  pub made : Ladder
  pub ladder_is : IsAskedLadder asked keys made
  pub within : IsWithin asked made

-- the ladder that is asked for, with the keys that its entries tell, where files may give such bytes, within its limits
pub record IsReadLadder (gives : List ℕ → List ℕ → Type 0) (asked : Asked) (made : Ladder) : Type 0 where
  pub keys : List (List ℕ)
  pub told : TellKeys gives (texts_of (asked_words asked)) keys
  pub ladder_is : IsAskedLadder asked keys made
  pub within : IsWithin asked made

-- the ladder is within its limits, and the file of the first key that none is told of was refused
pub record HasUnreadKey (gives : List ℕ → List ℕ → Type 0) (refuses : List ℕ → Type 0) (asked : Asked) : Type 0 where
  pub inside : IsInside asked
  pub number : ℕ
  pub stops : StopsAt gives refuses (asked_words asked) number

-- the ladder is within its limits, and the first key file that holds no key is one of the entry of this number, counted from 1
pub record HasBadKeyFile (gives : List ℕ → List ℕ → Type 0) (asked : Asked) (number : ℕ) : Type 0 where
  pub inside : IsInside asked
  pub stops : StopsAt gives (GivesNoKey gives) (asked_words asked) number

-- a fault that no text of a ladder's words has
abbrev pub IsBehindTexts : LadderFault → Type 0
IsBehindTexts fault = (fault ≡ Outside) ⊎ (fault ≡ Unread) ⊎ ((n : ℕ) × (fault ≡ BadKeyFile n)) ⊎ (fault ≡ NoMemory)

-- what is asked for, with the keys that its entries tell, and each entry's path
pub record AreOptionsOf (gives : List ℕ → List ℕ → Type 0) (asked : Asked) (options : LadderOptions) : Type 0 where
  pub turns : HasTurns asked
  pub ladder_is : IsReadLadder gives asked options.settings
  pub pool_is : options.pool ≡ asked.pool
  pub paths_are : map (λ t. t.now) options.paths.items ≡ map (λ text. (entry_of text).path) asked.entries
