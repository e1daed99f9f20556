-- The entries of a ladder: each one word of five parts, with a colon behind each of the first four.
use Rattle.std.specs.Prelude.{◌≡◌, ℕ, ◌==◌, ◌<◌, true, List, [], length, slice_index_or}
use Rattle.std.specs.List.{before_first, after_first, position_or_len}
use Rattle.commands.specs.declared.entry.EntryWords.{EntryWords}
use Rattle.commands.specs.KeyLists.{are_keys}
use Rattle.commands.specs.Sizes.{HasSize}

abbrev pub before_colon : List ℕ → List ℕ
before_colon text = before_first (λ b. b == 58) text

abbrev pub behind_colon : List ℕ → List ℕ
behind_colon text = after_first (λ b. b == 58) text

abbrev pub HasColon : List ℕ → Type 0
HasColon text = position_or_len (λ b. b == 58) text < length text

-- what an entry tells: all parts but the last one have no colon
pub record Entry : Type 0 where
  pub name : List ℕ
  pub codecs : List ℕ
  pub size : List ℕ
  pub keys : List ℕ
  pub path : List ℕ

abbrev pub entry_value : EntryWords → Entry
entry_value words = record {
  name = words.name.now;
  codecs = words.codecs.now;
  size = words.size.now;
  keys = words.keys.now;
  path = words.path.now;
}

-- what stands behind the first colons of a text
abbrev pub behind_two : List ℕ → List ℕ
behind_two text = behind_colon (behind_colon text)

abbrev pub behind_three : List ℕ → List ℕ
behind_three text = behind_colon (behind_two text)

-- a text cut at its first four colons
abbrev pub entry_of : List ℕ → Entry
entry_of text = record {
  name = before_colon text;
  codecs = before_colon (behind_colon text);
  size = before_colon (behind_two text);
  keys = before_colon (behind_three text);
  path = behind_colon (behind_three text);
}

pub record HasFourColons (text : List ℕ) : Type 0 where
  pub first : HasColon text
  pub second : HasColon (behind_colon text)
  pub third : HasColon (behind_two text)
  pub fourth : HasColon (behind_three text)

-- an entry with a size, and with keys that name files or are 32 hex digits
pub record HasGoodParts (entry : Entry) : Type 0 where
  pub size_is : HasSize entry.size
  pub keys_are : are_keys entry.keys ≡ true

-- a text of four colons at least, with these parts
pub record IsGood (text : List ℕ) : Type 0 where
  pub colons : HasFourColons text
  pub parts : HasGoodParts (entry_of text)

-- the entry at this place isn't good, and all before it are
pub record IsFirstBad (texts : List (List ℕ)) (place : ℕ) : Type 0 where
  pub within : place < length texts
  pub before : (k : ℕ) → k < place → IsGood (slice_index_or texts k [])
  pub bad : ¬ IsGood (slice_index_or texts place [])
