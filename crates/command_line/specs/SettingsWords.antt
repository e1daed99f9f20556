-- What an explanation says of settings that aren't allowed, by what was found for the options of a command: the first option whose number is outside
-- its range, where a packager's numbers come before those of the pool; else why the rendition, or the first entry of a ladder that can't be listed,
-- can't.
use Rattle.std.specs.Prelude.{ℕ, ◌+◌, ◌^◌, ◌==◌, ◌&&◌, nat_lt, nat_le, not, Bool, true, cond, if◌then◌else◌, List, [], ◌∷◌, ◌++◌, length, Option, Some, None, option_map, option_and_then, codes, decimal, bytes_eq}
use Rattle.std.specs.List.{list_any, position_or_len}
use Rattle.std.specs.Option.{unwrap_or}
use Rattle.std.specs.Str.{all_ascii_digits}
use Rattle.std.specs.Str.Parse.{digits_value, without_leading_plus}
use Rattle.clap.specs.declared.parser.matches.Found.{Found}
use Rattle.clap.specs.Words.{matched_of, one_text, raw_values}
use Rattle.limits.specs.declared.TheConstants.{MOST_PIXELS, MOST_RENDITIONS}
use Rattle.playlist_text.specs.Names.{is_codecs, is_name}
use Rattle.commands.specs.declared.numbers.NumberWords.{NumberWords}
use Rattle.commands.specs.declared.outside.Ranged.{Ranged}
use Rattle.commands.specs.declared.pool.PoolWords.{PoolWords}
use Rattle.commands.specs.Defaults.{name_of, numbers_of}
use Rattle.commands.specs.Entries.{Entry, entry_of}
use Rattle.commands.specs.Pools.{pool_of}
use Rattle.commands.specs.Ranges.{outside_of}
use Rattle.commands.specs.Sizes.{before_x, behind_x}
use Rattle.command_line.specs.EntryTexts.{has_four_colons, parts_of}
use Rattle.command_line.specs.Explanations.{outside_text}
use Rattle.command_line.specs.Words.{given_text, is_given, text_of}

-- decimal digits, perhaps behind a plus, of a number below 2^64
abbrev pub is_number : List ℕ → Bool
is_number text =
    nat_lt 0 (length (without_leading_plus text)) && all_ascii_digits (without_leading_plus text) && nat_lt (digits_value 10 (without_leading_plus text)) (2 ^ 64)

-- the number of a text; none of another
unfoldable pub number_in : List ℕ → Option ℕ
number_in text = cond (is_number text) (Some (digits_value 10 (without_leading_plus text))) None

-- the number of an option that stands among the words
unfoldable pub given_number : Found → List ℕ → Option ℕ
given_number found name = cond (is_given found name) (option_and_then number_in (one_text found name)) None

-- the numbers of a packager that stand there
abbrev pub number_words : Found → NumberWords
number_words found = record {
  target = given_number found (codes "target");
  segment = given_number found (codes "segment");
  window = given_number found (codes "window");
  frame = given_number found (codes "frame");
  gap = given_number found (codes "gap");
  most = given_number found (codes "most");
  period = given_number found (codes "period");
  program = given_number found (codes "program");
}

-- those of the threads that seal, and of reading ahead
abbrev pub pool_words : Found → PoolWords
pool_words found = record {
  workers = given_number found (codes "workers");
  queue = given_number found (codes "queue");
  batch = given_number found (codes "batch");
  stall = given_number found (codes "stall");
  ahead = given_number found (codes "ahead");
}

-- the first option whose number is outside its range
unfoldable pub outside : Found → Option Ranged
outside found = outside_of (numbers_of (number_words found)) (pool_of (pool_words found))

-- a side of a size may have so many pixels; what isn't a number is told elsewhere
abbrev pub is_side : Option ℕ → Bool
is_side None = true
is_side (Some n) = nat_le 1 n && nat_le n MOST_PIXELS

-- so may both sides round its first x
unfoldable pub may_be_size : List ℕ → Bool
may_be_size text =
    nat_lt (position_or_len (λ b. b == 120) text) (length text) && is_side (number_in (before_x text)) && is_side (number_in (behind_x text))

-- what a rendition can't be listed by: its name, else its codecs, else its size
unfoldable pub unlistable : List ℕ → List ℕ → List ℕ → Option (List ℕ)
unlistable name codecs size =
    if not (is_name name) then Some (codes "the name is not 1 to 64 bytes without control bytes, '/', '.' and ':', or it is 'master'")
    else if not (is_codecs codecs) then Some (codes "the codecs are not 1 to 128 printable ASCII bytes without a quotation mark")
    else if not (may_be_size size) then Some (codes "a side of the size is outside 1 to 16384 pixels")
    else None

-- why the rendition of `one` can't be listed
abbrev pub rendition_words : List ℕ → List ℕ → List ℕ → List ℕ
rendition_words name codecs size = unwrap_or (unlistable name codecs size) (codes "an option is outside its range")

-- one of these texts is an entry of this name
abbrev pub is_named : List ℕ → List ℕ → Bool
is_named name text = has_four_colons text && bytes_eq (entry_of text).name name

unfoldable pub is_among : List ℕ → List (List ℕ) → Bool
is_among name texts = list_any (is_named name) texts

-- why the entry of this number and this name can't be listed behind these: by what it can't be listed alone, else by its name
abbrev pub entry_why : Option (List ℕ) → List (List ℕ) → ℕ → List ℕ → Option (List ℕ)
entry_why (Some why) before number name = Some (codes "entry " ++ decimal number ++ codes ": " ++ why)
entry_why None before number name = cond (is_among name before) (Some (codes "entry " ++ decimal number ++ codes " has the name of an earlier one, " ++ name)) None

-- nothing of a text that has no four colons
abbrev pub parts_why : Option Entry → List (List ℕ) → ℕ → Option (List ℕ)
parts_why None before number = None
parts_why (Some entry) before number = entry_why (unlistable entry.name entry.codecs entry.size) before number entry.name

-- the first, where it is there
abbrev pub first_of : Option (List ℕ) → Option (List ℕ) → Option (List ℕ)
first_of (Some why) rest = Some why
first_of None rest = rest

-- why the first of these entries that can't be listed behind those before it can't
unfoldable pub first_why : List (List ℕ) → List (List ℕ) → Option (List ℕ)
first_why before [] = None
first_why before (text ∷ texts) = first_of (parts_why (parts_of text) before (length before + 1)) (first_why (before ++ text ∷ []) texts)

-- why the entries of a ladder can't be listed together
unfoldable pub entries_words : List (List ℕ) → List ℕ
entries_words texts =
    if nat_lt MOST_RENDITIONS (length texts) then codes "there are more than " ++ decimal MOST_RENDITIONS ++ codes " entries"
    else unwrap_or (first_why [] texts) (codes "an option is outside its range")

-- .. of a ladder where there are entries, else of one rendition
abbrev pub listing_words : Option (List (List ℕ)) → Found → List ℕ
listing_words (Some texts) found = entries_words texts
listing_words None found = rendition_words (name_of (given_text found (codes "name"))) (text_of found (codes "codecs")) (text_of found (codes "size"))

abbrev pub words_outside : Option Ranged → Found → List ℕ
words_outside (Some option) found = outside_text option
words_outside None found = listing_words (option_map raw_values (matched_of found (codes "entries"))) found

-- why settings aren't allowed
unfoldable pub settings_words : Found → List ℕ
settings_words found = words_outside (outside found) found
