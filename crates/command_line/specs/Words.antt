-- What the words of a command line give for an option.
use Rattle.std.specs.Prelude.{◌≡◌, ℕ, ◌<◌, ◌^◌, Bool, true, false, List, [], Option, Some, None, option_map, option_and_then, codes}
use Rattle.std.specs.Option.{unwrap_or}
use Rattle.std.specs.Str.Parse.{IsNumeral, digits_value, without_leading_plus}
use Rattle.clap.specs.declared.parser.matches.Found.{Found}
use Rattle.clap.specs.declared.parser.matches.ValueSource.{ValueSource}
use Rattle.clap.specs.declared.parser.matches.ValueSource.TheVariants.{DefaultValue, CommandLine}
use Rattle.commands.specs.declared.numbers.NumberWords.{NumberWords}
use Rattle.commands.specs.declared.pool.PoolWords.{PoolWords}
use Rattle.clap.specs.Words.{first_value, matched_of, one_text, raw_values}

-- the value is from the words of the command line, and no default
abbrev pub is_from_words : Option ValueSource → Bool
is_from_words None = false
is_from_words (Some DefaultValue) = false
is_from_words (Some CommandLine) = true

-- the option of this name stands among the words
abbrev pub is_given : Found → List ℕ → Bool
is_given found name = is_from_words (option_and_then (λ a. a.source) (matched_of found name))

-- its text, where it stands there
abbrev pub text_if : Bool → Option (List ℕ) → Option (List ℕ)
text_if true text = text
text_if false text = None

abbrev pub given_text : Found → List ℕ → Option (List ℕ)
given_text found name = text_if (is_given found name) (first_value found name)

-- the text of an option that has to be given
abbrev pub text_of : Found → List ℕ → List ℕ
text_of found name = unwrap_or (first_value found name) []

-- the texts of an option that may be given several times
abbrev pub texts_of : Found → List ℕ → List (List ℕ)
texts_of found name = unwrap_or (option_map raw_values (matched_of found name)) []

-- a text is this number: decimal digits, perhaps behind a plus, of a number below 2^64
abbrev pub IsNumber : List ℕ → ℕ → Type 0
IsNumber text n = IsNumeral 10 (without_leading_plus text) × (digits_value 10 (without_leading_plus text) ≡ n) × (n < 2 ^ 64)

-- what is read of a text: its number, or none where it is no such number
abbrev pub IsReadAs : List ℕ → Option ℕ → Type 0
IsReadAs text (Some n) = IsNumber text n
IsReadAs text None = (n : ℕ) → ¬ IsNumber text n

-- the number of an option, where it has a text
pub record IsNumberOf (found : Found) (name : List ℕ) (number : Option ℕ) : Type 0 where
  pub none : one_text found name ≡ None → number ≡ None
  pub read : (text : List ℕ) → one_text found name ≡ Some text → IsReadAs text number

-- the number of an option that stands among the words, else none
pub record IsGivenNumber (found : Found) (name : List ℕ) (number : Option ℕ) : Type 0 where
  pub absent : is_given found name ≡ false → number ≡ None
  pub given : is_given found name ≡ true → IsNumberOf found name number

-- whether an option without a value stands among the words
pub record IsFlagOf (found : Found) (name : List ℕ) (flag : Bool) : Type 0 where
  pub none : one_text found name ≡ None → flag ≡ false
  pub set : one_text found name ≡ Some (codes "true") → flag ≡ true
  pub unset : one_text found name ≡ Some (codes "false") → flag ≡ false

-- the numbers of a packager that stand among the words
pub record AreNumberWords (found : Found) (words : NumberWords) : Type 0 where
  pub target_is : IsGivenNumber found (codes "target") words.target
  pub segment_is : IsGivenNumber found (codes "segment") words.segment
  pub window_is : IsGivenNumber found (codes "window") words.window
  pub frame_is : IsGivenNumber found (codes "frame") words.frame
  pub gap_is : IsGivenNumber found (codes "gap") words.gap
  pub most_is : IsGivenNumber found (codes "most") words.most
  pub period_is : IsGivenNumber found (codes "period") words.period
  pub program_is : IsGivenNumber found (codes "program") words.program

-- the numbers of the threads that seal, and of reading ahead, that stand among them
pub record ArePoolWords (found : Found) (words : PoolWords) : Type 0 where
  pub workers_is : IsGivenNumber found (codes "workers") words.workers
  pub queue_is : IsGivenNumber found (codes "queue") words.queue
  pub batch_is : IsGivenNumber found (codes "batch") words.batch
  pub stall_is : IsGivenNumber found (codes "stall") words.stall
  pub ahead_is : IsGivenNumber found (codes "ahead") words.ahead
