-- Words of keys, and the files that they name. Each word is 32 hex digits, or an @ and the name of the file that players fetch.
use Rattle.std.specs.Prelude.{◌≡◌, ⊤, ℕ, ◌+◌, ◌==◌, ◌<◌, ◌&&◌, ◌||◌, not, if◌then◌else◌, Bool, List, [], ◌∷◌, ◌++◌, map, length, take, is_some, get_or, Option, Some, None}
use Rattle.std.specs.List.{before_first, after_first}
use Rattle.commands.specs.declared.key_word.KeyWord.{KeyWord}
use Rattle.commands.specs.declared.key_word.KeyFileFault.{KeyFileFault}
use Rattle.commands.specs.declared.key_word.KeyFileFault.TheVariants.{Unread, BadKeyFile, NoMemory}
use Rattle.commands.specs.Hex.{bytes_of_hex, without_end}

-- the key in a file: its 16 bytes (RFC 8216, 4.3.2.4), or 32 hex digits with one LF behind them or none; None for all other bytes
abbrev pub key_of_file : List ℕ → Option (List ℕ)
key_of_file bytes = if length bytes == 16 then Some bytes else bytes_of_hex (without_end bytes)

abbrev pub before_at : List ℕ → List ℕ
before_at text = before_first (λ b. b == 64) text

abbrev pub behind_at : List ℕ → List ℕ
behind_at text = after_first (λ b. b == 64) text

-- the name of the file that a word names: what stands behind an @ that it begins with, if anything does
abbrev pub file_of : List ℕ → Option (List ℕ)
file_of text = if (length (before_at text) == 0) && not (length (behind_at text) == 0) then Some (behind_at text) else None

-- a word names a file, or is 32 hex digits
abbrev pub is_key_word : List ℕ → Bool
is_key_word text = is_some (file_of text) || is_some (bytes_of_hex text)

-- the first bytes of what a file may give: all of it, where they are fewer than `most`
pub record GivesFront (gives : List ℕ → Type 0) (most : ℕ) (bytes : List ℕ) : Type 0 where
  pub rest : List ℕ
  pub given : gives (bytes ++ rest)
  pub whole : length bytes < most → rest ≡ []

-- the key of a word of digits, or the one in the file of this name
abbrev pub IsKeyBy : (List ℕ → List ℕ → Type 0) → Option (List ℕ) → List ℕ → List ℕ → Type 0
IsKeyBy gives None text key = bytes_of_hex text ≡ Some key
IsKeyBy gives (Some name) text key = (bytes : List ℕ) × gives name bytes × (key_of_file bytes ≡ Some key)

-- a word tells this key, where files may give such bytes
abbrev pub TellsKey : (List ℕ → List ℕ → Type 0) → List ℕ → List ℕ → Type 0
TellsKey gives text key = IsKeyBy gives (file_of text) text key

-- each word tells its key, in their order
abbrev pub TellKeys : (List ℕ → List ℕ → Type 0) → List (List ℕ) → List (List ℕ) → Type 0
TellKeys gives [] [] = ⊤
TellKeys gives [] (key ∷ keys) = ⊥
TellKeys gives (text ∷ texts) [] = ⊥
TellKeys gives (text ∷ texts) (key ∷ keys) = TellsKey gives text key × TellKeys gives texts keys

-- a word of a key, and the number by which a fault of its file is told
pub record ToldWord : Type 0 where
  pub number : ℕ
  pub text : List ℕ

abbrev pub told : KeyWord → ToldWord
told word = record { number = word.number; text = word.text.now }

abbrev pub texts_of : List ToldWord → List (List ℕ)
texts_of words = map (λ word. word.text) words

-- the words of one option, each told by its place in it, from this number on
abbrev pub counted : ℕ → List (List ℕ) → List ToldWord
counted n [] = []
counted n (text ∷ texts) = record { number = n; text = text } ∷ counted (n + 1) texts

-- this holds of the file that a word names
pub record IsOfFile (holds : List ℕ → Type 0) (text : List ℕ) : Type 0 where
  pub name : List ℕ
  pub named : file_of text ≡ Some name
  pub holding : holds name

-- a file gave bytes that are no key
abbrev pub GivesNoKey : (List ℕ → List ℕ → Type 0) → List ℕ → Type 0
GivesNoKey gives name = (bytes : List ℕ) × gives name bytes × (key_of_file bytes ≡ None)

abbrev pub no_word : ToldWord
no_word = record { number = 0; text = [] }

-- All words before this place told keys, and this holds of the file that the word there names, which is told by this number.
pub record StopsAt (gives : List ℕ → List ℕ → Type 0) (holds : List ℕ → Type 0) (words : List ToldWord) (number : ℕ) : Type 0 where
  pub place : ℕ
  pub within : place < length words
  pub keys : List (List ℕ)
  pub before : TellKeys gives (take place (texts_of words)) keys
  pub number_is : number ≡ (get_or words place no_word).number
  pub stops : IsOfFile holds (get_or words place no_word).text

-- Why the keys of some words aren't all read: told of the first word that tells none.
abbrev pub IsKeyFault : (List ℕ → List ℕ → Type 0) → (List ℕ → Type 0) → (List ℕ → Type 0) → List ToldWord → KeyFileFault → Type 0
IsKeyFault gives refuses wants words Unread = (n : ℕ) × StopsAt gives refuses words n
IsKeyFault gives refuses wants words (BadKeyFile n) = StopsAt gives (GivesNoKey gives) words n
IsKeyFault gives refuses wants words NoMemory = (n : ℕ) × StopsAt gives wants words n
