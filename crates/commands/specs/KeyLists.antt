-- The keys of a rendition, as one word tells them.
use Rattle.std.specs.Prelude.{◌≡◌, ℕ, ◌==◌, Bool, true, List}
use Rattle.std.specs.List.{slice_split, list_all}
use Rattle.commands.specs.KeyFiles.{GivesNoKey, StopsAt, counted, is_key_word}

-- the texts with a plus between them
abbrev pub key_texts : List ℕ → List (List ℕ)
key_texts text = slice_split (λ b. b == 43) text

-- each of them names a file or is 32 hex digits
abbrev pub are_keys : List ℕ → Bool
are_keys text = list_all is_key_word (key_texts text)

-- each text names a file or is digits, and the file of the first that tells no key was refused
pub record IsUnreadKey (gives : List ℕ → List ℕ → Type 0) (refuses : List ℕ → Type 0) (text : List ℕ) : Type 0 where
  pub words : are_keys text ≡ true
  pub place : ℕ
  pub stops : StopsAt gives refuses (counted 1 (key_texts text)) place

-- each text names a file or is digits, and the file of this one, counted from 1, is the first that holds no key
pub record IsBadKeyFile (gives : List ℕ → List ℕ → Type 0) (text : List ℕ) (place : ℕ) : Type 0 where
  pub words : are_keys text ≡ true
  pub stops : StopsAt gives (GivesNoKey gives) (counted 1 (key_texts text)) place
