-- The words of a key and a vector.
use Rattle.std.specs.Prelude.{◌≡◌, ◌≢◌, ℕ, true, List, Option, None}
use Rattle.std.specs.Option.{option_map}
use Rattle.commands.specs.declared.cipher.CipherWords.{CipherWords as WordsOfCipher}
use Rattle.commands.specs.Hex.{chosen_vector}
use Rattle.commands.specs.KeyFiles.{is_key_word}

-- a key, the number of a segment, and a vector, as texts
pub record KeyAndVector : Type 0 where
  pub key : List ℕ
  pub seq : Option ℕ
  pub iv : Option (List ℕ)

abbrev pub cipher_words : WordsOfCipher → KeyAndVector
cipher_words words = record { key = words.key.now; seq = words.seq; iv = option_map (λ t. t.now) words.iv }

-- the key names a file or is 32 hex digits, and there is one vector
pub record AreGood (words : KeyAndVector) : Type 0 where
  pub key_is : is_key_word words.key ≡ true
  pub vector_is : chosen_vector words.seq words.iv ≢ None
