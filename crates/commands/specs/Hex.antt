-- Texts of hex digits, as keys, vectors and lines have them.
use Rattle.std.specs.Prelude.{ℕ, ◌-◌, ◌==◌, if◌then◌else◌, List, length, take, slice_index, Option, Some, None}
use Rattle.std.specs.Option.{option_map}
use Rattle.std.specs.Result.{result_ok}
use Rattle.hex.specs.Hex.{decode_sized}
use Rattle.playlist_text.specs.Vectors.{vector}

-- the 16 bytes that 32 hex digits of either case stand for; None for any other text
abbrev pub bytes_of_hex : List ℕ → Option (List ℕ)
bytes_of_hex text = result_ok (decode_sized text 16)

-- the vector that exactly one of the two ways gives: a segment's number, or 32 hex digits
abbrev pub chosen_vector : Option ℕ → Option (List ℕ) → Option (List ℕ)
chosen_vector (Some number) None = Some (vector number)
chosen_vector None (Some text) = bytes_of_hex text
chosen_vector None None = None
chosen_vector (Some number) (Some text) = None

-- the salt that a word of 32 hex digits gives, or that there is none where there is no word; None for any other text
abbrev pub chosen_salt : Option (List ℕ) → Option (Option (List ℕ))
chosen_salt None = Some None
chosen_salt (Some text) = option_map (λ salt. Some salt) (bytes_of_hex text)

-- without one last LF, where there is one
abbrev pub without_end : List ℕ → List ℕ
without_end text = if slice_index text (length text - 1) == 10 then take (length text - 1) text else text
