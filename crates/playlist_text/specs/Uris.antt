-- URIs of the parts of a rendition, relative to its playlists (RFC 8216, 4.1).
use Rattle.std.specs.Prelude.{ℕ, ◌+◌, ◌/◌, ◌%◌, Bool, ◌&&◌, ◌||◌, ◌==◌, nat_le, nat_lt, if◌then◌else◌, List, [], ◌∷◌, ◌++◌, codes}
use Rattle.std.specs.List.{flat_map}
use Rattle.std.specs.Fmt.{decimal}

-- a letter, a digit, '-', '_' or '~'
abbrev pub is_plain : ℕ → Bool
is_plain b =
    (nat_le 65 b && nat_le b 90) || (nat_le 97 b && nat_le b 122) || (nat_le 48 b && nat_le b 57) || b == 45 || b == 95 || b == 126

-- a hex digit, the letters in upper case
abbrev pub upper_hex_digit : ℕ → ℕ
upper_hex_digit value = if nat_lt value 10 then 48 + value else 55 + value

-- a byte of a name: as it is, or '%' and its two hex digits
abbrev pub escaped_byte : ℕ → List ℕ
escaped_byte b =
    if is_plain b then b ∷ [] else 37 ∷ upper_hex_digit (b / 16) ∷ upper_hex_digit (b % 16) ∷ []

-- a name, escaped for a URI
unfoldable pub escaped : List ℕ → List ℕ
escaped name = flat_map escaped_byte name

-- segment n of the rendition of a name
unfoldable pub segment_uri : List ℕ → ℕ → List ℕ
segment_uri name number = escaped name ++ codes "." ++ decimal number ++ codes ".ts"

-- its key of an index
unfoldable pub key_uri : List ℕ → ℕ → List ℕ
key_uri name index = escaped name ++ codes "." ++ decimal index ++ codes ".key"

-- its media playlist
unfoldable pub media_uri : List ℕ → List ℕ
media_uri name = escaped name ++ codes ".m3u8"

-- its playlist of I-frames
unfoldable pub frames_uri : List ℕ → List ℕ
frames_uri name = escaped name ++ codes ".iframes.m3u8"

-- the master playlist
abbrev pub master_uri : List ℕ
master_uri = codes "master.m3u8"
