-- Attribute lists (RFC 8216, 4.2).
use Rattle.std.specs.Prelude.{ℕ, List, ◌++◌, codes}
use Rattle.std.specs.List.{join_with_byte}
use Rattle.std.specs.Fmt.{decimal}
use Rattle.hex.specs.Hex.{encode_upper}

-- a quoted string
unfoldable pub quoted : List ℕ → List ℕ
quoted text = codes "\"" ++ text ++ codes "\""

-- bytes as a hexadecimal sequence, in upper case
unfoldable pub hexadecimal : List ℕ → List ℕ
hexadecimal bytes = codes "0x" ++ encode_upper bytes

-- a width and a height
unfoldable pub resolution : ℕ → ℕ → List ℕ
resolution width height = decimal width ++ codes "x" ++ decimal height

-- a name and its value
abbrev pub attribute : List ℕ → List ℕ → List ℕ
attribute name value = name ++ codes "=" ++ value

-- attributes with a comma between two of them
unfoldable pub attribute_list : List (List ℕ) → List ℕ
attribute_list attributes = join_with_byte 44 attributes
