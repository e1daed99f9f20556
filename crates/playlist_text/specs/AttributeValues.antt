-- The text of an attribute and of its value.
use Rattle.std.specs.Prelude.{◌≡◌, ℕ, Bool, true, false, List, All}
use Rattle.std.specs.Fmt.{decimal}
use Rattle.playlist_text.specs.declared.attribute.Value.{Value}
use Rattle.playlist_text.specs.declared.attribute.Value.TheVariants.{Decimal, Hexadecimal, Quoted, Enumerated, Resolution}
use Rattle.playlist_text.specs.declared.attribute.Attribute.{Attribute}
use Rattle.playlist_text.specs.Attributes.{quoted, hexadecimal, resolution, attribute}

-- the text of a value
abbrev pub value_text : Value → List ℕ
value_text (Decimal number) = decimal number
value_text (Hexadecimal bytes) = hexadecimal bytes.now
value_text (Quoted text) = quoted text.now
value_text (Enumerated text) = text.now
value_text (Resolution width height) = resolution width height

-- a hexadecimal sequence, which is written by a text of its own
abbrev pub is_hexadecimal : Value → Bool
is_hexadecimal (Decimal number) = false
is_hexadecimal (Hexadecimal bytes) = true
is_hexadecimal (Quoted text) = false
is_hexadecimal (Enumerated text) = false
is_hexadecimal (Resolution width height) = false

-- none of these attributes has one
abbrev pub HaveNoHexadecimal : List Attribute → Type 0
HaveNoHexadecimal attributes = All (λ a. is_hexadecimal a.value ≡ false) attributes

-- the text of an attribute
abbrev pub attribute_text : Attribute → List ℕ
attribute_text a = attribute a.name.now (value_text a.value)
