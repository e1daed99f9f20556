-- Names of renditions, and codecs.
use Rattle.std.specs.Prelude.{ℕ, Bool, not, ◌&&◌, ◌==◌, nat_le, List, length, codes}
use Rattle.std.specs.List.{list_all}
use Rattle.std.specs.Str.{bytes_eq}

-- a byte that a name may have: no control, and none of '/', '.' and ':'
abbrev pub is_name_byte : ℕ → Bool
is_name_byte b = nat_le 0x20 b && not (b == 0x7F) && not (b == 47) && not (b == 46) && not (b == 58)

-- 1 to 64 such bytes, and not the name of the master playlist
unfoldable pub is_name : List ℕ → Bool
is_name name =
    nat_le 1 (length name) && nat_le (length name) 64 && list_all is_name_byte name && not (bytes_eq name (codes "master"))

-- a byte that a quoted string of printable ASCII may have (RFC 8216, 4.2)
abbrev pub is_quotable_byte : ℕ → Bool
is_quotable_byte b = nat_le 0x20 b && nat_le b 0x7E && not (b == 34)

-- 1 to 128 such bytes
unfoldable pub is_codecs : List ℕ → Bool
is_codecs codecs = nat_le 1 (length codecs) && nat_le (length codecs) 128 && list_all is_quotable_byte codecs
