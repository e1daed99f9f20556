-- Bit strings and numbers as the standard's syntax tables have them: the left bit first (ISO/IEC 13818-1, 2.2.6).
use Rattle.std.specs.Prelude.{ℕ, ◌+◌, ◌-◌, ◌*◌, ◌/◌, ◌%◌, ◌^◌, ◌==◌, Bool, List, length, fold}

-- the bytes as one number, the first byte the most significant
abbrev pub number : List ℕ → ℕ
number bytes = fold (λ high byte. high * 256 + byte) 0 bytes

-- the number in the `width` bits behind the first `skip` bits of the bytes
abbrev pub bits : List ℕ → ℕ → ℕ → ℕ
bits bytes skip width = number bytes / 2 ^ (8 * length bytes - skip - width) % 2 ^ width

-- whether the one bit behind the first `skip` bits is set
abbrev pub flag : List ℕ → ℕ → Bool
flag bytes skip = bits bytes skip 1 == 1
