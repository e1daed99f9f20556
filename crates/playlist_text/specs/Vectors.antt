-- The initialization vectors of segments.
use Rattle.std.specs.Prelude.{ℕ, List, Option, Some, None}
use Rattle.std.specs.Int.{to_be_bytes, from_be_bytes, w128}
use Rattle.std.specs.Int.Bits.{bit_xor}

-- the vector of segment n: its number in 16 bytes, big-endian, zeros in front (RFC 8216, 5.2)
abbrev pub vector : ℕ → List ℕ
vector n = to_be_bytes w128 n

-- the vector of segment n under a salt of 16 bytes: both are numbers, big-endian, and the vector is their exclusive or, in
-- 16 bytes. No salt is one of zeros.
abbrev pub salted_vector : Option (List ℕ) → ℕ → List ℕ
salted_vector None n = vector n
salted_vector (Some salt) n = to_be_bytes w128 (bit_xor (from_be_bytes w128 salt) n)
