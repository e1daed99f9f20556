-- Bytes in the tower GF((2^4)^2), in which the S-box is looked up half by half.
use Rattle.std.specs.Prelude.{ℕ, ◌/◌, ◌%◌, bit_xor}
use Rattle.aes_cbc.specs.Field.{times}
use Rattle.aes_cbc.specs.SubByte.{sub_byte}
use Rattle.aes_cbc.specs.Look.{look}
use Rattle.aes_cbc.specs.declared.tower.TheConstants.{TOWER_LOW, TOWER_HIGH, INVERSES, SCALED_INVERSES}

-- the byte b in the tower: a linear map, half by half
unfoldable pub tower : ℕ → ℕ
tower b = bit_xor (look TOWER_LOW (b % 16)) (look TOWER_HIGH (b / 16))

-- what a round looks up at byte b: the S-box in the tower, less the constant of its affine map, which is 91 there
-- (FIPS 197, 5.1.1)
unfoldable pub once : ℕ → ℕ
once b = bit_xor (tower (sub_byte b)) 91

-- twice that
unfoldable pub twice : ℕ → ℕ
twice b = bit_xor (tower (times 2 (sub_byte b))) 78

-- three times that
unfoldable pub thrice : ℕ → ℕ
thrice b = bit_xor (tower (times 3 (sub_byte b))) 21

-- the S-box less its constant (FIPS 197, 5.1.1)
unfoldable pub last : ℕ → ℕ
last b = bit_xor (sub_byte b) 99

-- the two halves at which what is linear in the inverse of a byte x of the tower is looked up
unfoldable pub left_half : ℕ → ℕ
left_half x =
    bit_xor (look INVERSES (bit_xor (look INVERSES (x / 16)) (look SCALED_INVERSES (x % 16)))) (bit_xor (x % 16) (x / 16))

unfoldable pub right_half : ℕ → ℕ
right_half x =
    bit_xor (look INVERSES (bit_xor (look INVERSES (bit_xor (x % 16) (x / 16))) (look SCALED_INVERSES (x % 16)))) (x / 16)

-- a byte of a round key, with the constant that the rounds' look-ups lack
unfoldable pub keyed : ℕ → ℕ
keyed b = bit_xor (tower b) 91

-- the same of the last round key
unfoldable pub last_keyed : ℕ → ℕ
last_keyed b = bit_xor b 99
