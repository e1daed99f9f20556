-- Bytes in the tower as the rounds of the inverse cipher take them.
use Rattle.std.specs.Prelude.{ℕ, ◌/◌, ◌%◌, bit_xor}
use Rattle.aes_cbc.specs.Field.{times}
use Rattle.aes_cbc.specs.InverseCipher.{inv_sub_byte}
use Rattle.aes_cbc.specs.Look.{look}
use Rattle.aes_cbc.specs.declared.inverse_sbox.TheConstants.{ENTERED_LOW, ENTERED_HIGH}

-- the byte whose inverse the inverse S-box is at byte b, in the tower, half by half (FIPS 197, 5.3.2)
unfoldable pub entered : ℕ → ℕ
entered b = bit_xor (look ENTERED_LOW (b % 16)) (look ENTERED_HIGH (b / 16))

-- the same less its constant: a linear map
unfoldable pub inward : ℕ → ℕ
inward b = bit_xor (entered b) 232

-- what a round of the inverse cipher looks up at byte b: m times the inverse S-box there (FIPS 197, 5.3.3)
unfoldable pub unmixed : ℕ → ℕ → ℕ
unmixed m b = inward (times m (inv_sub_byte b))
