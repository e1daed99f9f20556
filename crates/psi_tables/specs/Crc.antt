-- CRC_32 as a remainder of polynomials over GF(2). A number stands for the polynomial whose coefficient of x^i is its
-- bit i: the sum of two polynomials is bit_xor, and a * 2 ^ k is a times x^k.
use Rattle.std.specs.Prelude.{◌≡◌, ℕ, zero, suc, ◌+◌, ◌-◌, ◌*◌, ◌/◌, ◌^◌, ◌<◌, Bool, ◌==◌, if◌then◌else◌, List, [], ◌∷◌, length, bit_xor}

-- the generator polynomial, x^32 and 04C11DB7 hexadecimal (ISO/IEC 13818-1, annex A)
abbrev pub generator : ℕ
generator = 2 ^ 32 + 0x04C11DB7

-- the generator times the polynomial with these coefficients, the highest power first
unfoldable pub multiple : List Bool → ℕ
multiple [] = 0
multiple (b ∷ quotient) = bit_xor (if b then generator * 2 ^ length quotient else 0) (multiple quotient)

-- the remainder of a polynomial modulo the generator: of degree below 32, and a multiple of the generator away
pub record IsRemainder (polynomial remainder : ℕ) : Type 0 where
  pub below : remainder < 2 ^ 32
  pub quotient : List Bool
  pub sum : polynomial ≡ bit_xor (multiple quotient) remainder

-- the polynomial whose coefficients are the bits of these bytes, the first byte's high bit first (ISO/IEC 13818-1, 2.2)
unfoldable pub polynomial_of : List ℕ → ℕ
polynomial_of [] = 0
polynomial_of (byte ∷ bytes) = byte * 2 ^ (8 * length bytes) + polynomial_of bytes

-- what CRC_32 divides: the message times x^32, and x^31 + .. + 1 times x^n for a message of n bits, which stands for a
-- register of ones at the start (ISO/IEC 13818-1, annex A)
abbrev pub dividend : List ℕ → ℕ
dividend message = bit_xor (polynomial_of message * 2 ^ 32) ((2 ^ 32 - 1) * 2 ^ (8 * length message))

-- long division by the generator of a polynomial of degree below 32 + n: what is left
unfoldable pub left_over : ℕ → ℕ → ℕ
left_over zero p = p
left_over (suc n) p = left_over n (if p / 2 ^ (32 + n) == 0 then p else bit_xor p (generator * 2 ^ n))

-- the CRC_32 of a message (ISO/IEC 13818-1, 2.4.4 and annex A)
unfoldable pub crc : List ℕ → ℕ
crc message = left_over (8 * length message) (dividend message)
