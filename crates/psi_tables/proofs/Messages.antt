-- The dividend of a message, byte by byte.
use Rattle.std.proofs.Common.{◌≡◌, ℕ, suc, ◌+◌, ◌-◌, ◌*◌, ◌/◌, ◌%◌, ◌^◌, ◌<◌, List, [], ◌∷◌, ◌++◌, length, get_or, sym, ◌∙◌, ap, arith, length-append, All}
use Rattle.std.specs.Int.Bits.{bit_xor, xor_assoc, xor_zero_l, xor_zero_r}
use Rattle.std.proofs.lemmas.Nat.{xor_comm, xor_lt, xor_block, pow_pos, pow-add, mod_below, xor_of_8, xor_of_32, shl_below, mul-add-lt}
use Rattle.std.proofs.Math.Nat.{mul_comm}
use Rattle.psi_tables.specs.Crc.{multiple, polynomial_of, dividend, IsRemainder, left_over, crc}
use Rattle.psi_tables.specs.declared.crc.TheConstants.{REMAINDERS}
use Rattle.psi_tables.proofs.Sums.{xor_shl}
use Rattle.psi_tables.proofs.Multiples.{multiple-append, multiple_lt}
use Rattle.psi_tables.proofs.Division.{Divided, undivided, remainder, divides, one_remainder}
use Rattle.psi_tables.proofs.Remainders.{looked_up}

-- one list of bytes behind another
polynomial_of-append : (m w : List ℕ) → polynomial_of (m ++ w) ≡ polynomial_of m * 2 ^ (8 * length w) + polynomial_of w
unfolding polynomial_of
polynomial_of-append [] w = omega arith
polynomial_of-append (a ∷ m) w =
    let longer : 8 * length (m ++ w) ≡ 8 * length m + 8 * length w = omega (arith, length-append m w) in
    let power : 2 ^ (8 * length (m ++ w)) ≡ 2 ^ (8 * length m) * 2 ^ (8 * length w) = ap (λ (k : ℕ). 2 ^ k) longer ∙ pow-add 2 (8 * length m) (8 * length w) in
    ap (λ (x : ℕ). a * x + polynomial_of (m ++ w)) power
    ∙ ap (λ (x : ℕ). a * (2 ^ (8 * length m) * 2 ^ (8 * length w)) + x) (polynomial_of-append m w)
    ∙ omega arith

-- low coefficients behind a polynomial are added to it
joined : (n w k : ℕ) → w < 2 ^ k → (n * 2 ^ k + w) * 2 ^ 32 ≡ bit_xor (n * 2 ^ 32 * 2 ^ k) (w * 2 ^ 32)
joined n w k below =
    let block : bit_xor (n * 2 ^ k + 0) (0 * 2 ^ k + w) ≡ bit_xor n 0 * 2 ^ k + bit_xor 0 w = xor_block k n 0 0 w (pow_pos k) below in
    let right_zero = xor_zero_r n in
    let left_zero = xor_zero_l w in
    let left : n * 2 ^ k + 0 ≡ n * 2 ^ k = omega arith in
    let right : 0 * 2 ^ k + w ≡ w = omega arith in
    let both : n * 2 ^ k + w ≡ bit_xor (n * 2 ^ k) w = cc in
    let order : n * 2 ^ k * 2 ^ 32 ≡ n * 2 ^ 32 * 2 ^ k = omega arith in
    ap (λ (x : ℕ). x * 2 ^ 32) both ∙ xor_shl 32 (n * 2 ^ k) w ∙ ap (λ (x : ℕ). bit_xor x (w * 2 ^ 32)) order

-- the dividend of a message behind another
pub dividend-append : (m w : List ℕ) → polynomial_of w < 2 ^ (8 * length w) →
    dividend (m ++ w) ≡ bit_xor (dividend m * 2 ^ (8 * length w)) (polynomial_of w * 2 ^ 32)
dividend-append m w below =
    let k = 8 * length w in
    let high = polynomial_of m * 2 ^ 32 in
    let ones = (2 ^ 32 - 1) * 2 ^ (8 * length m) in
    let low = polynomial_of w * 2 ^ 32 in
    let longer : 8 * length (m ++ w) ≡ 8 * length m + k = omega (arith, length-append m w) in
    let left : polynomial_of (m ++ w) * 2 ^ 32 ≡ bit_xor (high * 2 ^ k) low
    = ap (λ (x : ℕ). x * 2 ^ 32) (polynomial_of-append m w) ∙ joined (polynomial_of m) (polynomial_of w) k below in
    let right : (2 ^ 32 - 1) * 2 ^ (8 * length (m ++ w)) ≡ ones * 2 ^ k
    = ap (λ (n : ℕ). (2 ^ 32 - 1) * 2 ^ n) longer ∙ ap (λ (x : ℕ). (2 ^ 32 - 1) * x) (pow-add 2 (8 * length m) k) ∙ omega arith in
    ap (λ (x : ℕ). bit_xor x ((2 ^ 32 - 1) * 2 ^ (8 * length (m ++ w)))) left
    ∙ ap (bit_xor (bit_xor (high * 2 ^ k) low)) right
    ∙ xor_assoc (high * 2 ^ k) low (ones * 2 ^ k)
    ∙ ap (bit_xor (high * 2 ^ k)) (xor_comm low (ones * 2 ^ k))
    ∙ sym (xor_assoc (high * 2 ^ k) (ones * 2 ^ k) low)
    ∙ ap (λ (x : ℕ). bit_xor x low) (sym (xor_shl k high ones))

one_byte : (b : ℕ) → polynomial_of (b ∷ []) ≡ b
unfolding polynomial_of
one_byte b = omega arith

dividend-push : (m : List ℕ) (b : ℕ) → b < 2 ^ 8 → dividend (m ++ b ∷ []) ≡ bit_xor (dividend m * 2 ^ 8) (b * 2 ^ 32)
dividend-push m b below =
    let is = one_byte b in
    dividend-append m (b ∷ []) (omega arith) ∙ ap (λ (x : ℕ). bit_xor (dividend m * 2 ^ 8) (x * 2 ^ 32)) is

-- the register a byte on, before it is reduced: its high byte and the message's make the place in the table
shifted : (r b : ℕ) → r < 2 ^ 32 → b < 2 ^ 8 → bit_xor (r * 2 ^ 8) (b * 2 ^ 32) ≡ bit_xor (bit_xor (r / 2 ^ 24) b * 2 ^ 32) (r * 2 ^ 8 % 2 ^ 32)
shifted r b below_r below_b =
    let low = r % 2 ^ 24 * 2 ^ 8 in
    let top = r / 2 ^ 24 in
    let small : low < 2 ^ 32 = omega arith in
    let split : r * 2 ^ 8 ≡ top * 2 ^ 32 + low = omega arith in
    let rest : r * 2 ^ 8 % 2 ^ 32 ≡ low = omega arith in
    let one : bit_xor (top * 2 ^ 32 + low) (b * 2 ^ 32 + 0) ≡ bit_xor top b * 2 ^ 32 + bit_xor low 0 = xor_block 32 top b low 0 small (pow_pos 32) in
    let two : bit_xor (bit_xor top b * 2 ^ 32 + 0) (0 * 2 ^ 32 + low) ≡ bit_xor (bit_xor top b) 0 * 2 ^ 32 + bit_xor 0 low = xor_block 32 (bit_xor top b) 0 0 low (pow_pos 32) small in
    let z1 = xor_zero_r low in
    let z2 = xor_zero_r (bit_xor top b) in
    let z3 = xor_zero_l low in
    let z4 : b * 2 ^ 32 + 0 ≡ b * 2 ^ 32 = omega arith in
    let z5 : bit_xor top b * 2 ^ 32 + 0 ≡ bit_xor top b * 2 ^ 32 = omega arith in
    let z6 : 0 * 2 ^ 32 + low ≡ low = omega arith in
    cc

-- the register a byte on, reduced by the table: the two quotients stand one behind the other
pub next_byte : (i : ℕ) (m : List ℕ) (b r : ℕ) → b < 2 ^ 8 → Divided (8 * i) (dividend m) r →
    Divided (8 * (i + 1)) (dividend (m ++ b ∷ [])) (bit_xor (get_or REMAINDERS (bit_xor (r / 2 ^ 24) b) 0) (r * 2 ^ 8 % 2 ^ 32))
next_byte i m b r below d =
    let place = bit_xor (r / 2 ^ 24) b in
    let top : r / 2 ^ 24 < 2 ^ 8 = let small = d.below in omega arith in
    let l = looked_up place (xor_of_8 (r / 2 ^ 24) b top below) in
    let word = get_or REMAINDERS place 0 in
    let rest = r * 2 ^ 8 % 2 ^ 32 in
    let whole : dividend m * 2 ^ 8 ≡ bit_xor (multiple d.quotient * 2 ^ 8) (r * 2 ^ 8) = ap (λ (x : ℕ). x * 2 ^ 8) d.sum ∙ xor_shl 8 (multiple d.quotient) r in
    let longer : multiple (d.quotient ++ l.quotient) ≡ bit_xor (multiple d.quotient * 2 ^ 8) (multiple l.quotient)
    = multiple-append d.quotient l.quotient ∙ ap (λ (k : ℕ). bit_xor (multiple d.quotient * 2 ^ k) (multiple l.quotient)) l.long in
    record {
      below = xor_of_32 word rest l.below (mod_below _ _ (pow_pos 32));
      quotient = d.quotient ++ l.quotient;
      long = omega (arith, length-append d.quotient l.quotient, d.long, l.long);
      sum =
          dividend-push m b below
          ∙ ap (λ (x : ℕ). bit_xor x (b * 2 ^ 32)) whole
          ∙ xor_assoc (multiple d.quotient * 2 ^ 8) (r * 2 ^ 8) (b * 2 ^ 32)
          ∙ ap (bit_xor (multiple d.quotient * 2 ^ 8)) (shifted r b d.below below ∙ ap (λ (x : ℕ). bit_xor x rest) l.sum ∙ xor_assoc (multiple l.quotient) word rest)
          ∙ sym (xor_assoc (multiple d.quotient * 2 ^ 8) (multiple l.quotient) (bit_xor word rest))
          ∙ ap (λ (x : ℕ). bit_xor x (bit_xor word rest)) (sym longer);
    }

-- the register at the start
pub at_start : Divided 0 (dividend []) (2 ^ 32 - 1)
unfolding polynomial_of
at_start = undivided (2 ^ 32 - 1) (omega arith)

-- a register that the division left is the CRC_32
pub is_crc : (m : List ℕ) (r : ℕ) → Divided (8 * length m) (dividend m) r → r ≡ crc m
unfolding crc
is_crc m r d =
    let n = 8 * length m in
    let long : bit_xor (multiple d.quotient) r < 2 ^ (32 + length d.quotient) = multiple_lt d.quotient r d.below in
    let small : dividend m < 2 ^ (32 + n) = rw d.sum (rw d.long at long) in
    one_remainder (dividend m) r (left_over n (dividend m)) (remainder n _ _ d) (remainder n _ _ (divides n (dividend m) small))

-- bytes make a polynomial of eight coefficients each
pub polynomial_of-lt : (m : List ℕ) → All (λ b. b < 2 ^ 8) m → polynomial_of m < 2 ^ (8 * length m)
unfolding polynomial_of
polynomial_of-lt [] bytes = pow_pos 0
polynomial_of-lt (b ∷ m) bytes =
    let n = 8 * length m in
    let below : b < 2 ^ 8 = bytes 0 0 (omega arith) in
    let same : 8 * suc (length m) ≡ 8 + n = omega arith in
    let power : 2 ^ (8 + n) ≡ 2 ^ 8 * 2 ^ n = pow-add 2 8 n in
    rw (same, power, mul_comm (2 ^ 8) (2 ^ n)) (mul-add-lt b (2 ^ n) (polynomial_of m) (2 ^ 8) below (polynomial_of-lt m (λ k d within. bytes (suc k) d (omega arith))))

-- the CRC_32 of bytes is the remainder
pub crc_divides : (m : List ℕ) → All (λ b. b < 2 ^ 8) m → IsRemainder (dividend m) (crc m)
unfolding crc
crc_divides m bytes =
    let n = 8 * length m in
    let one : polynomial_of m * 2 ^ 32 < 2 ^ (n + 32) = shl_below (polynomial_of m) n 32 (polynomial_of-lt m bytes) in
    let two : (2 ^ 32 - 1) * 2 ^ n < 2 ^ (32 + n) = shl_below (2 ^ 32 - 1) 32 n (omega arith) in
    let order : n + 32 ≡ 32 + n = omega arith in
    let first : polynomial_of m * 2 ^ 32 < 2 ^ (32 + n) = rw (← order) one in
    remainder n _ _ (divides n (dividend m) (xor_lt (32 + n) _ _ first two))
