-- The CRC_32 of a message with four bytes behind it is 0 where these are the CRC_32 of the message, and only there.
use Rattle.std.proofs.Common.{◌≡◌, ℕ, zero, suc, ◌+◌, ◌*◌, ◌/◌, ◌^◌, ◌<◌, Bool, true, false, List, [], ◌∷◌, ◌++◌, length, refl, sym, ◌∙◌, ap, arith, All}
use Rattle.std.specs.Int.Bits.{bit_xor, xor_assoc, xor_self, xor_zero_r}
use Rattle.std.proofs.lemmas.Nat.{xor_lt, xor_block}
use Rattle.std.proofs.lemmas.List.Elements.{All-append}
use Rattle.std.proofs.Math.Nat.{pow-succ'}
use Rattle.psi_tables.specs.Crc.{generator, multiple, polynomial_of, dividend, IsRemainder, crc}
use Rattle.psi_tables.proofs.Sums.{xor_shl, xor_back}
use Rattle.psi_tables.proofs.Multiples.{multiple-append, multiple-false}
use Rattle.psi_tables.proofs.Division.{one_remainder}
use Rattle.psi_tables.proofs.Messages.{dividend-append, polynomial_of-lt, crc_divides}

-- n coefficients 0
abbrev zeros : ℕ → List Bool
zeros zero = []
zeros (suc n) = false ∷ zeros n

length-zeros : (n : ℕ) → length (zeros n) ≡ n
length-zeros zero = refl
length-zeros (suc n) = ap suc (length-zeros n)

no_multiple : multiple [] ≡ 0
unfolding multiple
no_multiple = refl

multiple-zeros : (n : ℕ) → multiple (zeros n) ≡ 0
multiple-zeros zero = no_multiple
multiple-zeros (suc n) = multiple-false (zeros n) ∙ multiple-zeros n

-- a multiple times a power of x is a multiple
multiple-shl : (q : List Bool) (n : ℕ) → multiple (q ++ zeros n) ≡ multiple q * 2 ^ n
multiple-shl q n =
    multiple-append q (zeros n)
    ∙ ap (λ (x : ℕ). bit_xor (multiple q * 2 ^ length (zeros n)) x) (multiple-zeros n)
    ∙ xor_zero_r (multiple q * 2 ^ length (zeros n))
    ∙ ap (λ (k : ℕ). multiple q * 2 ^ k) (length-zeros n)

-- a polynomial that is a multiple of the generator
record Multiple (polynomial : ℕ) : Type 0 where
  pub quotient : List Bool
  pub is : multiple quotient ≡ polynomial

record HasLast (quotient : List Bool) : Type 0 where
  pub front : List Bool
  pub coefficient : Bool
  pub is : quotient ≡ front ++ coefficient ∷ []

last_of : (b : Bool) (q : List Bool) → HasLast (b ∷ q)
last_of b [] = record { front = []; coefficient = b; is = refl }
last_of b (c ∷ q) = let l = last_of c q in record { front = b ∷ l.front; coefficient = l.coefficient; is = ap (λ (t : List Bool). b ∷ t) l.is }

one_coefficient : multiple (true ∷ []) ≡ generator
unfolding multiple
one_coefficient = refl

-- a multiple by a quotient whose last coefficient is 1 is odd, since the generator is
half_of : (c : Bool) (q : List Bool) (y : ℕ) → multiple (q ++ c ∷ []) ≡ y * 2 → Multiple y
half_of false q y e =
    let none : multiple (false ∷ []) ≡ 0 = multiple-false [] ∙ no_multiple in
    let twice : multiple (q ++ false ∷ []) ≡ multiple q * 2
    = multiple-append q (false ∷ []) ∙ ap (bit_xor (multiple q * 2)) none ∙ xor_zero_r (multiple q * 2) in
    record { quotient = q; is = omega arith }
half_of true q y e =
    let block : bit_xor (multiple q * 2 + 0) (generator / 2 * 2 + 1) ≡ bit_xor (multiple q) (generator / 2) * 2 + bit_xor 0 1
    = xor_block 1 (multiple q) (generator / 2) 0 1 (omega arith) (omega arith) in
    let even : multiple q * 2 + 0 ≡ multiple q * 2 = omega arith in
    let odd : multiple (q ++ true ∷ []) ≡ bit_xor (multiple q) (generator / 2) * 2 + 1
    = multiple-append q (true ∷ []) ∙ ap (bit_xor (multiple q * 2)) one_coefficient ∙ sym (ap (λ (x : ℕ). bit_xor x generator) even) ∙ block in
    absurd (omega arith)

half : (y : ℕ) (q : List Bool) → multiple q ≡ y * 2 → Multiple y
half y [] e = record { quotient = []; is = let none = no_multiple in omega arith }
half y (b ∷ q) e = let l = last_of b q in half_of l.coefficient l.front y (ap multiple (sym l.is) ∙ e)

-- what is a multiple with a power of x is one without it
lowered : (k x : ℕ) (q : List Bool) → multiple q ≡ x * 2 ^ k → Multiple x
lowered zero x q e = record { quotient = q; is = e ∙ omega arith }
lowered (suc k) x q e =
    let power : 2 ^ suc k ≡ 2 * 2 ^ k = pow-succ' 2 k in
    let h = half (x * 2 ^ k) q (e ∙ ap (λ (p : ℕ). x * p) power ∙ omega arith) in
    lowered k x h.quotient h.is

-- the remainders of equal polynomials, one of them a multiple
is_zero : (q s : List Bool) (r : ℕ) → r < 2 ^ 32 → multiple s ≡ bit_xor (multiple q) r → r ≡ 0
is_zero q s r below e =
    one_remainder (multiple s) r 0 (record { below = below; quotient = q; sum = e })
    (record { below = omega arith; quotient = s; sum = sym (xor_zero_r (multiple s)) })

-- equal summands cancel, and only they
xor_zero : (a b : ℕ) → bit_xor a b ≡ 0 → b ≡ a
xor_zero a b e = sym (xor_back a b) ∙ ap (bit_xor a) e ∙ xor_zero_r a

-- the dividend of a message with its last four bytes
closed_dividend : (m w : List ℕ) → All (λ b. b < 2 ^ 8) w → length w ≡ 4 → (d : IsRemainder (dividend m) (crc m)) →
    dividend (m ++ w) ≡ bit_xor (multiple d.quotient) (bit_xor (crc m) (polynomial_of w)) * 2 ^ 32
closed_dividend m w bytes four d =
    let power : 8 * length w ≡ 32 = omega arith in
    dividend-append m w (polynomial_of-lt w bytes)
    ∙ ap (λ (k : ℕ). bit_xor (dividend m * 2 ^ k) (polynomial_of w * 2 ^ 32)) power
    ∙ sym (xor_shl 32 (dividend m) (polynomial_of w))
    ∙ ap (λ (x : ℕ). bit_xor x (polynomial_of w) * 2 ^ 32) d.sum
    ∙ ap (λ (x : ℕ). x * 2 ^ 32) (xor_assoc (multiple d.quotient) (crc m) (polynomial_of w))

-- a message with its CRC_32 behind it
pub closes : (m w : List ℕ) → All (λ b. b < 2 ^ 8) m → All (λ b. b < 2 ^ 8) w → length w ≡ 4 → polynomial_of w ≡ crc m → crc (m ++ w) ≡ 0
closes m w in_m in_w four e =
    let d = crc_divides m in_m in
    let gone : bit_xor (crc m) (polynomial_of w) ≡ 0 = ap (bit_xor (crc m)) e ∙ xor_self (crc m) in
    let whole : dividend (m ++ w) ≡ multiple (d.quotient ++ zeros 32)
    = closed_dividend m w in_w four d ∙ ap (λ (x : ℕ). bit_xor (multiple d.quotient) x * 2 ^ 32) gone
    ∙ ap (λ (x : ℕ). x * 2 ^ 32) (xor_zero_r (multiple d.quotient)) ∙ sym (multiple-shl d.quotient 32) in
    one_remainder (dividend (m ++ w)) (crc (m ++ w)) 0 (crc_divides (m ++ w) (All-append (λ b. b < 2 ^ 8) m w in_m in_w))
    (record { below = omega arith; quotient = d.quotient ++ zeros 32; sum = whole ∙ sym (xor_zero_r (multiple (d.quotient ++ zeros 32))) })

-- no other four bytes do
pub closed : (m w : List ℕ) → All (λ b. b < 2 ^ 8) m → All (λ b. b < 2 ^ 8) w → length w ≡ 4 → crc (m ++ w) ≡ 0 → polynomial_of w ≡ crc m
closed m w in_m in_w four e =
    let d = crc_divides m in_m in
    let f = crc_divides (m ++ w) (All-append (λ b. b < 2 ^ 8) m w in_m in_w) in
    let other = bit_xor (crc m) (polynomial_of w) in
    let whole : multiple f.quotient ≡ bit_xor (multiple d.quotient) other * 2 ^ 32
    = sym (f.sum ∙ ap (bit_xor (multiple f.quotient)) e ∙ xor_zero_r (multiple f.quotient)) ∙ closed_dividend m w in_w four d in
    let l = lowered 32 (bit_xor (multiple d.quotient) other) f.quotient whole in
    let power : 8 * length w ≡ 32 = omega arith in
    let bits = polynomial_of-lt w in_w in
    let small : polynomial_of w < 2 ^ 32 = rw power at bits in
    xor_zero (crc m) (polynomial_of w) (is_zero d.quotient l.quotient other (xor_lt 32 (crc m) (polynomial_of w) d.below small) l.is)
