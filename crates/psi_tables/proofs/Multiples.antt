-- Multiples of the generator: how they are joined, and what leads them.
use Rattle.std.proofs.Common.{◌≡◌, ℕ, suc, ◌+◌, ◌*◌, ◌/◌, ◌^◌, ◌<◌, Bool, true, false, cond, List, [], ◌∷◌, ◌++◌, length, sym, ◌∙◌, ap, arith, length-append}
use Rattle.std.specs.Int.Bits.{bit_xor, xor_assoc, xor_zero_l, xor_zero_r}
use Rattle.std.proofs.lemmas.Nat.{xor_lt, pow_pos, pow-add, shl_below, div-mul-add, pow_below, xor_shr}
use Rattle.psi_tables.specs.Crc.{generator, multiple}
use Rattle.psi_tables.proofs.Sums.{xor_shl, no_high}

-- the generator times one coefficient and x^n
abbrev pub term : Bool → ℕ → ℕ
term b n = cond b (generator * 2 ^ n) 0

-- a term times a power of x
pub term_shl : (b : Bool) (n k : ℕ) → term b n * 2 ^ k ≡ term b (n + k)
term_shl true n k = let e = pow-add 2 n k in omega (arith, ap (λ (x : ℕ). generator * x) e)
term_shl false n k = omega arith

-- one quotient behind another
pub multiple-append : (q s : List Bool) → multiple (q ++ s) ≡ bit_xor (multiple q * 2 ^ length s) (multiple s)
unfolding multiple
multiple-append [] s = sym (ap (λ (x : ℕ). bit_xor x (multiple s)) (let z : 0 * 2 ^ length s ≡ 0 = omega arith in z) ∙ xor_zero_l (multiple s))
multiple-append (b ∷ q) s =
    ap (λ (n : ℕ). bit_xor (term b n) (multiple (q ++ s))) (length-append q s)
    ∙ ap (bit_xor (term b (length q + length s))) (multiple-append q s)
    ∙ sym (xor_assoc (term b (length q + length s)) (multiple q * 2 ^ length s) (multiple s))
    ∙ ap (λ (x : ℕ). bit_xor x (multiple s))
    (ap (λ (x : ℕ). bit_xor x (multiple q * 2 ^ length s)) (sym (term_shl b (length q) (length s)))
    ∙ sym (xor_shl (length s) (term b (length q)) (multiple q)))

-- a coefficient 0 in front
pub multiple-false : (q : List Bool) → multiple (false ∷ q) ≡ multiple q
unfolding multiple
multiple-false q = xor_zero_l (multiple q)

-- the generator leads with x^32
pub term_leads : (n : ℕ) → term true n / 2 ^ (32 + n) ≡ 1
term_leads n =
    let low : 0x04C11DB7 * 2 ^ n < 2 ^ (32 + n) = shl_below 0x04C11DB7 32 n (omega arith) in
    let power : 2 ^ (32 + n) ≡ 2 ^ 32 * 2 ^ n = pow-add 2 32 n in
    let split : term true n ≡ 1 * 2 ^ (32 + n) + 0x04C11DB7 * 2 ^ n = omega arith in
    ap (λ (x : ℕ). x / 2 ^ (32 + n)) split ∙ div-mul-add 1 (2 ^ (32 + n)) (0x04C11DB7 * 2 ^ n) low

term_lt : (b : Bool) (n : ℕ) → term b n < 2 ^ (32 + suc n)
term_lt true n =
    let below : generator * 2 ^ n < 2 ^ (33 + n) = shl_below generator 33 n (omega arith) in
    let same : 33 + n ≡ 32 + suc n = omega arith in
    rw (← same) below
term_lt false n = pow_pos (32 + suc n)

one_more : (n p : ℕ) → p < 2 ^ (32 + n) → p < 2 ^ (32 + suc n)
one_more n p below = let power : 2 ^ (32 + n) < 2 ^ (32 + suc n) = pow_below (32 + n) (32 + suc n) (omega arith) in omega arith

-- a quotient of n coefficients makes a polynomial of degree below 32 + n
pub multiple_lt : (q : List Bool) (r : ℕ) → r < 2 ^ 32 → bit_xor (multiple q) r < 2 ^ (32 + length q)
unfolding multiple
multiple_lt [] r below = rw xor_zero_l below
multiple_lt (b ∷ q) r below =
    rw (xor_assoc (term b (length q)) (multiple q) r)
    (xor_lt (32 + suc (length q)) (term b (length q)) (bit_xor (multiple q) r) (term_lt b (length q)) (one_more (length q) _ (multiple_lt q r below)))

-- a coefficient as a number
abbrev pub bit : Bool → ℕ
bit b = cond b 1 0

-- the first coefficient of a quotient leads the polynomial
pub leads : (b : Bool) (q : List Bool) (r : ℕ) → r < 2 ^ 32 → bit_xor (multiple (b ∷ q)) r / 2 ^ (32 + length q) ≡ bit b
unfolding multiple
leads b q r below =
    let n = length q in
    let rest = bit_xor (multiple q) r in
    let small : rest / 2 ^ (32 + n) ≡ 0 = no_high (32 + n) rest (multiple_lt q r below) in
    let zero_over : 0 / 2 ^ (32 + n) ≡ 0 = no_high (32 + n) 0 (pow_pos (32 + n)) in
    let lead : (c : Bool) → term c n / 2 ^ (32 + n) ≡ bit c = λ c. elim c as (λ v. term v n / 2 ^ (32 + n) ≡ bit v) [ true ↦ term_leads n | false ↦ zero_over ] in
    ap (λ (y : ℕ). y / 2 ^ (32 + n)) (xor_assoc (term b n) (multiple q) r)
    ∙ xor_shr (term b n) rest (32 + n)
    ∙ ap (bit_xor (term b n / 2 ^ (32 + n))) small
    ∙ xor_zero_r (term b n / 2 ^ (32 + n))
    ∙ lead b
