-- Division by the generator has one remainder, and long division finds it.
use Rattle.std.proofs.Common.{◌≡◌, ℕ, zero, suc, ◌+◌, ◌*◌, ◌/◌, ◌%◌, ◌^◌, ◌<◌, Bool, true, false, cond, ◌==◌, List, [], ◌∷◌, length, refl, inl, inr, sym, ◌∙◌, ap, arith}
use Rattle.std.specs.Int.Bits.{bit_xor, xor_assoc, xor_zero_l}
use Rattle.std.proofs.lemmas.Nat.{xor_comm, pow_pos, shr_split, xor_shr, mod_below, div_below}
use Rattle.std.proofs.Math.Nat.{pow-succ'}
use Rattle.std.proofs.lemmas.Bool.Decides.{eqb_tells}
use Rattle.psi_tables.specs.Crc.{generator, multiple, IsRemainder, left_over}
use Rattle.psi_tables.proofs.Sums.{xor_back, xor_cancel}
use Rattle.psi_tables.proofs.Multiples.{term, bit, leads, term_leads, multiple-false}

-- a remainder whose quotient has n coefficients
pub record Divided (n p r : ℕ) : Type 0 where
  pub below : r < 2 ^ 32
  pub quotient : List Bool
  pub long : length quotient ≡ n
  pub sum : p ≡ bit_xor (multiple quotient) r

pub remainder : (n p r : ℕ) → Divided n p r → IsRemainder p r
remainder n p r d = record { below = d.below; quotient = d.quotient; sum = d.sum }

-- a polynomial of degree below 32 is its own remainder
pub undivided : (r : ℕ) → r < 2 ^ 32 → Divided 0 r r
undivided r below = record { below = below; quotient = []; long = refl; sum = unfold multiple in sym (xor_zero_l r) }

same_bit : (a b : Bool) → bit a ≡ bit b → a ≡ b
same_bit true true e = refl
same_bit false false e = refl
same_bit true false e = absurd (omega arith)
same_bit false true e = absurd (omega arith)

-- quotients of one length leave one remainder
one_for_quotients : (q s : List Bool) (r t : ℕ) → length q ≡ length s → r < 2 ^ 32 → t < 2 ^ 32 → bit_xor (multiple q) r ≡ bit_xor (multiple s) t → r ≡ t
unfolding multiple
one_for_quotients [] [] r t long below_r below_t e = sym (xor_zero_l r) ∙ e ∙ xor_zero_l t
one_for_quotients [] (c ∷ s) r t long below_r below_t e = cc
one_for_quotients (b ∷ q) [] r t long below_r below_t e = cc
one_for_quotients (b ∷ q) (c ∷ s) r t long below_r below_t e =
    let rest : length q ≡ length s = cc in
    let lead : bit b ≡ bit c =
    sym (leads b q r below_r) ∙ ap (λ (y : ℕ). y / 2 ^ (32 + length q)) e ∙ ap (λ (n : ℕ). bit_xor (multiple (c ∷ s)) t / 2 ^ (32 + n)) rest ∙ leads c s t below_t in
    let same : b ≡ c = same_bit b c lead in
    let terms : term c (length s) ≡ term b (length q) = cc in
    one_for_quotients q s r t rest below_r below_t
    (xor_cancel (term b (length q)) _ _
    (sym (xor_assoc (term b (length q)) (multiple q) r) ∙ e
    ∙ xor_assoc (term c (length s)) (multiple s) t
    ∙ ap (λ (x : ℕ). bit_xor x (bit_xor (multiple s) t)) terms))

-- a quotient with n coefficients 0 in front
abbrev widened : ℕ → List Bool → List Bool
widened zero q = q
widened (suc n) q = false ∷ widened n q

multiple-widened : (n : ℕ) (q : List Bool) → multiple (widened n q) ≡ multiple q
multiple-widened zero q = refl
multiple-widened (suc n) q = multiple-false (widened n q) ∙ multiple-widened n q

length-widened : (n : ℕ) (q : List Bool) → length (widened n q) ≡ n + length q
length-widened zero q = omega arith
length-widened (suc n) q = omega (arith, length-widened n q)

-- a polynomial has one remainder
pub one_remainder : (p r t : ℕ) → IsRemainder p r → IsRemainder p t → r ≡ t
one_remainder p r t d e =
    let a = d.quotient in
    let b = e.quotient in
    one_for_quotients (widened (length b) a) (widened (length a) b) r t
    (omega (arith, length-widened (length b) a, length-widened (length a) b)) d.below e.below
    (ap (λ (x : ℕ). bit_xor x r) (multiple-widened (length b) a) ∙ sym d.sum ∙ e.sum ∙ sym (ap (λ (x : ℕ). bit_xor x t) (multiple-widened (length a) b)))

is_one : (x : ℕ) → x < 2 → (x ≡ 0 → ⊥) → x ≡ 1
is_one x below not_zero = omega (arith, not_zero)

-- a quotient by a power of two that is 0 bounds the number
low_only : (k p : ℕ) → p / 2 ^ k ≡ 0 → p < 2 ^ k
low_only k p gone =
    let split = shr_split p k in
    let low : p % 2 ^ k < 2 ^ k = mod_below _ _ (pow_pos k) in
    let none : p / 2 ^ k * 2 ^ k ≡ 0 = ap (λ (x : ℕ). x * 2 ^ k) gone ∙ omega arith in
    omega arith

-- a step of the long division takes the leading coefficient away
step : (n p : ℕ) → p < 2 ^ (32 + suc n) → (p / 2 ^ (32 + n) ≡ 0 → ⊥) → bit_xor p (generator * 2 ^ n) < 2 ^ (32 + n)
step n p below not_zero =
    let power : 2 ^ (32 + suc n) ≡ 2 * 2 ^ (32 + n) = ap (λ (x : ℕ). 2 ^ x) (let same : 32 + suc n ≡ suc (32 + n) = omega arith in same) ∙ pow-succ' 2 (32 + n) in
    let two : p / 2 ^ (32 + n) < 2 = div_below p (2 ^ (32 + n)) 2 (pow_pos (32 + n)) (omega arith) in
    let one : p / 2 ^ (32 + n) ≡ 1 = is_one _ two not_zero in
    low_only (32 + n) (bit_xor p (generator * 2 ^ n))
    (xor_shr p (generator * 2 ^ n) (32 + n) ∙ ap (λ (x : ℕ). bit_xor x (generator * 2 ^ n / 2 ^ (32 + n))) one ∙ ap (bit_xor 1) (term_leads n))

-- the quotient where the leading coefficient was taken away
taken : (n p : ℕ) → (d : Divided n (bit_xor p (generator * 2 ^ n)) (left_over n (bit_xor p (generator * 2 ^ n)))) →
    p ≡ bit_xor (multiple (true ∷ d.quotient)) (left_over n (bit_xor p (generator * 2 ^ n)))
unfolding multiple
taken n p d =
    let g = generator * 2 ^ n in
    let r = left_over n (bit_xor p g) in
    sym (xor_back g p) ∙ ap (bit_xor g) (xor_comm g p ∙ d.sum) ∙ sym (xor_assoc g (multiple d.quotient) r)
    ∙ ap (λ (k : ℕ). bit_xor (bit_xor (generator * 2 ^ k) (multiple d.quotient)) r) (sym d.long)

-- long division leaves the remainder
pub divides : (n p : ℕ) → p < 2 ^ (32 + n) → Divided n p (left_over n p)
unfolding left_over
divides zero p below = undivided p below
divides (suc n) p below =
    elim (eqb_tells (p / 2 ^ (32 + n)) 0) [
      | inl t ↦
          let d = divides n p (low_only (32 + n) p t.1) in
          let same : left_over n (cond (p / 2 ^ (32 + n) == 0) p (bit_xor p (generator * 2 ^ n))) ≡ left_over n p = ap (λ (b : Bool). left_over n (cond b p (bit_xor p (generator * 2 ^ n)))) t.0 in
          rw same (record {
            below = d.below;
            quotient = false ∷ d.quotient;
            long = ap suc d.long;
            sum = d.sum ∙ ap (λ (x : ℕ). bit_xor x (left_over n p)) (sym (multiple-false d.quotient));
          })
      | inr t ↦
          let y = bit_xor p (generator * 2 ^ n) in
          let d = divides n y (step n p below t.1) in
          let same : left_over n (cond (p / 2 ^ (32 + n) == 0) p y) ≡ left_over n y = ap (λ (b : Bool). left_over n (cond b p y)) t.0 in
          rw same (record {
            below = d.below;
            quotient = true ∷ d.quotient;
            long = ap suc d.long;
            sum = taken n p d;
          })
    ]
