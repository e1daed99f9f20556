-- The table of CRC_32 holds the remainders of the bytes times x^32.
use Rattle.std.proofs.Common.{◌≡◌, ℕ, zero, suc, ◌+◌, ◌*◌, ◌<◌, ◌^◌, Bool, true, ◌==◌, ◌&&◌, List, [], ◌∷◌, length, get_or, refl, sym, ◌∙◌, ap, arith}
use Rattle.std.proofs.lemmas.Bool.{eqb-true, and_parts}
use Rattle.psi_tables.specs.Crc.{left_over}
use Rattle.psi_tables.specs.declared.crc.TheConstants.{REMAINDERS}
use Rattle.psi_tables.proofs.Division.{Divided, divides}

-- each word from place i on is the remainder of its place times x^32
agrees : ℕ → List ℕ → Bool
agrees i [] = true
agrees i (word ∷ words) = (left_over 8 (i * 2 ^ 32) == word) && agrees (i + 1) words

agrees_at : (i : ℕ) (words : List ℕ) (k : ℕ) → agrees i words ≡ true → k < length words → get_or words k 0 ≡ left_over 8 ((i + k) * 2 ^ 32)
unfolding agrees
agrees_at i [] k h within = absurd (omega arith)
agrees_at i (word ∷ words) zero h within =
    sym (eqb-true _ _ (and_parts _ _ h).0) ∙ ap (λ (x : ℕ). left_over 8 (x * 2 ^ 32)) (let e : i ≡ i + 0 = omega arith in e)
agrees_at i (word ∷ words) (suc k) h within =
    agrees_at (i + 1) words k (and_parts _ _ h).1 (omega arith) ∙ ap (λ (x : ℕ). left_over 8 (x * 2 ^ 32)) (let e : (i + 1) + k ≡ i + suc k = omega arith in e)

-- the test of all 256 words
all_agree : agrees 0 REMAINDERS ≡ true
unfolding agrees left_over
all_agree = refl

table_len : length REMAINDERS ≡ 256
table_len = refl

-- the word in the table is the remainder
pub looked_up : (byte : ℕ) → byte < 256 → Divided 8 (byte * 2 ^ 32) (get_or REMAINDERS byte 0)
looked_up byte below =
    let word : get_or REMAINDERS byte 0 ≡ left_over 8 ((0 + byte) * 2 ^ 32) = agrees_at 0 REMAINDERS byte all_agree (rw table_len below) in
    let place : left_over 8 ((0 + byte) * 2 ^ 32) ≡ left_over 8 (byte * 2 ^ 32) = ap (λ (x : ℕ). left_over 8 (x * 2 ^ 32)) (let z : 0 + byte ≡ byte = omega arith in z) in
    rw (word ∙ place) (divides 8 (byte * 2 ^ 32) (omega arith))
