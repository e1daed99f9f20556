-- A round of the inverse cipher by shuffles is the round of the standard.
use Rattle.std.proofs.Common.{◌≡◌, ℕ, ◌/◌, ◌%◌, ◌^◌, ◌<◌, ◌==◌, true, List, [], ◌∷◌, ◌++◌, map, slice_index, bit_xor, refl, sym, ap, ap₂, ◌∙◌, arith}
use Rattle.std.proofs.lemmas.Nat.{xor_lt}
use lib.Bits.{xor_zero_r}
use Rattle.std.specs.Simd.Lanes.{zip2}
use lib.Lanes.{pick_l}
use Rattle.aes_cbc.specs.Block.{IsBlock, xor_bytes}
use Rattle.aes_cbc.specs.Field.{times}
use Rattle.aes_cbc.specs.Round.{matrix_product, add_round_key}
use Rattle.aes_cbc.specs.InverseCipher.{inv_sub_byte, inv_sub_bytes, inv_shift_rows, inv_mix_columns}
use Rattle.aes_cbc.proofs.EachByte.{passes_below, passes_below-at, same_below}
use Rattle.aes_cbc.proofs.BlockLemmas.{same_16}
use Rattle.aes_cbc.proofs.InverseSboxTable.{inv_sub_byte_fits}
use Rattle.aes_cbc.proofs.ProductBytes.{times_fits}
use Rattle.aes_cbc.proofs.XorLaws.{xor_exchange, xor_turn}
use Rattle.ghost_list.proofs.ByteLists.{byte_at}
use Rattle.aes_cbc.specs.Look.{look}
use Rattle.aes_cbc.specs.InverseTower.{entered, inward, unmixed}
use Rattle.aes_cbc.specs.declared.inverse_sbox.TheConstants.{ENTERED_LOW, ENTERED_HIGH}
use Rattle.aes_cbc.specs.declared.inverse_round.TheConstants.{INV_SHIFTED, INV_TURNED_ONCE, INV_TURNED_TWICE, INV_TURNED_THRICE}
use Rattle.aes_cbc.proofs.LaneRounds.{xor_halves, cells, as_cells}

-- ---- the way in is linear but for its constant

low_test : passes_below (λ x. passes_below (λ y. bit_xor (bit_xor (look ENTERED_LOW x) 232) (look ENTERED_LOW y) == look ENTERED_LOW (bit_xor x y)) 16) 16 ≡ true
unfolding passes_below
low_test = refl

high_test : passes_below (λ x. passes_below (λ y. bit_xor (look ENTERED_HIGH x) (look ENTERED_HIGH y) == look ENTERED_HIGH (bit_xor x y)) 16) 16 ≡ true
unfolding passes_below
high_test = refl

low_sum : (x y : ℕ) → x < 16 → y < 16 → bit_xor (bit_xor (look ENTERED_LOW x) 232) (look ENTERED_LOW y) ≡ look ENTERED_LOW (bit_xor x y)
low_sum x y hx hy =
    same_below (λ y. bit_xor (bit_xor (look ENTERED_LOW x) 232) (look ENTERED_LOW y)) (λ y. look ENTERED_LOW (bit_xor x y)) 16
    (passes_below-at (λ x. passes_below (λ y. bit_xor (bit_xor (look ENTERED_LOW x) 232) (look ENTERED_LOW y) == look ENTERED_LOW (bit_xor x y)) 16) 16 low_test x hx) y hy

high_sum : (x y : ℕ) → x < 16 → y < 16 → bit_xor (look ENTERED_HIGH x) (look ENTERED_HIGH y) ≡ look ENTERED_HIGH (bit_xor x y)
high_sum x y hx hy =
    same_below (λ y. bit_xor (look ENTERED_HIGH x) (look ENTERED_HIGH y)) (λ y. look ENTERED_HIGH (bit_xor x y)) 16
    (passes_below-at (λ x. passes_below (λ y. bit_xor (look ENTERED_HIGH x) (look ENTERED_HIGH y) == look ENTERED_HIGH (bit_xor x y)) 16) 16 high_test x hx) y hy

-- the sum of a byte on its way and one that has its constant
inward-entered : (a b : ℕ) → a < 256 → b < 256 → bit_xor (inward a) (entered b) ≡ entered (bit_xor a b)
unfolding entered inward
inward-entered a b ha hb =
    let whole = xor_halves a b in
    let small : bit_xor (a % 16) (b % 16) < 2 ^ 4 = xor_lt 4 (a % 16) (b % 16) (omega arith) (omega arith) in
    let low : bit_xor (a % 16) (b % 16) ≡ bit_xor a b % 16 = omega arith in
    let high : bit_xor (a / 16) (b / 16) ≡ bit_xor a b / 16 = omega arith in
    ap (λ z. bit_xor z (entered b))
    (xor_exchange (look ENTERED_LOW (a % 16)) (look ENTERED_HIGH (a / 16)) 232 0
    ∙ ap (bit_xor (bit_xor (look ENTERED_LOW (a % 16)) 232)) (xor_zero_r (look ENTERED_HIGH (a / 16))))
    ∙ xor_exchange (bit_xor (look ENTERED_LOW (a % 16)) 232) (look ENTERED_HIGH (a / 16)) (look ENTERED_LOW (b % 16)) (look ENTERED_HIGH (b / 16))
    ∙ ap₂ bit_xor (low_sum (a % 16) (b % 16) (omega arith) (omega arith) ∙ ap (look ENTERED_LOW) low)
    (high_sum (a / 16) (b / 16) (omega arith) (omega arith) ∙ ap (look ENTERED_HIGH) high)

-- the sum of two bytes on their way
inward_sum : (a b : ℕ) → a < 256 → b < 256 → bit_xor (inward a) (inward b) ≡ inward (bit_xor a b)
unfolding inward
inward_sum a b ha hb =
    sym (ap (λ z. bit_xor z (inward b)) (xor_zero_r (inward a)))
    ∙ xor_exchange (inward a) 0 (entered b) 232
    ∙ ap (λ z. bit_xor z 232) (inward-entered a b ha hb)

-- ---- a lane of a round

-- four bytes on their way and a byte of the round key
on_their_way : (p q x y k : ℕ) → p < 256 → q < 256 → x < 256 → y < 256 → k < 256
    → bit_xor (bit_xor (bit_xor (inward p) (inward q)) (bit_xor (inward x) (inward y))) (entered k)
    ≡ entered (bit_xor (bit_xor (bit_xor p q) (bit_xor x y)) k)
on_their_way p q x y k hp hq hx hy hk =
    let pq = xor_lt 8 p q hp hq in
    let xy = xor_lt 8 x y hx hy in
    ap (λ z. bit_xor z (entered k)) (ap₂ bit_xor (inward_sum p q hp hq) (inward_sum x y hx hy) ∙ inward_sum (bit_xor p q) (bit_xor x y) pq xy)
    ∙ inward-entered (bit_xor (bit_xor p q) (bit_xor x y)) k (xor_lt 8 _ _ pq xy) hk

-- a lane of the vector that a round makes
abbrev lane : ℕ → ℕ → ℕ → ℕ → ℕ → ℕ
lane a b c d k = bit_xor (bit_xor (bit_xor (unmixed 14 a) (unmixed 11 b)) (bit_xor (unmixed 13 c) (unmixed 9 d))) (entered k)

row_0 : (a b c d k : ℕ) → a < 256 → b < 256 → c < 256 → d < 256 → k < 256
    → lane a b c d k ≡ entered (bit_xor (bit_xor (bit_xor (times 14 (inv_sub_byte a)) (times 11 (inv_sub_byte b))) (bit_xor (times 13 (inv_sub_byte c)) (times 9 (inv_sub_byte d)))) k)
unfolding unmixed
row_0 a b c d k ha hb hc hd hk =
    on_their_way (times 14 (inv_sub_byte a)) (times 11 (inv_sub_byte b)) (times 13 (inv_sub_byte c)) (times 9 (inv_sub_byte d)) k
    (times_fits 14 _ (inv_sub_byte_fits a ha)) (times_fits 11 _ (inv_sub_byte_fits b hb))
    (times_fits 13 _ (inv_sub_byte_fits c hc)) (times_fits 9 _ (inv_sub_byte_fits d hd)) hk

row_1 : (a b c d k : ℕ) → a < 256 → b < 256 → c < 256 → d < 256 → k < 256
    → lane a b c d k ≡ entered (bit_xor (bit_xor (bit_xor (times 9 (inv_sub_byte d)) (times 14 (inv_sub_byte a))) (bit_xor (times 11 (inv_sub_byte b)) (times 13 (inv_sub_byte c)))) k)
row_1 a b c d k ha hb hc hd hk =
    row_0 a b c d k ha hb hc hd hk
    ∙ ap (λ z. entered (bit_xor z k)) (xor_turn (times 14 (inv_sub_byte a)) (times 11 (inv_sub_byte b)) (times 13 (inv_sub_byte c)) (times 9 (inv_sub_byte d)))

row_2 : (a b c d k : ℕ) → a < 256 → b < 256 → c < 256 → d < 256 → k < 256
    → lane a b c d k ≡ entered (bit_xor (bit_xor (bit_xor (times 13 (inv_sub_byte c)) (times 9 (inv_sub_byte d))) (bit_xor (times 14 (inv_sub_byte a)) (times 11 (inv_sub_byte b)))) k)
row_2 a b c d k ha hb hc hd hk =
    row_1 a b c d k ha hb hc hd hk
    ∙ ap (λ z. entered (bit_xor z k)) (xor_turn (times 9 (inv_sub_byte d)) (times 14 (inv_sub_byte a)) (times 11 (inv_sub_byte b)) (times 13 (inv_sub_byte c)))

row_3 : (a b c d k : ℕ) → a < 256 → b < 256 → c < 256 → d < 256 → k < 256
    → lane a b c d k ≡ entered (bit_xor (bit_xor (bit_xor (times 11 (inv_sub_byte b)) (times 13 (inv_sub_byte c))) (bit_xor (times 9 (inv_sub_byte d)) (times 14 (inv_sub_byte a)))) k)
row_3 a b c d k ha hb hc hd hk =
    row_2 a b c d k ha hb hc hd hk
    ∙ ap (λ z. entered (bit_xor z k)) (xor_turn (times 13 (inv_sub_byte c)) (times 9 (inv_sub_byte d)) (times 14 (inv_sub_byte a)) (times 11 (inv_sub_byte b)))

-- ---- sixteen lanes

-- the lanes of a block after a round
abbrev round_lanes : (ℕ → ℕ) → (ℕ → ℕ) → List ℕ
round_lanes f k =
    lane (f 0) (f 13) (f 10) (f 7) (k 0)
    ∷ lane (f 13) (f 10) (f 7) (f 0) (k 1)
    ∷ lane (f 10) (f 7) (f 0) (f 13) (k 2)
    ∷ lane (f 7) (f 0) (f 13) (f 10) (k 3)
    ∷ lane (f 4) (f 1) (f 14) (f 11) (k 4)
    ∷ lane (f 1) (f 14) (f 11) (f 4) (k 5)
    ∷ lane (f 14) (f 11) (f 4) (f 1) (k 6)
    ∷ lane (f 11) (f 4) (f 1) (f 14) (k 7)
    ∷ lane (f 8) (f 5) (f 2) (f 15) (k 8)
    ∷ lane (f 5) (f 2) (f 15) (f 8) (k 9)
    ∷ lane (f 2) (f 15) (f 8) (f 5) (k 10)
    ∷ lane (f 15) (f 8) (f 5) (f 2) (k 11)
    ∷ lane (f 12) (f 9) (f 6) (f 3) (k 12)
    ∷ lane (f 9) (f 6) (f 3) (f 12) (k 13)
    ∷ lane (f 6) (f 3) (f 12) (f 9) (k 14)
    ∷ lane (f 3) (f 12) (f 9) (f 6) (k 15) ∷ []

-- the state after InvSubBytes and InvShiftRows, InvMixColumns, and AddRoundKey of an unmixed round key
abbrev next_state : List ℕ → List ℕ → List ℕ
next_state s u = add_round_key (inv_mix_columns (inv_sub_bytes (inv_shift_rows s))) u

block_lanes : (f k : ℕ → ℕ) → ((i : ℕ) → f i < 256) → ((i : ℕ) → k i < 256) → round_lanes f k ≡ map entered (next_state (cells f) (cells k))
unfolding xor_bytes inv_shift_rows matrix_product
block_lanes f k hf hk =
    same_16
    (row_0 (f 0) (f 13) (f 10) (f 7) (k 0) (hf 0) (hf 13) (hf 10) (hf 7) (hk 0))
    (row_1 (f 13) (f 10) (f 7) (f 0) (k 1) (hf 13) (hf 10) (hf 7) (hf 0) (hk 1))
    (row_2 (f 10) (f 7) (f 0) (f 13) (k 2) (hf 10) (hf 7) (hf 0) (hf 13) (hk 2))
    (row_3 (f 7) (f 0) (f 13) (f 10) (k 3) (hf 7) (hf 0) (hf 13) (hf 10) (hk 3))
    (row_0 (f 4) (f 1) (f 14) (f 11) (k 4) (hf 4) (hf 1) (hf 14) (hf 11) (hk 4))
    (row_1 (f 1) (f 14) (f 11) (f 4) (k 5) (hf 1) (hf 14) (hf 11) (hf 4) (hk 5))
    (row_2 (f 14) (f 11) (f 4) (f 1) (k 6) (hf 14) (hf 11) (hf 4) (hf 1) (hk 6))
    (row_3 (f 11) (f 4) (f 1) (f 14) (k 7) (hf 11) (hf 4) (hf 1) (hf 14) (hk 7))
    (row_0 (f 8) (f 5) (f 2) (f 15) (k 8) (hf 8) (hf 5) (hf 2) (hf 15) (hk 8))
    (row_1 (f 5) (f 2) (f 15) (f 8) (k 9) (hf 5) (hf 2) (hf 15) (hf 8) (hk 9))
    (row_2 (f 2) (f 15) (f 8) (f 5) (k 10) (hf 2) (hf 15) (hf 8) (hf 5) (hk 10))
    (row_3 (f 15) (f 8) (f 5) (f 2) (k 11) (hf 15) (hf 8) (hf 5) (hf 2) (hk 11))
    (row_0 (f 12) (f 9) (f 6) (f 3) (k 12) (hf 12) (hf 9) (hf 6) (hf 3) (hk 12))
    (row_1 (f 9) (f 6) (f 3) (f 12) (k 13) (hf 9) (hf 6) (hf 3) (hf 12) (hk 13))
    (row_2 (f 6) (f 3) (f 12) (f 9) (k 14) (hf 6) (hf 3) (hf 12) (hf 9) (hk 14))
    (row_3 (f 3) (f 12) (f 9) (f 6) (k 15) (hf 3) (hf 12) (hf 9) (hf 6) (hk 15))

-- what a round makes of its look-ups
abbrev pub combined : List ℕ → List ℕ → List ℕ → List ℕ → List ℕ → List ℕ
combined p q x y k =
    zip2 bit_xor (zip2 bit_xor (zip2 bit_xor (pick_l 0 (p ++ p) INV_SHIFTED) (pick_l 0 (q ++ q) INV_TURNED_ONCE)) (zip2 bit_xor (pick_l 0 (x ++ x) INV_TURNED_TWICE) (pick_l 0 (y ++ y) INV_TURNED_THRICE))) k

pub round_of_one : (s u : List ℕ) → IsBlock s → IsBlock u
    → combined (map (unmixed 14) s) (map (unmixed 11) s) (map (unmixed 13) s) (map (unmixed 9) s) (map entered u) ≡ map entered (next_state s u)
round_of_one s u hs hu =
    let es = as_cells s hs in
    let eu = as_cells u hu in
    (λ i. combined (map (unmixed 14) (es i)) (map (unmixed 11) (es i)) (map (unmixed 13) (es i)) (map (unmixed 9) (es i)) (map entered (eu i)))
    ∙ block_lanes (slice_index s) (slice_index u) (λ i. byte_at s i hs.bytes) (λ i. byte_at u i hu.bytes)
    ∙ sym (λ i. map entered (next_state (es i) (eu i)))

-- ---- the last round

abbrev last_lanes : (ℕ → ℕ) → (ℕ → ℕ) → List ℕ
last_lanes f k =
    bit_xor (inv_sub_byte (f 0)) (k 0)
    ∷ bit_xor (inv_sub_byte (f 13)) (k 1)
    ∷ bit_xor (inv_sub_byte (f 10)) (k 2)
    ∷ bit_xor (inv_sub_byte (f 7)) (k 3)
    ∷ bit_xor (inv_sub_byte (f 4)) (k 4)
    ∷ bit_xor (inv_sub_byte (f 1)) (k 5)
    ∷ bit_xor (inv_sub_byte (f 14)) (k 6)
    ∷ bit_xor (inv_sub_byte (f 11)) (k 7)
    ∷ bit_xor (inv_sub_byte (f 8)) (k 8)
    ∷ bit_xor (inv_sub_byte (f 5)) (k 9)
    ∷ bit_xor (inv_sub_byte (f 2)) (k 10)
    ∷ bit_xor (inv_sub_byte (f 15)) (k 11)
    ∷ bit_xor (inv_sub_byte (f 12)) (k 12)
    ∷ bit_xor (inv_sub_byte (f 9)) (k 13)
    ∷ bit_xor (inv_sub_byte (f 6)) (k 14)
    ∷ bit_xor (inv_sub_byte (f 3)) (k 15) ∷ []

last_block_lanes : (f k : ℕ → ℕ) → last_lanes f k ≡ add_round_key (inv_sub_bytes (inv_shift_rows (cells f))) (cells k)
unfolding xor_bytes inv_shift_rows
last_block_lanes f k = refl

abbrev pub last_combined : List ℕ → List ℕ → List ℕ
last_combined o k = zip2 bit_xor (pick_l 0 (o ++ o) INV_SHIFTED) k

pub last_of_one : (s k : List ℕ) → IsBlock s → IsBlock k → last_combined (map inv_sub_byte s) k ≡ add_round_key (inv_sub_bytes (inv_shift_rows s)) k
last_of_one s k hs hk =
    let es = as_cells s hs in
    let ek = as_cells k hk in
    (λ i. last_combined (map inv_sub_byte (es i)) (ek i))
    ∙ last_block_lanes (slice_index s) (slice_index k)
    ∙ sym (λ i. add_round_key (inv_sub_bytes (inv_shift_rows (es i))) (ek i))
