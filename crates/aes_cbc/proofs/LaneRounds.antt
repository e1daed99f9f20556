-- A round by shuffles is the round of the standard.
use Rattle.std.proofs.Common.{◌≡◌, ℕ, ◌+◌, ◌*◌, ◌/◌, ◌%◌, ◌^◌, ◌<◌, ◌==◌, true, List, [], ◌∷◌, ◌++◌, map, slice_index, bit_xor, refl, sym, ap, ap₂, ◌∙◌, arith}
use Rattle.std.proofs.lemmas.Nat.{xor_block, xor_lt}
use lib.Bits.{xor_zero_r}
use Rattle.std.specs.Simd.Lanes.{zip2}
use lib.Lanes.{pick_l}
use Rattle.aes_cbc.specs.Block.{IsBlock, xor_bytes}
use Rattle.aes_cbc.specs.Field.{times, product_by_bits}
use Rattle.aes_cbc.specs.SubByte.{sub_byte}
use Rattle.aes_cbc.specs.Round.{sub_bytes, shift_rows, matrix_product, mix_columns, add_round_key}
use Rattle.aes_cbc.proofs.EachByte.{passes_below, passes_below-at, same_below}
use Rattle.aes_cbc.proofs.BlockLemmas.{same_16, from_entries-entry}
use Rattle.aes_cbc.proofs.InverseSboxTable.{sub_byte_fits}
use Rattle.aes_cbc.proofs.ProductBytes.{times_fits}
use Rattle.aes_cbc.proofs.XorLaws.{xor_exchange, xor_turn}
use Rattle.ghost_list.proofs.ByteLists.{byte_at}
use Rattle.aes_cbc.specs.Look.{look}
use Rattle.aes_cbc.specs.Tower.{tower, once, twice, thrice, last, keyed, last_keyed}
use Rattle.aes_cbc.specs.declared.tower.TheConstants.{TOWER_LOW, TOWER_HIGH}
use Rattle.aes_cbc.specs.declared.round.TheConstants.{SHIFTED, TURNED_ONCE, TURNED_TWICE, TURNED_THRICE}
use Rattle.aes_cbc.proofs.Halves.{thrice_entry}

-- the state after a round under round key k that mixes
abbrev next_state : List ℕ → List ℕ → List ℕ
next_state s k = add_round_key (mix_columns (shift_rows (sub_bytes s))) k

-- the state after the last round
abbrev last_state : List ℕ → List ℕ → List ℕ
last_state s k = add_round_key (shift_rows (sub_bytes s)) k

-- ---- the tower is linear

low_test : passes_below (λ x. passes_below (λ y. bit_xor (look TOWER_LOW x) (look TOWER_LOW y) == look TOWER_LOW (bit_xor x y)) 16) 16 ≡ true
unfolding passes_below
low_test = refl

high_test : passes_below (λ x. passes_below (λ y. bit_xor (look TOWER_HIGH x) (look TOWER_HIGH y) == look TOWER_HIGH (bit_xor x y)) 16) 16 ≡ true
unfolding passes_below
high_test = refl

low_linear : (x y : ℕ) → x < 16 → y < 16 → bit_xor (look TOWER_LOW x) (look TOWER_LOW y) ≡ look TOWER_LOW (bit_xor x y)
low_linear x y hx hy =
    same_below (λ y. bit_xor (look TOWER_LOW x) (look TOWER_LOW y)) (λ y. look TOWER_LOW (bit_xor x y)) 16
    (passes_below-at (λ x. passes_below (λ y. bit_xor (look TOWER_LOW x) (look TOWER_LOW y) == look TOWER_LOW (bit_xor x y)) 16) 16 low_test x hx) y hy

high_linear : (x y : ℕ) → x < 16 → y < 16 → bit_xor (look TOWER_HIGH x) (look TOWER_HIGH y) ≡ look TOWER_HIGH (bit_xor x y)
high_linear x y hx hy =
    same_below (λ y. bit_xor (look TOWER_HIGH x) (look TOWER_HIGH y)) (λ y. look TOWER_HIGH (bit_xor x y)) 16
    (passes_below-at (λ x. passes_below (λ y. bit_xor (look TOWER_HIGH x) (look TOWER_HIGH y) == look TOWER_HIGH (bit_xor x y)) 16) 16 high_test x hx) y hy

-- a sum by its halves
pub xor_halves : (a b : ℕ) → bit_xor a b ≡ bit_xor (a / 16) (b / 16) * 16 + bit_xor (a % 16) (b % 16)
xor_halves a b =
    let of_a : a ≡ a / 16 * 2 ^ 4 + a % 16 = omega arith in
    let of_b : b ≡ b / 16 * 2 ^ 4 + b % 16 = omega arith in
    ap (λ x. bit_xor x b) of_a ∙ ap (bit_xor (a / 16 * 2 ^ 4 + a % 16)) of_b
    ∙ xor_block 4 (a / 16) (b / 16) (a % 16) (b % 16) (omega arith) (omega arith)

pub tower_sum : (a b : ℕ) → a < 256 → b < 256 → bit_xor (tower a) (tower b) ≡ tower (bit_xor a b)
unfolding tower
tower_sum a b ha hb =
    let whole = xor_halves a b in
    let small : bit_xor (a % 16) (b % 16) < 2 ^ 4 = xor_lt 4 (a % 16) (b % 16) (omega arith) (omega arith) in
    let low : bit_xor (a % 16) (b % 16) ≡ bit_xor a b % 16 = omega arith in
    let high : bit_xor (a / 16) (b / 16) ≡ bit_xor a b / 16 = omega arith in
    xor_exchange (look TOWER_LOW (a % 16)) (look TOWER_HIGH (a / 16)) (look TOWER_LOW (b % 16)) (look TOWER_HIGH (b / 16))
    ∙ ap₂ bit_xor (low_linear (a % 16) (b % 16) (omega arith) (omega arith) ∙ ap (look TOWER_LOW) low)
    (high_linear (a / 16) (b / 16) (omega arith) (omega arith) ∙ ap (look TOWER_HIGH) high)

-- ---- a lane of a round

-- the constants of five look-ups go
constants : (p q x y k : ℕ)
    → bit_xor (bit_xor (bit_xor (bit_xor p 78) (bit_xor q 21)) (bit_xor (bit_xor x 91) (bit_xor y 91))) (bit_xor k 91)
    ≡ bit_xor (bit_xor (bit_xor p q) (bit_xor x y)) k
constants p q x y k =
    ap (λ z. bit_xor z (bit_xor k 91))
    (ap₂ bit_xor (xor_exchange p 78 q 21) (xor_exchange x 91 y 91) ∙ xor_exchange (bit_xor p q) 91 (bit_xor x y) 0)
    ∙ xor_exchange (bit_xor (bit_xor p q) (bit_xor x y)) 91 k 91
    ∙ xor_zero_r _

-- the same of bytes in the tower
in_tower : (p q x y k : ℕ) → p < 256 → q < 256 → x < 256 → y < 256 → k < 256
    → bit_xor (bit_xor (bit_xor (bit_xor (tower p) 78) (bit_xor (tower q) 21)) (bit_xor (bit_xor (tower x) 91) (bit_xor (tower y) 91))) (bit_xor (tower k) 91)
    ≡ tower (bit_xor (bit_xor (bit_xor p q) (bit_xor x y)) k)
in_tower p q x y k hp hq hx hy hk =
    let pq = xor_lt 8 p q hp hq in
    let xy = xor_lt 8 x y hx hy in
    constants (tower p) (tower q) (tower x) (tower y) (tower k)
    ∙ ap (λ z. bit_xor z (tower k)) (ap₂ bit_xor (tower_sum p q hp hq) (tower_sum x y hx hy) ∙ tower_sum (bit_xor p q) (bit_xor x y) pq xy)
    ∙ tower_sum (bit_xor (bit_xor p q) (bit_xor x y)) k (xor_lt 8 _ _ pq xy) hk

-- once a byte is the byte
one_test : passes_below (λ x. x == times 1 x) 256 ≡ true
unfolding passes_below times product_by_bits
one_test = refl

one_time : (x : ℕ) → x < 256 → x ≡ times 1 x
one_time x h = same_below (λ x. x) (times 1) 256 one_test x h

-- a lane of the vector that a round makes
abbrev lane : ℕ → ℕ → ℕ → ℕ → ℕ → ℕ
lane a b c d k = bit_xor (bit_xor (bit_xor (twice a) (bit_xor (once b) (twice b))) (bit_xor (once c) (once d))) (keyed k)

row_0 : (a b c d k : ℕ) → a < 256 → b < 256 → c < 256 → d < 256 → k < 256
    → lane a b c d k ≡ tower (bit_xor (bit_xor (bit_xor (times 2 (sub_byte a)) (times 3 (sub_byte b))) (bit_xor (times 1 (sub_byte c)) (times 1 (sub_byte d)))) k)
unfolding once twice thrice keyed
row_0 a b c d k ha hb hc hd hk =
    let sa = sub_byte_fits a ha in
    let sb = sub_byte_fits b hb in
    let sc = sub_byte_fits c hc in
    let sd = sub_byte_fits d hd in
    ap₂ (λ x y. bit_xor (bit_xor (bit_xor (twice a) x) y) (keyed k)) (thrice_entry b hb)
    (ap₂ (λ x y. bit_xor (bit_xor (tower x) 91) (bit_xor (tower y) 91)) (one_time (sub_byte c) sc) (one_time (sub_byte d) sd))
    ∙ in_tower (times 2 (sub_byte a)) (times 3 (sub_byte b)) (times 1 (sub_byte c)) (times 1 (sub_byte d)) k
    (times_fits 2 _ sa) (times_fits 3 _ sb) (times_fits 1 _ sc) (times_fits 1 _ sd) hk

row_1 : (a b c d k : ℕ) → a < 256 → b < 256 → c < 256 → d < 256 → k < 256
    → lane a b c d k ≡ tower (bit_xor (bit_xor (bit_xor (times 1 (sub_byte d)) (times 2 (sub_byte a))) (bit_xor (times 3 (sub_byte b)) (times 1 (sub_byte c)))) k)
row_1 a b c d k ha hb hc hd hk =
    row_0 a b c d k ha hb hc hd hk
    ∙ ap (λ z. tower (bit_xor z k)) (xor_turn (times 2 (sub_byte a)) (times 3 (sub_byte b)) (times 1 (sub_byte c)) (times 1 (sub_byte d)))

row_2 : (a b c d k : ℕ) → a < 256 → b < 256 → c < 256 → d < 256 → k < 256
    → lane a b c d k ≡ tower (bit_xor (bit_xor (bit_xor (times 1 (sub_byte c)) (times 1 (sub_byte d))) (bit_xor (times 2 (sub_byte a)) (times 3 (sub_byte b)))) k)
row_2 a b c d k ha hb hc hd hk =
    row_1 a b c d k ha hb hc hd hk
    ∙ ap (λ z. tower (bit_xor z k)) (xor_turn (times 1 (sub_byte d)) (times 2 (sub_byte a)) (times 3 (sub_byte b)) (times 1 (sub_byte c)))

row_3 : (a b c d k : ℕ) → a < 256 → b < 256 → c < 256 → d < 256 → k < 256
    → lane a b c d k ≡ tower (bit_xor (bit_xor (bit_xor (times 3 (sub_byte b)) (times 1 (sub_byte c))) (bit_xor (times 1 (sub_byte d)) (times 2 (sub_byte a)))) k)
row_3 a b c d k ha hb hc hd hk =
    row_2 a b c d k ha hb hc hd hk
    ∙ ap (λ z. tower (bit_xor z k)) (xor_turn (times 1 (sub_byte c)) (times 1 (sub_byte d)) (times 2 (sub_byte a)) (times 3 (sub_byte b)))

-- ---- sixteen lanes

abbrev pub cells : (ℕ → ℕ) → List ℕ
cells f = f 0 ∷ f 1 ∷ f 2 ∷ f 3 ∷ f 4 ∷ f 5 ∷ f 6 ∷ f 7 ∷ f 8 ∷ f 9 ∷ f 10 ∷ f 11 ∷ f 12 ∷ f 13 ∷ f 14 ∷ f 15 ∷ []

-- the lanes of a block after a round
abbrev round_lanes : (ℕ → ℕ) → (ℕ → ℕ) → List ℕ
round_lanes f k =
    lane (f 0) (f 5) (f 10) (f 15) (k 0)
    ∷ lane (f 5) (f 10) (f 15) (f 0) (k 1)
    ∷ lane (f 10) (f 15) (f 0) (f 5) (k 2)
    ∷ lane (f 15) (f 0) (f 5) (f 10) (k 3)
    ∷ lane (f 4) (f 9) (f 14) (f 3) (k 4)
    ∷ lane (f 9) (f 14) (f 3) (f 4) (k 5)
    ∷ lane (f 14) (f 3) (f 4) (f 9) (k 6)
    ∷ lane (f 3) (f 4) (f 9) (f 14) (k 7)
    ∷ lane (f 8) (f 13) (f 2) (f 7) (k 8)
    ∷ lane (f 13) (f 2) (f 7) (f 8) (k 9)
    ∷ lane (f 2) (f 7) (f 8) (f 13) (k 10)
    ∷ lane (f 7) (f 8) (f 13) (f 2) (k 11)
    ∷ lane (f 12) (f 1) (f 6) (f 11) (k 12)
    ∷ lane (f 1) (f 6) (f 11) (f 12) (k 13)
    ∷ lane (f 6) (f 11) (f 12) (f 1) (k 14)
    ∷ lane (f 11) (f 12) (f 1) (f 6) (k 15) ∷ []

block_lanes : (f k : ℕ → ℕ) → ((i : ℕ) → f i < 256) → ((i : ℕ) → k i < 256) → round_lanes f k ≡ map tower (next_state (cells f) (cells k))
unfolding xor_bytes shift_rows matrix_product
block_lanes f k hf hk =
    same_16
    (row_0 (f 0) (f 5) (f 10) (f 15) (k 0) (hf 0) (hf 5) (hf 10) (hf 15) (hk 0))
    (row_1 (f 5) (f 10) (f 15) (f 0) (k 1) (hf 5) (hf 10) (hf 15) (hf 0) (hk 1))
    (row_2 (f 10) (f 15) (f 0) (f 5) (k 2) (hf 10) (hf 15) (hf 0) (hf 5) (hk 2))
    (row_3 (f 15) (f 0) (f 5) (f 10) (k 3) (hf 15) (hf 0) (hf 5) (hf 10) (hk 3))
    (row_0 (f 4) (f 9) (f 14) (f 3) (k 4) (hf 4) (hf 9) (hf 14) (hf 3) (hk 4))
    (row_1 (f 9) (f 14) (f 3) (f 4) (k 5) (hf 9) (hf 14) (hf 3) (hf 4) (hk 5))
    (row_2 (f 14) (f 3) (f 4) (f 9) (k 6) (hf 14) (hf 3) (hf 4) (hf 9) (hk 6))
    (row_3 (f 3) (f 4) (f 9) (f 14) (k 7) (hf 3) (hf 4) (hf 9) (hf 14) (hk 7))
    (row_0 (f 8) (f 13) (f 2) (f 7) (k 8) (hf 8) (hf 13) (hf 2) (hf 7) (hk 8))
    (row_1 (f 13) (f 2) (f 7) (f 8) (k 9) (hf 13) (hf 2) (hf 7) (hf 8) (hk 9))
    (row_2 (f 2) (f 7) (f 8) (f 13) (k 10) (hf 2) (hf 7) (hf 8) (hf 13) (hk 10))
    (row_3 (f 7) (f 8) (f 13) (f 2) (k 11) (hf 7) (hf 8) (hf 13) (hf 2) (hk 11))
    (row_0 (f 12) (f 1) (f 6) (f 11) (k 12) (hf 12) (hf 1) (hf 6) (hf 11) (hk 12))
    (row_1 (f 1) (f 6) (f 11) (f 12) (k 13) (hf 1) (hf 6) (hf 11) (hf 12) (hk 13))
    (row_2 (f 6) (f 11) (f 12) (f 1) (k 14) (hf 6) (hf 11) (hf 12) (hf 1) (hk 14))
    (row_3 (f 11) (f 12) (f 1) (f 6) (k 15) (hf 11) (hf 12) (hf 1) (hf 6) (hk 15))

pub as_cells : (s : List ℕ) → IsBlock s → s ≡ cells (slice_index s)
as_cells s h = sym (from_entries-entry s h.long)

-- ---- the last round

abbrev last_lanes : (ℕ → ℕ) → (ℕ → ℕ) → List ℕ
last_lanes f k =
    bit_xor (last (f 0)) (last_keyed (k 0))
    ∷ bit_xor (last (f 5)) (last_keyed (k 1))
    ∷ bit_xor (last (f 10)) (last_keyed (k 2))
    ∷ bit_xor (last (f 15)) (last_keyed (k 3))
    ∷ bit_xor (last (f 4)) (last_keyed (k 4))
    ∷ bit_xor (last (f 9)) (last_keyed (k 5))
    ∷ bit_xor (last (f 14)) (last_keyed (k 6))
    ∷ bit_xor (last (f 3)) (last_keyed (k 7))
    ∷ bit_xor (last (f 8)) (last_keyed (k 8))
    ∷ bit_xor (last (f 13)) (last_keyed (k 9))
    ∷ bit_xor (last (f 2)) (last_keyed (k 10))
    ∷ bit_xor (last (f 7)) (last_keyed (k 11))
    ∷ bit_xor (last (f 12)) (last_keyed (k 12))
    ∷ bit_xor (last (f 1)) (last_keyed (k 13))
    ∷ bit_xor (last (f 6)) (last_keyed (k 14))
    ∷ bit_xor (last (f 11)) (last_keyed (k 15)) ∷ []

last_lane : (a k : ℕ) → bit_xor (last a) (last_keyed k) ≡ bit_xor (sub_byte a) k
unfolding last last_keyed
last_lane a k = xor_exchange (sub_byte a) 99 k 99 ∙ xor_zero_r _

last_block_lanes : (f k : ℕ → ℕ) → last_lanes f k ≡ last_state (cells f) (cells k)
unfolding xor_bytes shift_rows
last_block_lanes f k =
    same_16
    (last_lane (f 0) (k 0))
    (last_lane (f 5) (k 1))
    (last_lane (f 10) (k 2))
    (last_lane (f 15) (k 3))
    (last_lane (f 4) (k 4))
    (last_lane (f 9) (k 5))
    (last_lane (f 14) (k 6))
    (last_lane (f 3) (k 7))
    (last_lane (f 8) (k 8))
    (last_lane (f 13) (k 9))
    (last_lane (f 2) (k 10))
    (last_lane (f 7) (k 11))
    (last_lane (f 12) (k 12))
    (last_lane (f 1) (k 13))
    (last_lane (f 6) (k 14))
    (last_lane (f 11) (k 15))

abbrev pub combined : List ℕ → List ℕ → List ℕ → List ℕ
combined o w k =
    let h = zip2 bit_xor o w in
    zip2 bit_xor (zip2 bit_xor (zip2 bit_xor (pick_l 0 (w ++ w) SHIFTED) (pick_l 0 (h ++ h) TURNED_ONCE)) (zip2 bit_xor (pick_l 0 (o ++ o) TURNED_TWICE) (pick_l 0 (o ++ o) TURNED_THRICE))) k

pub round_of_one : (s k : List ℕ) → IsBlock s → IsBlock k → combined (map once s) (map twice s) (map keyed k) ≡ map tower (next_state s k)
round_of_one s k hs hk =
    let es = as_cells s hs in
    let ek = as_cells k hk in
    (λ i. combined (map once (es i)) (map twice (es i)) (map keyed (ek i)))
    ∙ block_lanes (slice_index s) (slice_index k) (λ i. byte_at s i hs.bytes) (λ i. byte_at k i hk.bytes)
    ∙ sym (λ i. map tower (next_state (es i) (ek i)))

abbrev pub last_combined : List ℕ → List ℕ → List ℕ
last_combined o k = zip2 bit_xor (pick_l 0 (o ++ o) SHIFTED) k

pub last_of_one : (s k : List ℕ) → IsBlock s → IsBlock k → last_combined (map last s) (map last_keyed k) ≡ last_state s k
last_of_one s k hs hk =
    let es = as_cells s hs in
    let ek = as_cells k hk in
    (λ i. last_combined (map last (es i)) (map last_keyed (ek i)))
    ∙ last_block_lanes (slice_index s) (slice_index k)
    ∙ sym (λ i. last_state (es i) (ek i))
