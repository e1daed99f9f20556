-- Halves of bytes, and what is looked up at them, each computed at all 256 bytes.
use Rattle.std.proofs.Common.{◌≡◌, ℕ, ◌/◌, ◌%◌, ◌<◌, ◌==◌, true, List, map, bit_xor, refl, sym, ap, ◌∙◌, slice_index}
use Rattle.std.proofs.lemmas.Simd.{map-map, zip2_of_maps}
use Rattle.std.specs.List.{All}
use Rattle.std.specs.Simd.Lanes.{zip2}
use Rattle.aes_cbc.specs.Field.{times, product_by_bits}
use Rattle.aes_cbc.proofs.EachByte.{passes_below, same_below}
use Rattle.aes_cbc.specs.Look.{look, is_place}
use Rattle.aes_cbc.specs.Tower.{tower, once, twice, thrice, last, left_half, right_half}
use Rattle.aes_cbc.specs.declared.tower.TheConstants.{INVERSES, SCALED_INVERSES}
use Rattle.aes_cbc.specs.declared.sbox.TheConstants.{ONCE_LEFT, ONCE_RIGHT, TWICE_LEFT, TWICE_RIGHT, LAST_LEFT, LAST_RIGHT}
use Rattle.aes_cbc.proofs.SboxTable.{SBOX, sbox-entry}
use Rattle.aes_cbc.proofs.LookUps.{map_agree}

abbrev pub both_of : ℕ → ℕ
both_of x = bit_xor (x % 16) (x / 16)

abbrev pub left_of : ℕ → ℕ
left_of x = bit_xor (look INVERSES (x / 16)) (look SCALED_INVERSES (x % 16))

abbrev pub right_of : ℕ → ℕ
right_of x = bit_xor (look INVERSES (both_of x)) (look SCALED_INVERSES (x % 16))

pub low_test : passes_below (λ x. is_place (x % 16)) 256 ≡ true
unfolding passes_below
low_test = refl

pub high_test : passes_below (λ x. is_place (x / 16)) 256 ≡ true
unfolding passes_below
high_test = refl

pub both_test : passes_below (λ x. is_place (both_of x)) 256 ≡ true
unfolding passes_below
both_test = refl

pub left_test : passes_below (λ x. is_place (left_of x)) 256 ≡ true
unfolding passes_below
left_test = refl

pub right_test : passes_below (λ x. is_place (right_of x)) 256 ≡ true
unfolding passes_below
right_test = refl

pub left_half_test : passes_below (λ x. is_place (left_half x)) 256 ≡ true
unfolding passes_below left_half
left_half_test = refl

pub right_half_test : passes_below (λ x. is_place (right_half x)) 256 ≡ true
unfolding passes_below right_half
right_half_test = refl

-- what two tables hold at the halves of a byte that t takes into the tower
abbrev pub at_halves : (ℕ → ℕ) → List ℕ → List ℕ → ℕ → ℕ
at_halves t l r b = bit_xor (look l (left_half (t b))) (look r (right_half (t b)))

once_test : passes_below (λ b. at_halves tower ONCE_LEFT ONCE_RIGHT b == bit_xor (tower (slice_index SBOX b)) 91) 256 ≡ true
unfolding passes_below tower left_half right_half
once_test = refl

pub once_entry : (b : ℕ) → b < 256 → at_halves tower ONCE_LEFT ONCE_RIGHT b ≡ once b
unfolding once
once_entry b lt =
    same_below (at_halves tower ONCE_LEFT ONCE_RIGHT) (λ b. bit_xor (tower (slice_index SBOX b)) 91) 256 once_test b lt
    ∙ ap (λ x. bit_xor (tower x) 91) (sbox-entry b lt)

twice_test : passes_below (λ b. at_halves tower TWICE_LEFT TWICE_RIGHT b == bit_xor (tower (times 2 (slice_index SBOX b))) 78) 256 ≡ true
unfolding passes_below tower left_half right_half times product_by_bits
twice_test = refl

pub twice_entry : (b : ℕ) → b < 256 → at_halves tower TWICE_LEFT TWICE_RIGHT b ≡ twice b
unfolding twice
twice_entry b lt =
    same_below (at_halves tower TWICE_LEFT TWICE_RIGHT) (λ b. bit_xor (tower (times 2 (slice_index SBOX b))) 78) 256 twice_test b lt
    ∙ ap (λ x. bit_xor (tower (times 2 x)) 78) (sbox-entry b lt)

last_test : passes_below (λ b. at_halves tower LAST_LEFT LAST_RIGHT b == bit_xor (slice_index SBOX b) 99) 256 ≡ true
unfolding passes_below tower left_half right_half
last_test = refl

pub last_entry : (b : ℕ) → b < 256 → at_halves tower LAST_LEFT LAST_RIGHT b ≡ last b
unfolding last
last_entry b lt =
    same_below (at_halves tower LAST_LEFT LAST_RIGHT) (λ b. bit_xor (slice_index SBOX b) 99) 256 last_test b lt
    ∙ ap (λ x. bit_xor x 99) (sbox-entry b lt)

-- the sum of once and twice, computed
thrice_test : passes_below (λ b. bit_xor (bit_xor (tower (slice_index SBOX b)) 91) (bit_xor (tower (times 2 (slice_index SBOX b))) 78) == bit_xor (tower (times 3 (slice_index SBOX b))) 21) 256 ≡ true
unfolding passes_below tower times product_by_bits
thrice_test = refl

pub thrice_entry : (b : ℕ) → b < 256 → bit_xor (once b) (twice b) ≡ thrice b
unfolding once twice thrice
thrice_entry b lt =
    let e = sbox-entry b lt in
    ap (λ x. bit_xor (bit_xor (tower x) 91) (bit_xor (tower (times 2 x)) 78)) (sym e)
    ∙ same_below (λ b. bit_xor (bit_xor (tower (slice_index SBOX b)) 91) (bit_xor (tower (times 2 (slice_index SBOX b))) 78)) (λ b. bit_xor (tower (times 3 (slice_index SBOX b))) 21) 256 thrice_test b lt
    ∙ ap (λ x. bit_xor (tower (times 3 x)) 21) e

-- two look-ups at the halves of bytes in the tower
pub at_halves_lanes : (t : ℕ → ℕ) (l r s bytes left right x y : List ℕ) (f : ℕ → ℕ) → All (λ b. b < 256) s → bytes ≡ map t s
    → left ≡ map left_half bytes → right ≡ map right_half bytes → x ≡ map (look l) left → y ≡ map (look r) right
    → ((b : ℕ) → b < 256 → at_halves t l r b ≡ f b) → zip2 bit_xor x y ≡ map f s
at_halves_lanes t l r s bytes left right x y f fits of_s of_left of_right of_x of_y same =
    let at_left : x ≡ map (λ b. look l (left_half (t b))) s
    = of_x ∙ ap (map (look l)) (of_left ∙ ap (map left_half) of_s ∙ map-map left_half t s) ∙ map-map (look l) (λ b. left_half (t b)) s in
    let at_right : y ≡ map (λ b. look r (right_half (t b))) s
    = of_y ∙ ap (map (look r)) (of_right ∙ ap (map right_half) of_s ∙ map-map right_half t s) ∙ map-map (look r) (λ b. right_half (t b)) s in
    zip2_of_maps bit_xor (λ b. look l (left_half (t b))) (λ b. look r (right_half (t b))) s at_left at_right
    ∙ map_agree (at_halves t l r) f s fits same
