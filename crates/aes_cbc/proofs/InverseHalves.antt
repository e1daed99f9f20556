-- What the rounds of the inverse cipher look up at halves of bytes, each computed at all 256 bytes.
use Rattle.std.proofs.Common.{◌≡◌, ℕ, ◌<◌, ◌==◌, true, refl, ap, ◌∙◌, slice_index, bit_xor, List, map}
use Rattle.std.proofs.lemmas.Simd.{zip2_of_maps}
use Rattle.std.specs.List.{All}
use Rattle.std.specs.Simd.Lanes.{zip2}
use Rattle.aes_cbc.specs.Field.{times, product_by_bits}
use Rattle.aes_cbc.specs.InverseCipher.{inv_sub_byte}
use Rattle.aes_cbc.specs.Tower.{left_half, right_half}
use Rattle.aes_cbc.specs.InverseTower.{entered, inward, unmixed}
use Rattle.aes_cbc.specs.declared.inverse_sbox.TheConstants.{SEVEN_LEFT, SEVEN_RIGHT, TWICE_LEFT, TWICE_RIGHT, FOUR_LEFT, FOUR_RIGHT, NINE_LEFT, NINE_RIGHT, LAST_LEFT, LAST_RIGHT}
use Rattle.aes_cbc.proofs.EachByte.{passes_below, same_below}
use Rattle.aes_cbc.proofs.InverseSboxTable.{INVERSE_SBOX, inverse_sbox-entry, inv_sub_byte_fits}
use Rattle.aes_cbc.proofs.LookUps.{map_agree}
use Rattle.aes_cbc.proofs.Halves.{at_halves}

seven_test : passes_below (λ b. at_halves entered SEVEN_LEFT SEVEN_RIGHT b == inward (times 7 (slice_index INVERSE_SBOX b))) 256 ≡ true
unfolding passes_below entered inward left_half right_half times product_by_bits
seven_test = refl

pub seven_entry : (b : ℕ) → b < 256 → at_halves entered SEVEN_LEFT SEVEN_RIGHT b ≡ unmixed 7 b
unfolding unmixed
seven_entry b lt =
    same_below (at_halves entered SEVEN_LEFT SEVEN_RIGHT) (λ b. inward (times 7 (slice_index INVERSE_SBOX b))) 256 seven_test b lt
    ∙ ap (λ x. inward (times 7 x)) (inverse_sbox-entry b lt)

twice_test : passes_below (λ b. at_halves entered TWICE_LEFT TWICE_RIGHT b == inward (times 2 (slice_index INVERSE_SBOX b))) 256 ≡ true
unfolding passes_below entered inward left_half right_half times product_by_bits
twice_test = refl

pub twice_entry : (b : ℕ) → b < 256 → at_halves entered TWICE_LEFT TWICE_RIGHT b ≡ unmixed 2 b
unfolding unmixed
twice_entry b lt =
    same_below (at_halves entered TWICE_LEFT TWICE_RIGHT) (λ b. inward (times 2 (slice_index INVERSE_SBOX b))) 256 twice_test b lt
    ∙ ap (λ x. inward (times 2 x)) (inverse_sbox-entry b lt)

four_test : passes_below (λ b. at_halves entered FOUR_LEFT FOUR_RIGHT b == inward (times 4 (slice_index INVERSE_SBOX b))) 256 ≡ true
unfolding passes_below entered inward left_half right_half times product_by_bits
four_test = refl

pub four_entry : (b : ℕ) → b < 256 → at_halves entered FOUR_LEFT FOUR_RIGHT b ≡ unmixed 4 b
unfolding unmixed
four_entry b lt =
    same_below (at_halves entered FOUR_LEFT FOUR_RIGHT) (λ b. inward (times 4 (slice_index INVERSE_SBOX b))) 256 four_test b lt
    ∙ ap (λ x. inward (times 4 x)) (inverse_sbox-entry b lt)

nine_test : passes_below (λ b. at_halves entered NINE_LEFT NINE_RIGHT b == inward (times 9 (slice_index INVERSE_SBOX b))) 256 ≡ true
unfolding passes_below entered inward left_half right_half times product_by_bits
nine_test = refl

pub nine_entry : (b : ℕ) → b < 256 → at_halves entered NINE_LEFT NINE_RIGHT b ≡ unmixed 9 b
unfolding unmixed
nine_entry b lt =
    same_below (at_halves entered NINE_LEFT NINE_RIGHT) (λ b. inward (times 9 (slice_index INVERSE_SBOX b))) 256 nine_test b lt
    ∙ ap (λ x. inward (times 9 x)) (inverse_sbox-entry b lt)

last_test : passes_below (λ b. at_halves entered LAST_LEFT LAST_RIGHT b == slice_index INVERSE_SBOX b) 256 ≡ true
unfolding passes_below entered left_half right_half
last_test = refl

pub last_entry : (b : ℕ) → b < 256 → at_halves entered LAST_LEFT LAST_RIGHT b ≡ inv_sub_byte b
last_entry b lt =
    same_below (at_halves entered LAST_LEFT LAST_RIGHT) (λ b. slice_index INVERSE_SBOX b) 256 last_test b lt
    ∙ inverse_sbox-entry b lt

-- ---- sums of two of them

fourteen_sums : passes_below (λ x. bit_xor (inward (times 9 x)) (inward (times 7 x)) == inward (times 14 x)) 256 ≡ true
unfolding passes_below entered inward times product_by_bits
fourteen_sums = refl

pub fourteen_sum : (b : ℕ) → b < 256 → bit_xor (unmixed 9 b) (unmixed 7 b) ≡ unmixed 14 b
unfolding unmixed
fourteen_sum b lt =
    same_below (λ x. bit_xor (inward (times 9 x)) (inward (times 7 x))) (λ x. inward (times 14 x)) 256 fourteen_sums (inv_sub_byte b) (inv_sub_byte_fits b lt)

eleven_sums : passes_below (λ x. bit_xor (inward (times 9 x)) (inward (times 2 x)) == inward (times 11 x)) 256 ≡ true
unfolding passes_below entered inward times product_by_bits
eleven_sums = refl

pub eleven_sum : (b : ℕ) → b < 256 → bit_xor (unmixed 9 b) (unmixed 2 b) ≡ unmixed 11 b
unfolding unmixed
eleven_sum b lt =
    same_below (λ x. bit_xor (inward (times 9 x)) (inward (times 2 x))) (λ x. inward (times 11 x)) 256 eleven_sums (inv_sub_byte b) (inv_sub_byte_fits b lt)

thirteen_sums : passes_below (λ x. bit_xor (inward (times 9 x)) (inward (times 4 x)) == inward (times 13 x)) 256 ≡ true
unfolding passes_below entered inward times product_by_bits
thirteen_sums = refl

pub thirteen_sum : (b : ℕ) → b < 256 → bit_xor (unmixed 9 b) (unmixed 4 b) ≡ unmixed 13 b
unfolding unmixed
thirteen_sum b lt =
    same_below (λ x. bit_xor (inward (times 9 x)) (inward (times 4 x))) (λ x. inward (times 13 x)) 256 thirteen_sums (inv_sub_byte b) (inv_sub_byte_fits b lt)

-- the sum of two look-ups
pub sum_lanes : (n m k : ℕ) (s x y : List ℕ) → All (λ b. b < 256) s → x ≡ map (unmixed n) s → y ≡ map (unmixed m) s
    → ((b : ℕ) → b < 256 → bit_xor (unmixed n b) (unmixed m b) ≡ unmixed k b) → zip2 bit_xor x y ≡ map (unmixed k) s
sum_lanes n m k s x y fits of_x of_y same =
    zip2_of_maps bit_xor (unmixed n) (unmixed m) s of_x of_y
    ∙ map_agree (λ b. bit_xor (unmixed n b) (unmixed m b)) (unmixed k) s fits same
