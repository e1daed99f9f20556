-- Sums of blocks, byte by byte.
use Rattle.std.proofs.Common.{◌≡◌, ℕ, List, [], ◌∷◌, length, map, replicate, bit_xor, refl, sym, ap, ap₂, lit<, ◌∙◌, w8, Fits}
use Rattle.std.proofs.lemmas.Simd.{zip2_splat, map-map}
use Rattle.std.proofs.lemmas.List.{length-map}
use Rattle.std.specs.Simd.Lanes.{zip2, Each1}
use lib.Bits.{xor_zero_r}
use Rattle.ghost_list.proofs.ByteLists.{bytes_from_each}
use Rattle.aes_cbc.specs.Block.{IsBlock, xor_bytes}
use Rattle.aes_cbc.specs.SubByte.{sub_byte}
use Rattle.aes_cbc.specs.Tower.{tower, last, keyed, last_keyed}
use Rattle.aes_cbc.proofs.XorLaws.{xor_twice}
use Rattle.aes_cbc.proofs.LookUps.{lanes_bytes}

-- the sum of two blocks
pub zip2_xor : (m k : List ℕ) → zip2 bit_xor m k ≡ xor_bytes m k
unfolding xor_bytes
zip2_xor [] k = refl
zip2_xor (x ∷ m) [] = refl
zip2_xor (x ∷ m) (y ∷ k) = ap (λ r. bit_xor x y ∷ r) (zip2_xor m k)

-- sixteen bytes are a block
pub lanes_block : (v : List ℕ) → length v ≡ 16 → Each1 (Fits w8) v → IsBlock v
lanes_block v long fits = record { long = long; bytes = lanes_bytes v fits }

-- a round key in the tower, with what the S-box adds
pub keyed_lanes : (k v : List ℕ) → length k ≡ 16 → v ≡ map tower k → zip2 bit_xor v (replicate 16 91) ≡ map keyed k
unfolding keyed
keyed_lanes k v long e =
    zip2_splat bit_xor v 16 91 (ap length e ∙ length-map k tower ∙ long)
    ∙ ap (map (λ x. bit_xor x 91)) e ∙ map-map (λ x. bit_xor x 91) tower k

-- the last round key
pub last_keyed_lanes : (k : List ℕ) → length k ≡ 16 → zip2 bit_xor k (replicate 16 99) ≡ map last_keyed k
unfolding last_keyed
last_keyed_lanes k long = zip2_splat bit_xor k 16 99 long

-- the S-box with its constant
pub sub_byte_lanes : (s v : List ℕ) → length s ≡ 16 → v ≡ map last s → zip2 bit_xor v (replicate 16 99) ≡ map sub_byte s
unfolding last
sub_byte_lanes s v long e =
    zip2_splat bit_xor v 16 99 (ap length e ∙ length-map s last ∙ long)
    ∙ ap (map (λ x. bit_xor x 99)) e ∙ map-map (λ x. bit_xor x 99) last s
    ∙ (λ i. map (λ b. xor_twice (sub_byte b) 99 i) s)

-- no bits set
pub none_IsBlock : IsBlock (replicate 16 0)
none_IsBlock = record { long = refl; bytes = bytes_from_each (replicate 16 0) (lit< tt, (lit< tt, (lit< tt, (lit< tt, (lit< tt, (lit< tt, (lit< tt, (lit< tt, (lit< tt, (lit< tt, (lit< tt, (lit< tt, (lit< tt, (lit< tt, (lit< tt, (lit< tt, tt)))))))))))))))) }

-- adding them changes nothing
add_zeros : (s : List ℕ) → xor_bytes s (replicate (length s) 0) ≡ s
unfolding xor_bytes
add_zeros [] = refl
add_zeros (x ∷ s) = ap₂ (λ y r. y ∷ r) (xor_zero_r x) (add_zeros s)

pub add_none : (s : List ℕ) → IsBlock s → xor_bytes s (replicate 16 0) ≡ s
add_none s h = ap (λ n. xor_bytes s (replicate n 0)) (sym h.long) ∙ add_zeros s
