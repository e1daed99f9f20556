-- Two blocks side by side, and sums of such pairs.
use Rattle.std.proofs.Common.{◌≡◌, ℕ, zero, suc, ◌<◌, List, [], ◌∷◌, ◌++◌, length, take, drop, bit_xor, refl, sym, ap, ap₂, ◌∙◌, arith, length-take, length-drop, w8, Fits}
use Rattle.std.proofs.lemmas.List.{take_all, take-append-le, take-append-drop, drop_at}
use Rattle.std.proofs.lemmas.List.Elements.{All-take, All-drop}
use Rattle.std.specs.Simd.Lanes.{zip2, Each1}
use Rattle.aes_cbc.specs.Block.{IsBlock, xor_bytes}
use Rattle.aes_cbc.specs.Pairs.{ArePair}
use Rattle.aes_cbc.proofs.LaneSums.{zip2_xor}
use Rattle.aes_cbc.proofs.LookUps.{lanes_bytes}

pub are_pair : (p a b : List ℕ) → length a ≡ 16 → p ≡ a ++ b → ArePair p a b
are_pair p a b long e = record {
  both = e;
  first = ap (take 16) e ∙ take-append-le 16 a b (omega (arith, long)) ∙ take_all 16 a (omega (arith, long));
  second = ap (drop 16) e ∙ drop_at a b 16 long;
}

-- both halves of 32 bytes are blocks
pub front_block : (v : List ℕ) → length v ≡ 32 → Each1 (Fits w8) v → IsBlock (take 16 v)
front_block v long fits = record { long = omega (arith, long, length-take 16 v); bytes = All-take (λ x. x < 256) 16 v (lanes_bytes v fits) }

pub back_block : (v : List ℕ) → length v ≡ 32 → Each1 (Fits w8) v → IsBlock (drop 16 v)
back_block v long fits = record { long = omega (arith, long, length-drop 16 v); bytes = All-drop (λ x. x < 256) 16 v (lanes_bytes v fits) }

-- the sum of two pairs, half by half
zip2-take : (n : ℕ) (p q : List ℕ) → take n (zip2 bit_xor p q) ≡ zip2 bit_xor (take n p) (take n q)
zip2-take zero p q = refl
zip2-take (suc n) [] q = refl
zip2-take (suc n) (x ∷ p) [] = refl
zip2-take (suc n) (x ∷ p) (y ∷ q) = ap (λ r. bit_xor x y ∷ r) (zip2-take n p q)

zip2-nil : (p : List ℕ) → zip2 bit_xor p [] ≡ []
zip2-nil [] = refl
zip2-nil (x ∷ p) = refl

zip2-drop : (n : ℕ) (p q : List ℕ) → drop n (zip2 bit_xor p q) ≡ zip2 bit_xor (drop n p) (drop n q)
zip2-drop zero p q = refl
zip2-drop (suc n) [] q = refl
zip2-drop (suc n) (x ∷ p) [] = sym (zip2-nil (drop n p))
zip2-drop (suc n) (x ∷ p) (y ∷ q) = zip2-drop n p q

pub sum_first : (p q a b : List ℕ) → take 16 p ≡ a → take 16 q ≡ b → take 16 (zip2 bit_xor p q) ≡ xor_bytes a b
sum_first p q a b of_p of_q = zip2-take 16 p q ∙ ap₂ (zip2 bit_xor) of_p of_q ∙ zip2_xor a b

pub sum_second : (p q a b : List ℕ) → drop 16 p ≡ a → drop 16 q ≡ b → drop 16 (zip2 bit_xor p q) ≡ xor_bytes a b
sum_second p q a b of_p of_q = zip2-drop 16 p q ∙ ap₂ (zip2 bit_xor) of_p of_q ∙ zip2_xor a b

pub sum_of_pairs : (p q a b m n : List ℕ) → ArePair p a b → ArePair q m n → zip2 bit_xor p q ≡ xor_bytes a m ++ xor_bytes b n
sum_of_pairs p q a b m n hp hq =
    sym (take-append-drop 16 (zip2 bit_xor p q))
    ∙ ap₂ (λ x y. x ++ y) (sum_first p q a m hp.first hq.first) (sum_second p q b n hp.second hq.second)

-- any 32 bytes are the pair of their halves
pub halves_of : (p : List ℕ) → ArePair p (take 16 p) (drop 16 p)
halves_of p = record { both = sym (take-append-drop 16 p); first = refl; second = refl }
