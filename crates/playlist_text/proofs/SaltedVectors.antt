-- Vectors under a salt, and the salts that they tell.
use Rattle.std.proofs.Common.{◌≡◌, ℕ, ◌/◌, ◌%◌, ◌<◌, ◌^◌, List, [], ◌∷◌, length, refl, sym, ap, ◌∙◌, arith}
use Rattle.std.specs.Prelude.{All, Option, Some, None}
use Rattle.std.specs.Int.{to_be_bytes, from_be_bytes, w128}
use Rattle.std.specs.Int.Bits.{bit_xor, xor_self, xor_zero_l, xor_zero_r, xor_assoc}
use Rattle.std.proofs.lemmas.Nat.{xor_lt, xor_mod}
use Rattle.std.proofs.lemmas.List.Elements.{All-map}
use Rattle.playlist_text.specs.Vectors.{salted_vector}
use Rattle.playlist_text.proofs.SixteenBytes.{byte-small, from_be_bytes-to_be_bytes_16, sixteen-small, to_be_bytes-from_be_bytes_16, to_be_bytes_16-injective}

-- the vector under a salt is sixteen bytes
pub salted-length : (salt : List ℕ) (n : ℕ) → length (salted_vector (Some salt) n) ≡ 16
salted-length salt n = refl

pub salted-small : (salt : List ℕ) (n : ℕ) → All (λ b. b < 256) (salted_vector (Some salt) n)
salted-small salt n =
    let x = bit_xor (from_be_bytes w128 salt) n in
    All-map (λ b. b < 256) (λ m. m % 256) (x / 256 ^ 15 ∷ x / 256 ^ 14 ∷ x / 256 ^ 13 ∷ x / 256 ^ 12 ∷ x / 256 ^ 11 ∷ x / 256 ^ 10 ∷ x / 256 ^ 9 ∷ x / 256 ^ 8 ∷ x / 256 ^ 7 ∷ x / 256 ^ 6 ∷ x / 256 ^ 5 ∷ x / 256 ^ 4 ∷ x / 256 ^ 3 ∷ x / 256 ^ 2 ∷ x / 256 ^ 1 ∷ x ∷ []) (λ k d lt. omega arith)

-- the vector of a number tells the salt
pub salted-again : (salt : List ℕ) (n : ℕ) → length salt ≡ 16 → All (λ b. b < 256) salt → n < 2 ^ 128 → salted_vector (Some (salted_vector (Some salt) n)) n ≡ salt
salted-again salt n long small below =
    let number = from_be_bytes w128 salt in
    let each = byte-small salt small in
    ap (λ m. to_be_bytes w128 (bit_xor m n)) (from_be_bytes-to_be_bytes_16 (bit_xor number n) (xor_lt 128 number n (sixteen-small salt each) below))
    ∙ ap (to_be_bytes w128) (xor_assoc number n n ∙ ap (bit_xor number) (xor_self n) ∙ xor_zero_r number)
    ∙ to_be_bytes-from_be_bytes_16 salt long each

-- numbers whose sums with the same one are the same
same_sums : (s m n : ℕ) → bit_xor s m % 2 ^ 128 ≡ bit_xor s n % 2 ^ 128 → m % 2 ^ 128 ≡ n % 2 ^ 128
same_sums s m n same =
    let twice : (a b : ℕ) → bit_xor a (bit_xor a b) ≡ b = λ a b. sym (xor_assoc a a b) ∙ ap (λ x. bit_xor x b) (xor_self a) ∙ xor_zero_l b in
    let both : bit_xor (s % 2 ^ 128) (m % 2 ^ 128) ≡ bit_xor (s % 2 ^ 128) (n % 2 ^ 128)
    = sym (xor_mod s m 128) ∙ same ∙ xor_mod s n 128 in
    sym (twice (s % 2 ^ 128) (m % 2 ^ 128)) ∙ ap (bit_xor (s % 2 ^ 128)) both ∙ twice (s % 2 ^ 128) (n % 2 ^ 128)

-- numbers below 2^64 whose vectors are the same, under any salt
pub same_vectors : (salt : Option (List ℕ)) (m n : ℕ) → m < 2 ^ 64 → n < 2 ^ 64 → salted_vector salt m ≡ salted_vector salt n → m ≡ n
same_vectors None m n small_m small_n same = let low = to_be_bytes_16-injective m n same in omega arith
same_vectors (Some salt) m n small_m small_n same =
    let s = from_be_bytes w128 salt in
    let low = same_sums s m n (to_be_bytes_16-injective (bit_xor s m) (bit_xor s n) same) in
    omega arith
