-- Numbers in sixteen bytes.
use Rattle.std.proofs.Common.{◌≡◌, ℕ, ◌+◌, ◌*◌, ◌/◌, ◌%◌, ◌<◌, ◌^◌, List, [], ◌∷◌, ◌++◌, length, get_or, take, drop, length-take, length-drop, inl, inr, sym, ap, ◌∙◌, arith}
use Rattle.std.specs.Prelude.{All}
use Rattle.std.specs.Int.{to_be_bytes, from_be_bytes, w64, w128}
use Rattle.std.proofs.lemmas.Nat.{be_bytes_8, from_be_bytes-to_be_bytes_8, div-mul-add, mod-mul-add}
use Rattle.std.proofs.lemmas.Bool.{cases_lt}
use Rattle.std.proofs.lemmas.List.{get_or_past, get_or-take, get_or-drop, take-append-drop}
use Rattle.std.proofs.Math.Nat.{div-div-eq-div-mul}

-- a byte of the high half, and one of the low half
high : (n p : ℕ) → n / (2 ^ 64 * p) % 256 ≡ n / 2 ^ 64 / p % 256
high n p = ap (λ m. m % 256) (sym (div-div-eq-div-mul n (2 ^ 64) p))

-- the lowest eight bytes of a number hang on its lowest 64 bits
low_eight : (n : ℕ) → to_be_bytes w64 n ≡ to_be_bytes w64 (n % 2 ^ 64)
low_eight n =
    let low_7 : n / 72057594037927936 % 256 ≡ n % 2 ^ 64 / 72057594037927936 % 256 = omega arith in
    let low_6 : n / 281474976710656 % 256 ≡ n % 2 ^ 64 / 281474976710656 % 256 = omega arith in
    let low_5 : n / 1099511627776 % 256 ≡ n % 2 ^ 64 / 1099511627776 % 256 = omega arith in
    let low_4 : n / 4294967296 % 256 ≡ n % 2 ^ 64 / 4294967296 % 256 = omega arith in
    let low_3 : n / 16777216 % 256 ≡ n % 2 ^ 64 / 16777216 % 256 = omega arith in
    let low_2 : n / 65536 % 256 ≡ n % 2 ^ 64 / 65536 % 256 = omega arith in
    let low_1 : n / 256 % 256 ≡ n % 2 ^ 64 / 256 % 256 = omega arith in
    let low_0 : n % 256 ≡ n % 2 ^ 64 % 256 = omega arith in
    λ i. low_7 i ∷ low_6 i ∷ low_5 i ∷ low_4 i ∷ low_3 i ∷ low_2 i ∷ low_1 i ∷ low_0 i ∷ []

-- the bytes of a number are those of its halves
halves : (n : ℕ) → to_be_bytes w128 n ≡ to_be_bytes w64 (n / 2 ^ 64) ++ to_be_bytes w64 (n % 2 ^ 64)
halves n =
    (λ i. high n 72057594037927936 i ∷ high n 281474976710656 i ∷ high n 1099511627776 i ∷ high n 4294967296 i ∷ high n 16777216 i ∷ high n 65536 i ∷ high n 256 i ∷ (n / 18446744073709551616 % 256) ∷ to_be_bytes w64 n)
    ∙ ap (λ xs. to_be_bytes w64 (n / 2 ^ 64) ++ xs) (low_eight n)

-- a number of sixteen bytes, by its halves
joined : (a b c d e f g h i j k l m n o p : ℕ) → from_be_bytes w128 (a ∷ b ∷ c ∷ d ∷ e ∷ f ∷ g ∷ h ∷ i ∷ j ∷ k ∷ l ∷ m ∷ n ∷ o ∷ p ∷ [])
    ≡ from_be_bytes w64 (a ∷ b ∷ c ∷ d ∷ e ∷ f ∷ g ∷ h ∷ []) * 2 ^ 64 + from_be_bytes w64 (i ∷ j ∷ k ∷ l ∷ m ∷ n ∷ o ∷ p ∷ [])
joined a b c d e f g h i j k l m n o p = omega arith

-- sixteen bytes tell a number but for what is above them
number_of_sixteen : (n : ℕ) → from_be_bytes w128 (to_be_bytes w128 n) ≡ n % 2 ^ 128
number_of_sixteen n =
    let h = n / 2 ^ 64 % 2 ^ 64 in
    let l = n % 2 ^ 64 in
    ap (from_be_bytes w128) (halves n ∙ ap (λ xs. xs ++ to_be_bytes w64 l) (low_eight (n / 2 ^ 64)))
    ∙ joined _ _ _ _ _ _ _ _ _ _ _ _ _ _ _ _
    ∙ omega (arith, from_be_bytes-to_be_bytes_8 h (omega arith), from_be_bytes-to_be_bytes_8 l (omega arith))

-- so a small number is read of its bytes
pub from_be_bytes-to_be_bytes_16 : (n : ℕ) → n < 2 ^ 128 → from_be_bytes w128 (to_be_bytes w128 n) ≡ n
from_be_bytes-to_be_bytes_16 n fits = omega (arith, number_of_sixteen n, fits)

-- and numbers with the same bytes are the same but for what is above them
pub to_be_bytes_16-injective : (x y : ℕ) → to_be_bytes w128 x ≡ to_be_bytes w128 y → x % 2 ^ 128 ≡ y % 2 ^ 128
to_be_bytes_16-injective x y same = sym (number_of_sixteen x) ∙ ap (from_be_bytes w128) same ∙ number_of_sixteen y

-- each byte of a list of bytes, and none behind it
pub byte-small : (bs : List ℕ) → All (λ b. b < 256) bs → (i : ℕ) → get_or bs i 0 < 256
byte-small bs all i = elim (cases_lt i (length bs)) [
  | inl within ↦ all i 0 within
  | inr past ↦ let none = get_or_past bs i 0 (omega (arith, past)) in omega (arith, none)
]

-- eight bytes are a number below 2^64
eight-small : (l : List ℕ) → ((i : ℕ) → get_or l i 0 < 256) → from_be_bytes w64 l < 2 ^ 64
eight-small l small = omega (arith, small 0, small 1, small 2, small 3, small 4, small 5, small 6, small 7)

-- the bytes of a number, by its halves
halved : (x l : List ℕ) (n : ℕ) → length x ≡ 8 → length l ≡ 8 → ((i : ℕ) → get_or x i 0 < 256) → ((i : ℕ) → get_or l i 0 < 256)
    → n ≡ from_be_bytes w64 x * 2 ^ 64 + from_be_bytes w64 l → to_be_bytes w128 n ≡ x ++ l
halved x l n first second high low is =
    let above = from_be_bytes w64 x in
    let below = from_be_bytes w64 l in
    let small = eight-small l low in
    let quotient : n / 2 ^ 64 ≡ above = ap (λ m. m / 2 ^ 64) is ∙ div-mul-add above (2 ^ 64) below small in
    let rest : n % 2 ^ 64 ≡ below = ap (λ m. m % 2 ^ 64) is ∙ mod-mul-add above (2 ^ 64) below small in
    halves n
    ∙ ap (λ xs. xs ++ to_be_bytes w64 (n % 2 ^ 64)) (be_bytes_8 x (n / 2 ^ 64) first high quotient)
    ∙ ap (λ xs. x ++ xs) (be_bytes_8 l (n % 2 ^ 64) second low rest)

-- the number of sixteen bytes, by their halves
parted : (bs : List ℕ) → from_be_bytes w128 bs ≡ from_be_bytes w64 (take 8 bs) * 2 ^ 64 + from_be_bytes w64 (drop 8 bs)
parted bs =
    let high_0 : get_or (take 8 bs) 0 0 ≡ get_or bs 0 0 = get_or-take 8 bs 0 0 (omega arith) in
    let high_1 : get_or (take 8 bs) 1 0 ≡ get_or bs 1 0 = get_or-take 8 bs 1 0 (omega arith) in
    let high_2 : get_or (take 8 bs) 2 0 ≡ get_or bs 2 0 = get_or-take 8 bs 2 0 (omega arith) in
    let high_3 : get_or (take 8 bs) 3 0 ≡ get_or bs 3 0 = get_or-take 8 bs 3 0 (omega arith) in
    let high_4 : get_or (take 8 bs) 4 0 ≡ get_or bs 4 0 = get_or-take 8 bs 4 0 (omega arith) in
    let high_5 : get_or (take 8 bs) 5 0 ≡ get_or bs 5 0 = get_or-take 8 bs 5 0 (omega arith) in
    let high_6 : get_or (take 8 bs) 6 0 ≡ get_or bs 6 0 = get_or-take 8 bs 6 0 (omega arith) in
    let high_7 : get_or (take 8 bs) 7 0 ≡ get_or bs 7 0 = get_or-take 8 bs 7 0 (omega arith) in
    let low_0 : get_or (drop 8 bs) 0 0 ≡ get_or bs 8 0 = get_or-drop 8 bs 0 0 in
    let low_1 : get_or (drop 8 bs) 1 0 ≡ get_or bs 9 0 = get_or-drop 8 bs 1 0 in
    let low_2 : get_or (drop 8 bs) 2 0 ≡ get_or bs 10 0 = get_or-drop 8 bs 2 0 in
    let low_3 : get_or (drop 8 bs) 3 0 ≡ get_or bs 11 0 = get_or-drop 8 bs 3 0 in
    let low_4 : get_or (drop 8 bs) 4 0 ≡ get_or bs 12 0 = get_or-drop 8 bs 4 0 in
    let low_5 : get_or (drop 8 bs) 5 0 ≡ get_or bs 13 0 = get_or-drop 8 bs 5 0 in
    let low_6 : get_or (drop 8 bs) 6 0 ≡ get_or bs 14 0 = get_or-drop 8 bs 6 0 in
    let low_7 : get_or (drop 8 bs) 7 0 ≡ get_or bs 15 0 = get_or-drop 8 bs 7 0 in
    omega arith

front-small : (bs : List ℕ) → ((i : ℕ) → get_or bs i 0 < 256) → length (take 8 bs) ≡ 8 → (i : ℕ) → get_or (take 8 bs) i 0 < 256
front-small bs small long i = elim (cases_lt i 8) [
  | inl within ↦ let at = get_or-take 8 bs i 0 within in omega (arith, at, small i)
  | inr past ↦ let none = get_or_past (take 8 bs) i 0 (omega (arith, past, long)) in omega (arith, none)
]

-- bytes are given back by their number
pub to_be_bytes-from_be_bytes_16 : (bs : List ℕ) → length bs ≡ 16 → ((i : ℕ) → get_or bs i 0 < 256) → to_be_bytes w128 (from_be_bytes w128 bs) ≡ bs
to_be_bytes-from_be_bytes_16 bs long small =
    let first : length (take 8 bs) ≡ 8 = omega (arith, long, length-take 8 bs) in
    let second : length (drop 8 bs) ≡ 8 = omega (arith, long, length-drop 8 bs) in
    halved (take 8 bs) (drop 8 bs) (from_be_bytes w128 bs) first second (front-small bs small first) (λ i. let at = get_or-drop 8 bs i 0 in omega (arith, at, small (8 + i))) (parted bs)
    ∙ take-append-drop 8 bs

-- sixteen bytes are a number below 2^128
pub sixteen-small : (bs : List ℕ) → ((i : ℕ) → get_or bs i 0 < 256) → from_be_bytes w128 bs < 2 ^ 128
sixteen-small bs small =
    omega (arith, small 0, small 1, small 2, small 3, small 4, small 5, small 6, small 7, small 8, small 9, small 10, small 11, small 12, small 13, small 14, small 15)
