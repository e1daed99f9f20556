-- The bytes of a name in a URI.
use Rattle.std.proofs.Common.{inl, inr, ◌≡◌, ◌≢◌, ℕ, ◌+◌, ◌/◌, ◌%◌, ◌<◌, ◌==◌, Bool, true, false, List, [], ◌∷◌, ◌++◌, length, take, get_or, refl, sym, ap, ◌∙◌, subst, arith, cond, ltb}
use Rattle.std.specs.Prelude.{All, if◌then◌else◌, nat_lt}
use Rattle.std.specs.List.{before_first}
use Rattle.std.specs.Str.{IsUtf8}
use Rattle.std.proofs.Math.Utf8.{scalar, scalars, scalar_cases, encode, encodes}
use Rattle.std.proofs.Math.Seq.{take-append_seam, get_or-append_seam}
use Rattle.std.proofs.lemmas.Bool.{false≢true, ltb-true}
use Rattle.std.proofs.lemmas.List.{get_or_append_left, length-append}
use Rattle.std.proofs.lemmas.List.Elements.{All-nil, All-cons, All-append}
use Rattle.std.proofs.lemmas.List.Sums.{position_or_len_is}
use Rattle.percent_encoding.specs.Percent.{percent_decode}
use Rattle.percent_encoding.proofs.PercentLemmas.{round_trip}
use Rattle.playlist_text.specs.Uris.{is_plain, upper_hex_digit, escaped_byte, escaped}
use Rattle.playlist_text.proofs.Escapes.{percent_encode-escaped}
use Rattle.media_reading.proofs.Stepping.{both, not-eq}

-- neither an LF nor a point
abbrev pub IsInUri : ℕ → Type 0
IsInUri b = (b ≢ 10) × (b ≢ 46)

hex-by : (value : ℕ) (small : Bool) → nat_lt value 10 ≡ small → IsInUri (if small then 48 + value else 55 + value)
hex-by value true test = (λ same. omega (arith, same), λ same. omega (arith, same))
hex-by value false test = (λ same. omega (arith, same), λ same. omega (arith, same))

hex-in : (value : ℕ) → IsInUri (upper_hex_digit value)
hex-in value = hex-by value (nat_lt value 10) refl

plain-not : (b c : ℕ) → is_plain b ≡ true → is_plain c ≡ false → b ≢ c
plain-not b c plain other same = false≢true (sym other ∙ ap is_plain (sym same) ∙ plain)

byte-by : (b : ℕ) (plain : Bool) → is_plain b ≡ plain → All IsInUri (if plain then b ∷ [] else 37 ∷ upper_hex_digit (b / 16) ∷ upper_hex_digit (b % 16) ∷ [])
byte-by b true test = All-cons IsInUri b [] (plain-not b 10 test refl, plain-not b 46 test refl) (All-nil IsInUri)
byte-by b false test =
    All-cons IsInUri 37 (upper_hex_digit (b / 16) ∷ upper_hex_digit (b % 16) ∷ []) (λ same. omega (arith, same), λ same. omega (arith, same))
    (All-cons IsInUri (upper_hex_digit (b / 16)) (upper_hex_digit (b % 16) ∷ []) (hex-in (b / 16)) (All-cons IsInUri (upper_hex_digit (b % 16)) [] (hex-in (b % 16)) (All-nil IsInUri)))

-- the bytes of a name are neither
pub escaped-in : (name : List ℕ) → All IsInUri (escaped name)
unfolding escaped
escaped-in [] = All-nil IsInUri
escaped-in (b ∷ name) = All-append IsInUri (escaped_byte b) (escaped name) (byte-by b (is_plain b) refl) (escaped-in name)

-- what stands before the first point
pub before-point : (xs rest : List ℕ) → All IsInUri xs → before_first (λ b. b == 46) (xs ++ 46 ∷ rest) ≡ xs
before-point xs rest all =
    let whole = xs ++ 46 ∷ rest in
    let place = position_or_len_is (λ b. b == 46) whole (length xs) 0 (omega (arith, length-append xs (46 ∷ rest)))
    (λ k lt. ap (λ b. b == 46) (get_or_append_left xs (46 ∷ rest) 0 k lt) ∙ not-eq (get_or xs k 0) 46 (all k 0 lt).1)
    (λ _. ap (λ b. b == 46) (get_or-append_seam xs 46 rest 0)) in
    ap (λ n. take n whole) place ∙ take-append_seam xs (46 ∷ rest)

-- characters are bytes
chosen : (b : Bool) (x y : List ℕ) → (b ≡ true → All (λ c. c < 256) x) → (b ≡ false → All (λ c. c < 256) y) → All (λ c. c < 256) (cond b x y)
chosen true x y one other = one refl
chosen false x y one other = other refl

one : (a : ℕ) → a < 256 → All (λ c. c < 256) (a ∷ [])
one a small = All-cons (λ c. c < 256) a [] small (All-nil (λ c. c < 256))

more : (a : ℕ) (xs : List ℕ) → a < 256 → All (λ c. c < 256) xs → All (λ c. c < 256) (a ∷ xs)
more a xs small rest = All-cons (λ c. c < 256) a xs small rest

scalar-small : (c : ℕ) → scalar c ≡ true → c < 1114112
scalar-small c is = elim (scalar_cases c is) [
  | inl low ↦ omega (arith, low)
  | inr high ↦ high.1
]

encode-bytes : (c : ℕ) → c < 1114112 → All (λ b. b < 256) (encode c)
unfolding encode
encode-bytes c small =
    let last = one (128 + c % 64) (omega arith) in
    let two = more (128 + c / 64 % 64) ((128 + c % 64) ∷ []) (omega arith) last in
    let three = more (128 + c / 4096 % 64) ((128 + c / 64 % 64) ∷ (128 + c % 64) ∷ []) (omega arith) two in
    chosen (ltb c 128) (c ∷ []) _ (λ test. one c (omega (arith, ltb-true c 128 test))) (λ _.
    chosen (ltb c 2048) ((192 + c / 64) ∷ (128 + c % 64) ∷ []) _ (λ test. more (192 + c / 64) ((128 + c % 64) ∷ []) (omega (arith, ltb-true c 2048 test)) last) (λ _.
    chosen (ltb c 65536) ((224 + c / 4096) ∷ (128 + c / 64 % 64) ∷ (128 + c % 64) ∷ []) _ (λ test. more (224 + c / 4096) ((128 + c / 64 % 64) ∷ (128 + c % 64) ∷ []) (omega (arith, ltb-true c 65536 test)) two)
    (λ _. more (240 + c / 262144) ((128 + c / 4096 % 64) ∷ (128 + c / 64 % 64) ∷ (128 + c % 64) ∷ []) (omega (arith, small)) three)))

encodes-bytes : (cs : List ℕ) → scalars cs ≡ true → All (λ b. b < 256) (encodes cs)
encodes-bytes [] is = All-nil (λ b. b < 256)
encodes-bytes (c ∷ cs) is =
    let parts = both (scalar c) (scalars cs) is in
    All-append (λ b. b < 256) (encode c) (encodes cs) (encode-bytes c (scalar-small c parts.0)) (encodes-bytes cs parts.1)

-- a name comes back from its escaped text
pub escaped-decoded : (name : List ℕ) → IsUtf8 name → percent_decode (escaped name) ≡ name
escaped-decoded name utf8 =
    let small : All (λ b. b < 256) name = subst (All (λ b. b < 256)) utf8.1.1 (encodes-bytes utf8.0 utf8.1.0) in
    ap percent_decode (sym (percent_encode-escaped name small)) ∙ round_trip _ name refl small
