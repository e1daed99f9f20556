-- The lines of playlists have no LF and no CR within.
use Rattle.std.proofs.Common.{◌≡◌, ◌≢◌, ◌∙◌, ℕ, zero, suc, ◌+◌, ◌/◌, ◌%◌, ◌≤◌, ◌==◌, ◌&&◌, Bool, true, false, not, List, [], ◌∷◌, ◌++◌, slice_index, All, refl, sym, ap, arith}
use Rattle.std.specs.Prelude.{codes, if◌then◌else◌, nat_lt}
use Rattle.std.specs.List.{join_with_byte}
use Rattle.std.specs.Fmt.{decimal, digit_glyph, digits, digits_onto}
use Rattle.std.proofs.lemmas.Bool.{false≢true, eq-eqb}
use Rattle.std.proofs.lemmas.List.Elements.{All-nil, All-cons, All-head, All-tail, All-append, All-map}
use Rattle.hex.specs.Hex.{encode_upper, encode_with, upper_digits}
use Rattle.playlist_text.specs.Attributes.{quoted, hexadecimal, resolution, attribute, attribute_list}
use Rattle.playlist_text.specs.Numbers.{digit, six_digits, seconds}
use Rattle.playlist_text.specs.Uris.{is_plain, upper_hex_digit, escaped_byte, escaped, segment_uri, key_uri, media_uri, frames_uri}
use Rattle.ladder_laws.proofs.UriLines.{IsInLine, IsOneLine, both-of}

pub no-bytes : IsOneLine []
no-bytes = All-nil IsInLine

pub then-byte : (b : ℕ) (xs : List ℕ) → IsInLine b → IsOneLine xs → IsOneLine (b ∷ xs)
then-byte b xs = All-cons IsInLine b xs

pub joined : (xs ys : List ℕ) → IsOneLine xs → IsOneLine ys → IsOneLine (xs ++ ys)
joined xs ys = All-append IsInLine xs ys

-- a text that is written out
abbrev all_in_line : List ℕ → Bool
all_in_line [] = true
all_in_line (b ∷ xs) = (not (b == 10) && not (b == 13)) && all_in_line xs

not-equal : (b c : ℕ) → not (b == c) ≡ true → b ≢ c
not-equal b c is same = false≢true (sym (ap not (eq-eqb b c same)) ∙ is)

pub written : (xs : List ℕ) → all_in_line xs ≡ true → IsOneLine xs
written [] is = no-bytes
written (b ∷ xs) is =
    let parts = both-of (not (b == 10) && not (b == 13)) (all_in_line xs) is in
    let byte = both-of (not (b == 10)) (not (b == 13)) parts.0 in
    then-byte b xs (not-equal b 10 byte.0, not-equal b 13 byte.1) (written xs parts.1)

-- a digit or a letter
pub high-byte : (b : ℕ) → 48 ≤ b → IsInLine b
high-byte b high = (λ same. omega (arith, high, same), λ same. omega (arith, high, same))

glyph-by : (d : ℕ) (small : Bool) → 48 ≤ (if small then 48 + d else 87 + d)
glyph-by d true = omega arith
glyph-by d false = omega arith

module _ (Q : List ℕ → Type 0) where
  pub either : (b : Bool) (x y : List ℕ) → Q x → Q y → Q (if b then x else y)
  either true x y one other = one
  either false x y one other = other

abbrev AreHigh : List ℕ → Type 0
AreHigh xs = All (λ b. 48 ≤ b) xs

digits-high : (k n : ℕ) (acc : List ℕ) → AreHigh acc → AreHigh (digits_onto k 10 false n acc)
digits-high zero n acc high = high
digits-high (suc k) n acc high =
    let more : AreHigh (digit_glyph false (n % 10) ∷ acc) = All-cons (λ b. 48 ≤ b) (digit_glyph false (n % 10)) acc (glyph-by (n % 10) (nat_lt (n % 10) 10)) high in
    either AreHigh (n / 10 == 0) (digit_glyph false (n % 10) ∷ acc) (digits_onto k 10 false (n / 10) (digit_glyph false (n % 10) ∷ acc)) more (digits-high k (n / 10) (digit_glyph false (n % 10) ∷ acc) more)

pub decimal-high : (n : ℕ) → All (λ b. 48 ≤ b) (decimal n)
unfolding digits
decimal-high n = digits-high 64 n [] (All-nil (λ b. 48 ≤ b))

pub decimal-line : (n : ℕ) → IsOneLine (decimal n)
decimal-line n = λ k d lt. high-byte _ (decimal-high n k d lt)

six-line : (n : ℕ) → IsOneLine (six_digits n)
unfolding six_digits
six-line n = All-map IsInLine (digit n) (5 ∷ 4 ∷ 3 ∷ 2 ∷ 1 ∷ 0 ∷ []) (λ k d lt. high-byte _ (omega arith))

pub seconds-line : (micros : ℕ) → IsOneLine (seconds micros)
unfolding seconds
seconds-line micros =
    joined (decimal (micros / 1_000_000)) (46 ∷ six_digits (micros % 1_000_000)) (decimal-line (micros / 1_000_000))
    (then-byte 46 (six_digits (micros % 1_000_000)) (λ same. omega (arith, same), λ same. omega (arith, same)) (six-line (micros % 1_000_000)))

-- hex digits
one-digit : (ds : List ℕ) → IsOneLine ds → (d : ℕ) → IsInLine (slice_index ds d)
one-digit [] all d = (λ same. omega (arith, same), λ same. omega (arith, same))
one-digit (x ∷ xs) all zero = All-head IsInLine x xs all
one-digit (x ∷ xs) all (suc d) = one-digit xs (All-tail IsInLine x xs all) d

hex-line : (bytes : List ℕ) → IsOneLine (encode_upper bytes)
unfolding encode_with
hex-line [] = no-bytes
hex-line (b ∷ bytes) =
    let table : IsOneLine upper_digits = written upper_digits refl in
    then-byte (slice_index upper_digits (b / 16)) (slice_index upper_digits (b % 16) ∷ encode_upper bytes) (one-digit upper_digits table (b / 16))
    (then-byte (slice_index upper_digits (b % 16)) (encode_upper bytes) (one-digit upper_digits table (b % 16)) (hex-line bytes))

-- names
upper-by : (value : ℕ) (small : Bool) → 48 ≤ (if small then 48 + value else 55 + value)
upper-by value true = omega arith
upper-by value false = omega arith

plain-other : (b c : ℕ) → is_plain b ≡ true → is_plain c ≡ false → b ≢ c
plain-other b c plain other same = false≢true (sym other ∙ ap is_plain (sym same) ∙ plain)

escape-by : (b : ℕ) (plain : Bool) → is_plain b ≡ plain → IsOneLine (if plain then b ∷ [] else 37 ∷ upper_hex_digit (b / 16) ∷ upper_hex_digit (b % 16) ∷ [])
escape-by b true test = then-byte b [] (plain-other b 10 test refl, plain-other b 13 test refl) no-bytes
escape-by b false test =
    then-byte 37 (upper_hex_digit (b / 16) ∷ upper_hex_digit (b % 16) ∷ []) (λ same. omega (arith, same), λ same. omega (arith, same))
    (then-byte (upper_hex_digit (b / 16)) (upper_hex_digit (b % 16) ∷ []) (high-byte _ (upper-by (b / 16) (nat_lt (b / 16) 10)))
    (then-byte (upper_hex_digit (b % 16)) [] (high-byte _ (upper-by (b % 16) (nat_lt (b % 16) 10))) no-bytes))

pub escaped-line : (name : List ℕ) → IsOneLine (escaped name)
unfolding escaped
escaped-line [] = no-bytes
escaped-line (b ∷ name) = joined (escaped_byte b) (escaped name) (escape-by b (is_plain b) refl) (escaped-line name)

numbered : (name : List ℕ) (n : ℕ) (end : List ℕ) → IsOneLine end → IsOneLine (escaped name ++ codes "." ++ decimal n ++ end)
numbered name n end last =
    joined (escaped name ++ codes "." ++ decimal n) end
    (joined (escaped name ++ codes ".") (decimal n) (joined (escaped name) (codes ".") (escaped-line name) (written (codes ".") refl)) (decimal-line n)) last

pub segment-line : (name : List ℕ) (n : ℕ) → IsOneLine (segment_uri name n)
unfolding segment_uri
segment-line name n = numbered name n (codes ".ts") (written (codes ".ts") refl)

pub key-line : (name : List ℕ) (n : ℕ) → IsOneLine (key_uri name n)
unfolding key_uri
key-line name n = numbered name n (codes ".key") (written (codes ".key") refl)

pub media-line : (name : List ℕ) → IsOneLine (media_uri name)
unfolding media_uri
media-line name = joined (escaped name) (codes ".m3u8") (escaped-line name) (written (codes ".m3u8") refl)

pub frames-line : (name : List ℕ) → IsOneLine (frames_uri name)
unfolding frames_uri
frames-line name = joined (escaped name) (codes ".iframes.m3u8") (escaped-line name) (written (codes ".iframes.m3u8") refl)

-- attributes
pub quoted-line : (text : List ℕ) → IsOneLine text → IsOneLine (quoted text)
unfolding quoted
quoted-line text one = joined (codes "\"" ++ text) (codes "\"") (joined (codes "\"") text (written (codes "\"") refl) one) (written (codes "\"") refl)

pub hexadecimal-line : (bytes : List ℕ) → IsOneLine (hexadecimal bytes)
unfolding hexadecimal
hexadecimal-line bytes = joined (codes "0x") (encode_upper bytes) (written (codes "0x") refl) (hex-line bytes)

pub resolution-line : (width height : ℕ) → IsOneLine (resolution width height)
unfolding resolution
resolution-line width height = joined (decimal width ++ codes "x") (decimal height) (joined (decimal width) (codes "x") (decimal-line width) (written (codes "x") refl)) (decimal-line height)

pub attribute-line : (name value : List ℕ) → all_in_line name ≡ true → IsOneLine value → IsOneLine (attribute name value)
attribute-line name value known one = joined (name ++ codes "=") value (joined name (codes "=") (written name known) (written (codes "=") refl)) one

commas : (xs : List (List ℕ)) → All IsOneLine xs → IsOneLine (join_with_byte 44 xs)
commas [] all = no-bytes
commas (x ∷ []) all = All-head IsOneLine x [] all
commas (x ∷ y ∷ xs) all =
    joined x (44 ∷ join_with_byte 44 (y ∷ xs)) (All-head IsOneLine x (y ∷ xs) all)
    (then-byte 44 (join_with_byte 44 (y ∷ xs)) (λ same. omega (arith, same), λ same. omega (arith, same)) (commas (y ∷ xs) (All-tail IsOneLine x (y ∷ xs) all)))

pub list-line : (xs : List (List ℕ)) → All IsOneLine xs → IsOneLine (attribute_list xs)
unfolding attribute_list
list-line xs all = commas xs all
