-- What the first line of a key tells of the salt.
use Rattle.std.proofs.Common.{◌≡◌, ◌≢◌, ℕ, ◌-◌, ◌*◌, ◌/◌, ◌%◌, ◌<◌, ◌^◌, ◌&&◌, Bool, true, false, Option, Some, None, List, [], ◌∷◌, ◌++◌, length, take, drop, refl, sym, ap, ◌∙◌, subst, arith, append_assoc, length-append}
use Rattle.playlist_text.specs.MediaLines.{key_line_under}
use Rattle.std.specs.Prelude.{All, codes, nat_eq, option_map, if◌then◌else◌, slice_index}
use Rattle.std.specs.Fmt.{decimal}
use Rattle.std.specs.Int.{from_be_bytes, w128}
use Rattle.std.specs.Int.Bits.{bit_xor}
use Rattle.std.specs.Result.{result_ok}
use lib.Pointwise.{pointwise}
use Rattle.std.proofs.Math.Seq.{drop-append_seam}
use Rattle.std.proofs.lemmas.Bool.{eqb-true}
use Rattle.std.proofs.lemmas.Option.{same_Some, none-some}
use Rattle.std.proofs.lemmas.List.Elements.{All-nil, All-cons, All-head, All-tail}
use Rattle.hex.specs.Hex.{upper_digits, encode_upper, encode_with, decode_sized, hex_digit_value}
use Rattle.hex.proofs.HexLemmas.{IsDigits-upper_digits, length-encode_with, decode_of-encode_upper, decode_sized-twice}
use Rattle.playlist_text.specs.Attributes.{hexadecimal}
use Rattle.playlist_text.specs.Vectors.{salted_vector}
use Rattle.playlist_text.proofs.SaltedVectors.{salted-length, salted-small, salted-again}
use Rattle.playlist_text.proofs.SixteenBytes.{byte-small}
use Rattle.media_reading.specs.MediaTexts.{IsSalt}
use Rattle.media_reading.specs.State.{is_quoted, vector_in, salt_in}
use Rattle.media_reading.proofs.Found.{not-true}
use Rattle.media_reading.proofs.KeyLines.{key_front, key_line_under-parts}

-- a line by its last byte
quoted-by : (xs : List ℕ) (c : ℕ) → is_quoted (xs ++ c ∷ []) ≡ (nat_eq 34 c && true)
quoted-by xs c =
    let place : length (xs ++ c ∷ []) - 1 ≡ length xs = omega (arith, length-append xs (c ∷ [])) in
    ap (λ k. pointwise nat_eq (codes "\"") (drop k (xs ++ c ∷ []))) place ∙ ap (pointwise nat_eq (codes "\"")) (drop-append_seam xs (c ∷ []))

unquoted : (xs : List ℕ) (c : ℕ) → c ≢ 34 → is_quoted (xs ++ c ∷ []) ≡ false
unquoted xs c other = quoted-by xs c ∙ ap (λ b. b && true) (not-true (nat_eq 34 c) (λ same. other (sym (eqb-true 34 c same))))

-- a byte that is no digit isn't one of the digits
digit-other : (d c : ℕ) → d < 16 → hex_digit_value c ≡ None → slice_index upper_digits d ≢ c
digit-other d c small none same = none-some d (sym none ∙ ap hex_digit_value (sym same) ∙ IsDigits-upper_digits d small)

pub upper-without : (c : ℕ) → hex_digit_value c ≡ None → (xs : List ℕ) → All (λ b. b < 256) xs → All (λ b. b ≢ c) (encode_upper xs)
unfolding encode_with
upper-without c none [] small = All-nil (λ b. b ≢ c)
upper-without c none (x ∷ xs) small =
    let byte = All-head (λ b. b < 256) x xs small in
    let high = slice_index upper_digits (x / 16) in
    let low = slice_index upper_digits (x % 16) in
    All-cons (λ b. b ≢ c) high (low ∷ encode_upper xs) (digit-other (x / 16) c (omega (arith, byte)) none)
    (All-cons (λ b. b ≢ c) low (encode_upper xs) (digit-other (x % 16) c (omega arith) none) (upper-without c none xs (All-tail (λ b. b < 256) x xs small)))

-- the last digit of a text
upper-last : (xs : List ℕ) (x : ℕ) → encode_upper (xs ++ x ∷ []) ≡ (encode_upper xs ++ slice_index upper_digits (x / 16) ∷ []) ++ slice_index upper_digits (x % 16) ∷ []
unfolding encode_with
upper-last [] x = refl
upper-last (y ∷ xs) x = ap (λ l. slice_index upper_digits (y / 16) ∷ slice_index upper_digits (y % 16) ∷ l) (upper-last xs x)

-- a line that ends in a vector doesn't end in a quote
vector-unquoted : (front salt : List ℕ) (n : ℕ) → is_quoted (front ++ encode_upper (salted_vector (Some salt) n)) ≡ false
vector-unquoted front salt n =
    let iv = salted_vector (Some salt) n in
    let last = bit_xor (from_be_bytes w128 salt) n % 256 in
    let parts : iv ≡ take 15 iv ++ last ∷ [] = refl in
    let begun = encode_upper (take 15 iv) ++ slice_index upper_digits (last / 16) ∷ [] in
    let digit = slice_index upper_digits (last % 16) in
    ap (λ x. is_quoted (front ++ encode_upper x)) parts
    ∙ ap (λ x. is_quoted (front ++ x)) (upper-last (take 15 iv) last)
    ∙ ap is_quoted (sym (append_assoc front begun (digit ∷ [])))
    ∙ unquoted (front ++ begun) digit (digit-other (last % 16) 34 (omega arith) refl)

-- and tells it
vector-told : (front salt : List ℕ) (n : ℕ) → vector_in (front ++ encode_upper (salted_vector (Some salt) n)) ≡ Some (salted_vector (Some salt) n)
vector-told front salt n =
    let iv = salted_vector (Some salt) n in
    let long : length (encode_upper iv) ≡ 2 * 16 = length-encode_with upper_digits iv in
    let place : length (front ++ encode_upper iv) - 32 ≡ length front = omega (arith, long, length-append front (encode_upper iv)) in
    ap (λ k. result_ok (decode_sized (drop k (front ++ encode_upper iv)) 16)) place
    ∙ ap (λ x. result_ok (decode_sized x 16)) (drop-append_seam front (encode_upper iv))
    ∙ ap result_ok (decode_sized-twice (encode_upper iv) 16 long ∙ decode_of-encode_upper iv (byte-small iv (salted-small salt n)))

-- so the line of a key tells the salt
salt-told : (line front salt : List ℕ) (n : ℕ) → line ≡ front ++ encode_upper (salted_vector (Some salt) n) → IsSalt (Some salt) → n < 2 ^ 128 → salt_in n line ≡ Some (Some salt)
unfolding salt_in
salt-told line front salt n is sound small =
    let text = front ++ encode_upper (salted_vector (Some salt) n) in
    ap (λ x. if is_quoted x then Some None else option_map (λ iv. Some (salted_vector (Some iv) n)) (vector_in x)) is
    ∙ ap (λ b. if b then Some None else option_map (λ iv. Some (salted_vector (Some iv) n)) (vector_in text)) (vector-unquoted front salt n)
    ∙ ap (option_map (λ iv. Some (salted_vector (Some iv) n))) (vector-told front salt n)
    ∙ ap (λ s. Some (Some s)) (salted-again salt n sound.0 sound.1 small)

no-salt-told : (line front : List ℕ) (n : ℕ) → line ≡ front ++ codes "\"" → salt_in n line ≡ Some None
unfolding salt_in
no-salt-told line front n is =
    ap (λ x. if is_quoted x then Some None else option_map (λ iv. Some (salted_vector (Some iv) n)) (vector_in x)) is
    ∙ ap (λ b. if b then Some None else option_map (λ iv. Some (salted_vector (Some iv) n)) (vector_in (front ++ codes "\""))) (quoted-by front 34)

pub salt-found : (name : List ℕ) (salt : Option (List ℕ)) (n key : ℕ) → IsSalt salt → n < 2 ^ 128 → salt_in n (key_line_under name salt n key) ≡ Some salt
unfolding hexadecimal
salt-found name None n key sound small =
    let begun = key_front name ++ decimal key in
    no-salt-told (key_line_under name None n key) (begun ++ codes ".key") n
    (key_line_under-parts name None n key ∙ sym (append_assoc begun (codes ".key") (codes "\"")))
salt-found name (Some salt) n key sound small =
    let begun = key_front name ++ decimal key in
    let digits = encode_upper (salted_vector (Some salt) n) in
    salt-told (key_line_under name (Some salt) n key) (begun ++ codes ".key\",IV=0x") salt n
    (key_line_under-parts name (Some salt) n key ∙ sym (append_assoc begun (codes ".key\",IV=0x") digits)) sound small

-- a salt that is told has sixteen bytes
salt-by : (n : ℕ) (b : Bool) (o : Option (List ℕ)) (salt : Option (List ℕ))
    → (if b then Some None else option_map (λ iv. Some (salted_vector (Some iv) n)) o) ≡ Some salt → IsSalt salt
salt-by n true o salt is = subst IsSalt (same_Some None salt is) _
salt-by n false None salt is = absurd (none-some salt is)
salt-by n false (Some iv) salt is = subst IsSalt (same_Some (Some (salted_vector (Some iv) n)) salt is) (salted-length iv n, salted-small iv n)

pub salt-sound : (n : ℕ) (line : List ℕ) (salt : Option (List ℕ)) → salt_in n line ≡ Some salt → IsSalt salt
unfolding salt_in
salt-sound n line salt is = salt-by n (is_quoted line) (vector_in line) salt is
