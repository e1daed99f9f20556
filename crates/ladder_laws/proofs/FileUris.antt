-- The URIs of a rendition name its files.
use Rattle.std.proofs.Common.{◌≡◌, ◌≢◌, ◌∙◌, ℕ, ◌+◌, ◌*◌, ◌/◌, ◌%◌, ◌<◌, ◌==◌, ◌&&◌, Bool, true, false, not, List, [], ◌∷◌, ◌++◌, All, refl, sym, ap, arith, append_assoc}
use Rattle.std.specs.Prelude.{codes, if◌then◌else◌}
use Rattle.std.specs.Fmt.{decimal}
use Rattle.std.specs.Char.{digit_value}
use Rattle.std.proofs.lemmas.Bool.{false≢true, eq-eqb}
use Rattle.std.proofs.lemmas.Bool.Decides.{nat_tests}
use Rattle.std.proofs.lemmas.List.Elements.{All-nil, All-cons, All-head, All-tail, All-append}
use Rattle.ghost_list.specs.Bytes.{AreBytes}
use Rattle.percent_encoding.specs.Percent.{percent_decode}
use Rattle.percent_encoding.proofs.PercentLemmas.{percent_decode-nil, percent_decode_escape, percent_decode_not_percent}
use Rattle.playlist_text.specs.Uris.{is_plain, upper_hex_digit, escaped_byte, escaped, segment_uri, media_uri}
use Rattle.item_io.specs.FileNames.{segment_file_name}
use Rattle.ladder_laws.proofs.UriLines.{both-of}
use Rattle.ladder_laws.proofs.WholeLines.{decimal-high}

-- the value of an upper-case hex digit
digit-back : (v : ℕ) → v < 16 → digit_value (upper_hex_digit v) ≡ v
digit-back v small = grind (arith, nat_tests)

plain-not-percent : (b : ℕ) → is_plain b ≡ true → b ≢ 37
plain-not-percent b plain same = false≢true (sym (ap is_plain same) ∙ plain)

-- an escaped byte stands for the byte
byte-back : (b : ℕ) (rest : List ℕ) (plain : Bool) → is_plain b ≡ plain → b < 256 →
    percent_decode ((if plain then b ∷ [] else 37 ∷ upper_hex_digit (b / 16) ∷ upper_hex_digit (b % 16) ∷ []) ++ rest) ≡ b ∷ percent_decode rest
byte-back b rest true test small = percent_decode_not_percent b rest (plain-not-percent b test)
byte-back b rest false test small =
    let high = digit-back (b / 16) (omega (arith, small)) in
    let low = digit-back (b % 16) (omega arith) in
    let value : 16 * digit_value (upper_hex_digit (b / 16)) + digit_value (upper_hex_digit (b % 16)) ≡ b = rw (high, low) (omega arith) in
    percent_decode_escape 37 (upper_hex_digit (b / 16)) (upper_hex_digit (b % 16)) rest refl (rw high (omega (arith, small))) (rw low (omega arith)) ∙ ap (λ x. x ∷ percent_decode rest) value

-- a name comes back before whatever follows it
name-back : (name rest : List ℕ) → AreBytes name → percent_decode (escaped name ++ rest) ≡ name ++ percent_decode rest
unfolding escaped
name-back [] rest small = refl
name-back (b ∷ name) rest small =
    ap percent_decode (append_assoc (escaped_byte b) (escaped name) rest)
    ∙ byte-back b (escaped name ++ rest) (is_plain b) refl (All-head (λ c. c < 256) b name small)
    ∙ ap (λ x. b ∷ x) (name-back name rest (All-tail (λ c. c < 256) b name small))

-- what has no '%' stands for itself
kept : (xs : List ℕ) → All (λ b. b ≢ 37) xs → percent_decode xs ≡ xs
kept [] none = percent_decode-nil
kept (b ∷ xs) none = percent_decode_not_percent b xs (All-head (λ c. c ≢ 37) b xs none) ∙ ap (λ x. b ∷ x) (kept xs (All-tail (λ c. c ≢ 37) b xs none))

abbrev all_kept : List ℕ → Bool
all_kept [] = true
all_kept (b ∷ xs) = not (b == 37) && all_kept xs

written : (xs : List ℕ) → all_kept xs ≡ true → All (λ b. b ≢ 37) xs
written [] is = All-nil (λ b. b ≢ 37)
written (b ∷ xs) is =
    let parts = both-of (not (b == 37)) (all_kept xs) is in
    All-cons (λ c. c ≢ 37) b xs (λ same. false≢true (sym (ap not (eq-eqb b 37 same)) ∙ parts.0)) (written xs parts.1)

decimal-kept : (n : ℕ) → All (λ b. b ≢ 37) (decimal n)
decimal-kept n = λ k d lt same. omega (arith, decimal-high n k d lt, same)

pub segment-named : (name : List ℕ) (n : ℕ) → AreBytes name → percent_decode (segment_uri name n) ≡ segment_file_name name n
unfolding segment_uri
segment-named name n small =
    let end = codes "." ++ decimal n ++ codes ".ts" in
    let apart : (xs : List ℕ) → xs ++ codes "." ++ decimal n ++ codes ".ts" ≡ xs ++ end = λ xs. append_assoc (xs ++ codes ".") (decimal n) (codes ".ts") ∙ append_assoc xs (codes ".") (decimal n ++ codes ".ts") in
    let plain : All (λ b. b ≢ 37) end = All-append (λ b. b ≢ 37) (codes "." ++ decimal n) (codes ".ts") (All-append (λ b. b ≢ 37) (codes ".") (decimal n) (written (codes ".") refl) (decimal-kept n)) (written (codes ".ts") refl) in
    ap percent_decode (apart (escaped name)) ∙ name-back name end small ∙ ap (λ x. name ++ x) (kept end plain) ∙ sym (apart name)

pub media-named : (name : List ℕ) → AreBytes name → percent_decode (media_uri name) ≡ name ++ codes ".m3u8"
unfolding media_uri
media-named name small = name-back name (codes ".m3u8") small ∙ ap (λ x. name ++ x) (kept (codes ".m3u8") (written (codes ".m3u8") refl))
