-- The set of escaped bytes is the rule of escapes.
use Rattle.std.proofs.Common.{◌≡◌, ℕ, suc, zero, ◌<◌, Bool, true, false, List, [], ◌∷◌, ◌++◌, All, refl, ap, ◌∙◌, ◌&&◌, inl, inr, arith}
use Rattle.std.specs.Str.{bytes_eq}
use Rattle.std.proofs.lemmas.Bool.{false≢true, cases_lt}
use Rattle.std.proofs.lemmas.Slice.Eq.{bytes_eq-Decides}
use Rattle.std.proofs.lemmas.List.Elements.{All-head, All-tail}
use Rattle.percent_encoding.specs.AsciiSet.{should_percent_encode}
use Rattle.percent_encoding.specs.Percent.{percent_encode_byte, encode_byte, percent_encode}
use Rattle.playlist_text.specs.declared.uri.TheConstants.{ESCAPED}
use Rattle.playlist_text.specs.Uris.{escaped_byte, escaped}

-- every number below n passes the test
unfoldable all_below : (ℕ → Bool) → ℕ → Bool
all_below test zero = true
all_below test (suc n) = test n && all_below test n

-- two tests that both pass
both : (a b : Bool) → (a && b) ≡ true → (a ≡ true) × (b ≡ true)
both true b e = (refl, e)
both false b e = absurd (false≢true e)

-- each passes
all_below-at : (test : ℕ → Bool) (n : ℕ) → all_below test n ≡ true → (i : ℕ) → i < n → test i ≡ true
unfolding all_below
all_below-at test zero all i lt = absurd (omega arith)
all_below-at test (suc n) all i lt = elim (cases_lt i n) [
  | inl below ↦ all_below-at test n (both (test n) (all_below test n) all).1 i below
  | inr above ↦ let last : n ≡ i = omega arith in rw (← last) (both (test n) (all_below test n) all).0
]

-- the bytes, one by one
bytes_test : all_below (λ b. bytes_eq (encode_byte ESCAPED b) (escaped_byte b)) 256 ≡ true
unfolding all_below should_percent_encode percent_encode_byte
bytes_test = refl

byte_same : (b : ℕ) → b < 256 → encode_byte ESCAPED b ≡ escaped_byte b
byte_same b lt =
    (bytes_eq-Decides (encode_byte ESCAPED b) (escaped_byte b)).0 (all_below-at (λ b. bytes_eq (encode_byte ESCAPED b) (escaped_byte b)) 256 bytes_test b lt)

-- a list of bytes
pub percent_encode-escaped : (bytes : List ℕ) → All (λ b. b < 256) bytes → percent_encode ESCAPED bytes ≡ escaped bytes
unfolding percent_encode escaped
percent_encode-escaped [] small = refl
percent_encode-escaped (b ∷ bytes) small =
    let first = byte_same b (All-head (λ x. x < 256) b bytes small) in
    let rest = percent_encode-escaped bytes (All-tail (λ x. x < 256) b bytes small) in
    ap (λ (xs : List ℕ). xs ++ percent_encode ESCAPED bytes) first ∙ ap (λ (xs : List ℕ). escaped_byte b ++ xs) rest
