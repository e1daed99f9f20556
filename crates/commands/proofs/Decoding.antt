-- No digits stand for no bytes; which texts stand for some.
use Rattle.std.proofs.Common.{arith, ◌≡◌, ◌≢◌, ◌<◌, ◌%◌, List, ℕ, [], ◌∷◌, true, false, Result, Ok, Err, is_err, length, refl, sym, ap, inl, inr, ◌∙◌}
use Rattle.std.specs.List.{list_all}
use Rattle.std.proofs.lemmas.Bool.{cases_eq}
use Rattle.std.proofs.lemmas.List.Sums.{AllPass-from_list_all, list_all-from_AllPass}
use Rattle.hex.specs.Hex.{decode_of, decode_pairs, is_hex_digit}
use Rattle.hex.specs.declared.error.FromHexError.{FromHexError}
use Rattle.hex.proofs.HexLemmas.{decode_of-digits, decode_of-ok}
use Rattle.commands.specs.Hex.{without_end}

decoded-none : decode_of [] ≡ Ok []
unfolding decode_pairs
decoded-none = refl

pub none-decoded : (text bytes : List ℕ) → length text ≡ 0 → bytes ≡ [] → decode_of text ≡ Ok bytes
none-decoded [] bytes none is = decoded-none ∙ ap Ok (sym is)
none-decoded (x ∷ text) bytes none is = absurd (omega (arith, none))

-- a text isn't empty where it isn't without its last LF
pub behind_digits : (line : List ℕ) → 0 < length (without_end line) → 0 < length line
behind_digits [] some = some
behind_digits (x ∷ line) some = omega arith

-- what no text stands for isn't more than nothing
pub some-line : (line sealed : List ℕ) → decode_of (without_end line) ≡ Ok sealed → 0 < length sealed → 0 < length line
some-line [] sealed is some = absurd (
    let both : sealed ≡ [] = cc (decoded-none, is) in
    omega (arith, some, ap length both))
some-line (x ∷ line) sealed is some = omega arith

even-length : (text : List ℕ) → length text % 2 ≢ 1 → length text % 2 ≡ 0
even-length text even = elim (cases_eq (length text % 2) 1) [
  | inl odd ↦ absurd (even odd)
  | inr not ↦ omega arith
]

-- an even number of digits stands for bytes
pub whole-digits : (text : List ℕ) → length text % 2 ≢ 1 → list_all is_hex_digit text ≡ true → is_err (decode_of text) ≡ false
whole-digits text even all =
    let bytes = decode_of-digits text (even-length text even) (AllPass-from_list_all is_hex_digit text all) in
    rw bytes.1 refl

-- a text with another character stands for none
pub other-digits : (text : List ℕ) → list_all is_hex_digit text ≡ false → is_err (decode_of text) ≡ true
other-digits text other = go (decode_of text) refl
  where
    go : (r : Result (List ℕ) FromHexError) → decode_of text ≡ r → is_err r ≡ true
    go (Ok bytes) is = absurd (cc (other, list_all-from_AllPass is_hex_digit text (decode_of-ok text bytes is).1))
    go (Err fault) is = refl
