-- A line has one number, and the line of a key one name.
use Rattle.std.proofs.Common.{◌≡◌, ℕ, ◌-◌, ◌/◌, ◌%◌, ◌<◌, ◌≤◌, ◌^◌, ◌==◌, true, Option, Some, List, ◌∷◌, ◌++◌, length, take, drop, get_or, refl, sym, ap, ◌∙◌, arith, append_assoc}
use Rattle.std.specs.Prelude.{codes}
use Rattle.std.specs.Fmt.{decimal}
use Rattle.std.specs.List.{before_first}
use Rattle.std.specs.Str.{IsUtf8, bytes_eq}
use Rattle.std.proofs.Math.Seq.{drop-append_seam}
use Rattle.std.proofs.lemmas.Fmt.{decimal_injective}
use Rattle.std.proofs.lemmas.List.{append_cancel_left, append_cancel_right}
use Rattle.std.proofs.lemmas.Slice.Eq.{bytes_eq-Decides}
use Rattle.percent_encoding.specs.Percent.{percent_decode}
use Rattle.playlist_text.specs.Names.{is_name}
use Rattle.playlist_text.specs.Numbers.{six_digits, seconds}
use Rattle.playlist_text.specs.Uris.{escaped}
use Rattle.playlist_text.specs.MediaLines.{duration_line, key_line_under}
use Rattle.media_reading.specs.State.{number_in, name_in, key_begin, key_end}
use Rattle.media_reading.proofs.Found.{found-only}
use Rattle.media_reading.proofs.Spellings.{middle-same, seconds-split}
use Rattle.media_reading.proofs.KeyLines.{key_front, key_line_under-parts}
use Rattle.media_reading.proofs.NamesIn.{told_name, a-name}
use Rattle.media_reading.proofs.EscapedBytes.{escaped-in, before-point, escaped-decoded}

-- each number below a bound has a line of its own
abbrev pub AreApart : (ℕ → List ℕ) → ℕ → Type 0
AreApart line_of bound = (m n : ℕ) → m < bound → n < bound → line_of m ≡ line_of n → m ≡ n

-- so it is found
pub number-found : (line_of : ℕ → List ℕ) (bound n : ℕ) → AreApart line_of bound → n < bound → number_in line_of bound (line_of n) ≡ Some n
number-found line_of bound n apart below =
    found-only (λ m. bytes_eq (line_of n) (line_of m)) bound n below ((bytes_eq-Decides (line_of n) (line_of n)).1 refl)
    (λ m small same. apart m n small below (sym ((bytes_eq-Decides (line_of n) (line_of m)).0 same)))

pub tagged-apart : (tag : List ℕ) (bound : ℕ) → bound ≤ 2 ^ 64 → AreApart (λ n. tag ++ decimal n) bound
tagged-apart tag bound few m n one other same =
    decimal_injective m n (omega (arith, one, few)) (omega (arith, other, few)) (append_cancel_left tag (decimal m) (decimal n) same)

pub key-apart : (name : List ℕ) (salt : Option (List ℕ)) (number : ℕ) → AreApart (key_line_under name salt number) 4096
key-apart name salt number m n one other same =
    let line = key_line_under name salt number in
    decimal_injective m n (omega (arith, one)) (omega (arith, other))
    (middle-same (line m) (key_front name) (key_end salt number) (decimal m) (decimal n) (key_line_under-parts name salt number m) (same ∙ key_line_under-parts name salt number n))

-- six digits are one number
six-apart : (m n : ℕ) → m < 1_000_000 → n < 1_000_000 → six_digits m ≡ six_digits n → m ≡ n
unfolding six_digits
six-apart m n one other same =
    let a : m / 100_000 % 10 ≡ n / 100_000 % 10 = omega (arith, ap (λ l. get_or l 0 0) same) in
    let b : m / 10_000 % 10 ≡ n / 10_000 % 10 = omega (arith, ap (λ l. get_or l 1 0) same) in
    let c : m / 1_000 % 10 ≡ n / 1_000 % 10 = omega (arith, ap (λ l. get_or l 2 0) same) in
    let d : m / 100 % 10 ≡ n / 100 % 10 = omega (arith, ap (λ l. get_or l 3 0) same) in
    let e : m / 10 % 10 ≡ n / 10 % 10 = omega (arith, ap (λ l. get_or l 4 0) same) in
    let f : m / 1 % 10 ≡ n / 1 % 10 = omega (arith, ap (λ l. get_or l 5 0) same) in
    let high : m / 100_000 ≡ n / 100_000 = omega (arith, one, other, a) in
    let five : m / 10_000 ≡ n / 10_000 = omega (arith, high, b) in
    let four : m / 1_000 ≡ n / 1_000 = omega (arith, five, c) in
    let three : m / 100 ≡ n / 100 = omega (arith, four, d) in
    let two : m / 10 ≡ n / 10 = omega (arith, three, e) in
    omega (arith, two, f)

seconds-apart : (m n : ℕ) → m < 2 ^ 64 → n < 2 ^ 64 → seconds m ≡ seconds n → m ≡ n
seconds-apart m n one other same =
    let s = seconds m in
    let front = take (length s - 6) s in
    let digits = drop (length s - 6) s in
    let here = seconds-split s front digits m refl refl refl in
    let there = seconds-split s front digits n same refl refl in
    let whole : m / 1_000_000 ≡ n / 1_000_000
    = decimal_injective (m / 1_000_000) (n / 1_000_000) (omega (arith, one)) (omega (arith, other))
    (append_cancel_right (decimal (m / 1_000_000)) (decimal (n / 1_000_000)) (codes ".") (sym here.whole ∙ there.whole)) in
    let rest : m % 1_000_000 ≡ n % 1_000_000
    = six-apart (m % 1_000_000) (n % 1_000_000) (omega arith) (omega arith) (sym here.rest ∙ there.rest) in
    omega (arith, whole, rest)

pub duration-apart : AreApart duration_line (2 ^ 64)
unfolding duration_line
duration-apart m n one other same =
    seconds-apart m n one other (middle-same (duration_line m) (codes "#EXTINF:") (codes ",") (seconds m) (seconds n) refl same)

-- the line of a key has its name
told-name : (name : List ℕ) (salt : Option (List ℕ)) (n key : ℕ) → IsUtf8 name → name ≡ told_name (key_line_under name salt n key)
told-name name salt n key utf8 =
    let rest = decimal key ++ key_end salt n in
    let uri = escaped name ++ 46 ∷ rest in
    let line : key_line_under name salt n key ≡ key_begin ++ uri
    = key_line_under-parts name salt n key
    ∙ append_assoc (key_front name) (decimal key) (key_end salt n)
    ∙ append_assoc (key_begin ++ escaped name) (codes ".") rest
    ∙ append_assoc key_begin (escaped name) (46 ∷ rest) in
    sym (
    ap told_name line
    ∙ ap (λ x. percent_decode (before_first (λ b. b == 46) x)) (drop-append_seam key_begin uri)
    ∙ ap percent_decode (before-point (escaped name) rest (escaped-in name))
    ∙ escaped-decoded name utf8
    )

pub name-found : (name : List ℕ) (salt : Option (List ℕ)) (n key : ℕ) → is_name name ≡ true → IsUtf8 name → name_in (key_line_under name salt n key) ≡ Some name
name-found name salt n key good utf8 = sym (a-name (key_line_under name salt n key) name (told-name name salt n key utf8) good utf8)
