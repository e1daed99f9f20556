-- The name in the line of a key.
use Rattle.std.proofs.Common.{◌≡◌, ℕ, ◌==◌, Bool, true, false, ◌&&◌, List, length, drop, Some, None, sym, ap, ◌∙◌, subst}
use Rattle.std.specs.Prelude.{if◌then◌else◌}
use Rattle.std.specs.List.{before_first}
use Rattle.std.specs.Str.{IsUtf8, is_utf8}
use Rattle.std.proofs.lemmas.Bool.{and_from, false≢true}
use Rattle.std.proofs.lemmas.Str.{IsUtf8-from_is_utf8, is_utf8-from_IsUtf8}
use Rattle.percent_encoding.specs.Percent.{percent_decode}
use Rattle.playlist_text.specs.Names.{is_name}
use Rattle.media_reading.specs.State.{key_begin, name_in}
use Rattle.media_reading.proofs.Found.{not-true}

-- what the escaped text stands for
abbrev pub told_name : List ℕ → List ℕ
told_name line = percent_decode (before_first (λ b. b == 46) (drop (length key_begin) line))

second : (a b : Bool) → (a && b) ≡ true → b ≡ true
second true b both = both
second false b both = absurd (false≢true both)

first : (a b : Bool) → a ≡ false → (a && b) ≡ false
first a b none = ap (λ x. x && b) none

-- it is no name
pub no-name : (line name : List ℕ) → name ≡ told_name line → is_name name ≡ false → None ≡ name_in line
unfolding name_in
no-name line name is bad =
    sym (ap (λ b. if b then Some (told_name line) else None) (first (is_name (told_name line)) (is_utf8 (told_name line)) (ap is_name (sym is) ∙ bad)))

-- it is no UTF-8
pub no-text : (line : List ℕ) → ¬ IsUtf8 (told_name line) → None ≡ name_in line
unfolding name_in
no-text line bad =
    sym (ap (λ b. if b then Some (told_name line) else None)
    (not-true (is_name (told_name line) && is_utf8 (told_name line)) (λ both. bad (IsUtf8-from_is_utf8 (told_name line) (second (is_name (told_name line)) (is_utf8 (told_name line)) both)))))

-- it is a name
pub a-name : (line name : List ℕ) → name ≡ told_name line → is_name name ≡ true → IsUtf8 name → Some name ≡ name_in line
unfolding name_in
a-name line name is good utf8 =
    ap Some is
    ∙ sym (ap (λ b. if b then Some (told_name line) else None)
    (and_from (is_name (told_name line)) (is_utf8 (told_name line)) (ap is_name (sym is) ∙ good) (is_utf8-from_IsUtf8 (told_name line) (subst IsUtf8 is utf8))))
