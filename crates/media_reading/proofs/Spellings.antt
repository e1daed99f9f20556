-- How numbers stand in lines.
use Rattle.std.proofs.Common.{◌≡◌, ◌≢◌, ℕ, ◌+◌, ◌-◌, ◌*◌, ◌/◌, ◌%◌, ◌<◌, ◌≤◌, Option, Some, None, List, [], ◌∷◌, ◌++◌, length, take, drop, refl, sym, ap, ◌∙◌, arith, append_assoc, length-append}
use Rattle.std.specs.Prelude.{MatchOption, codes}
use denote.Bor.{Bor}
use Rattle.std.specs.Fmt.{decimal}
use Rattle.std.proofs.lemmas.List.{append_cancel_left, append_cancel_right}
use Rattle.std.proofs.Math.Seq.{take-append_seam, drop-append_seam}
use Rattle.playlist_text.specs.Numbers.{six_digits, seconds}
use Rattle.playlist_text.specs.MediaLines.{duration_line}

-- what stands between two texts is determined
pub middle-same : (line front back x y : List ℕ) → line ≡ front ++ x ++ back → line ≡ front ++ y ++ back → x ≡ y
middle-same line front back x y one other =
    append_cancel_left front x y (append_cancel_right (front ++ x) (front ++ y) back (sym one ∙ other))

-- what is left behind a front, and before a back
pub between-parts : (line front back behind : List ℕ) (r : Option (Bor (List ℕ))) → line ≡ front ++ behind
    → MatchOption r ((middle : List ℕ) → behind ≢ middle ++ back) (λ middle. behind ≡ middle.now ++ back)
    → MatchOption r ((middle : List ℕ) → line ≢ front ++ middle ++ back) (λ middle. line ≡ front ++ middle.now ++ back)
between-parts line front back behind None stripped none = λ middle same.
    none middle (append_cancel_left front behind (middle ++ back) (sym stripped ∙ same ∙ append_assoc front middle back))
between-parts line front back behind (Some middle) stripped is =
    stripped ∙ ap (λ x. front ++ x) is ∙ sym (append_assoc front middle.now back)

-- a line that doesn't begin so
pub between-none : (line front back : List ℕ) → ((rest : List ℕ) → line ≢ front ++ rest) → (middle : List ℕ) → line ≢ front ++ middle ++ back
between-none line front back none middle same = none (middle ++ back) (same ∙ append_assoc front middle back)

-- the seconds of a duration, in two parts
pub record AreSeconds (micros : ℕ) (front digits : List ℕ) : Type 0 where
  pub whole : front ≡ [] ++ decimal (micros / 1_000_000) ++ codes "."
  pub rest : digits ≡ six_digits (micros % 1_000_000)

length-six : (n : ℕ) → length (six_digits n) ≡ 6
unfolding six_digits
length-six n = refl

pub seconds-of : (line s : List ℕ) (micros : ℕ) → line ≡ codes "#EXTINF:" ++ s ++ codes "," → line ≡ duration_line micros → s ≡ seconds micros
unfolding duration_line
seconds-of line s micros one other = middle-same line (codes "#EXTINF:") (codes ",") s (seconds micros) one other

pub seconds-long : (micros : ℕ) → 6 ≤ length (seconds micros)
unfolding seconds
seconds-long micros =
    omega (arith, length-append (decimal (micros / 1_000_000)) (46 ∷ six_digits (micros % 1_000_000)), length-six (micros % 1_000_000))

pub seconds-split : (s front digits : List ℕ) (micros : ℕ) → s ≡ seconds micros → front ≡ take (length s - 6) s → digits ≡ drop (length s - 6) s
    → AreSeconds micros front digits
unfolding seconds
seconds-split s front digits micros is before behind =
    let begun = decimal (micros / 1_000_000) ++ codes "." in
    let six = six_digits (micros % 1_000_000) in
    let joined : s ≡ begun ++ six = is ∙ sym (append_assoc (decimal (micros / 1_000_000)) (codes ".") six) in
    let place : length s - 6 ≡ length begun = omega (arith, ap length joined, length-append begun six, length-six (micros % 1_000_000)) in
    record {
      whole = before ∙ ap (λ k. take k s) place ∙ ap (take (length begun)) joined ∙ take-append_seam begun six;
      rest = behind ∙ ap (λ k. drop k s) place ∙ ap (drop (length begun)) joined ∙ drop-append_seam begun six;
    }

-- and joined
pub seconds-joined : (line s front digits : List ℕ) (whole rest micros : ℕ) → line ≡ codes "#EXTINF:" ++ s ++ codes "," → s ≡ front ++ digits
    → front ≡ [] ++ decimal whole ++ codes "." → digits ≡ six_digits rest → rest < 1_000_000 → micros ≡ whole * 1_000_000 + rest
    → line ≡ duration_line micros
unfolding duration_line seconds
seconds-joined line s front digits whole rest micros is parts before behind small sum =
    let high : whole ≡ micros / 1_000_000 = omega arith in
    let low : rest ≡ micros % 1_000_000 = omega arith in
    let text : s ≡ decimal whole ++ 46 ∷ six_digits rest
    = parts ∙ ap (λ x. x ++ digits) before ∙ ap (λ x. (decimal whole ++ codes ".") ++ x) behind ∙ append_assoc (decimal whole) (codes ".") (six_digits rest) in
    is ∙ ap (λ x. codes "#EXTINF:" ++ x ++ codes ",") text
    ∙ ap (λ x. codes "#EXTINF:" ++ (decimal x ++ 46 ∷ six_digits rest) ++ codes ",") high
    ∙ ap (λ x. codes "#EXTINF:" ++ (decimal (micros / 1_000_000) ++ 46 ∷ six_digits x) ++ codes ",") low

-- a duration stands between its tag and a comma
pub duration-between : (line : List ℕ) (micros : ℕ) → line ≡ duration_line micros → line ≡ codes "#EXTINF:" ++ seconds micros ++ codes ","
unfolding duration_line
duration-between line micros is = is

-- a whole number and a rest are the parts of their sum
pub parts-sum : (micros whole rest : ℕ) → whole ≡ micros / 1_000_000 → rest ≡ micros % 1_000_000 → whole * 1_000_000 + rest ≡ micros
parts-sum micros whole rest high low = omega (arith, high, low)
