-- What stands in lines, found there.
use Rattle.std.proofs.Common.{◌≡◌, ◌≢◌, ℕ, ◌+◌, ◌-◌, ◌<◌, ◌^◌, ◌==◌, Bool, true, false, Option, Some, None, List, [], ◌∷◌, ◌++◌, length, take, drop, refl, sym, ap, ◌∙◌, arith, append_assoc, append-nil}
use Rattle.std.specs.Prelude.{IfSome, MatchOption, codes}
use denote.Bor.{Bor}
use Rattle.std.specs.Fmt.{decimal}
use Rattle.std.specs.Str.{bytes_eq}
use Rattle.std.proofs.Math.Seq.{take-append_seam, drop-append_seam}
use Rattle.std.proofs.lemmas.Bool.{eqb-true, eq-eqb, false≢true}
use Rattle.std.proofs.lemmas.List.{append_cancel_left, append_cancel_right, length-append, take-append-drop}
use Rattle.std.proofs.lemmas.Option.{IfSome_then, same_Some, none-some}
use Rattle.std.proofs.lemmas.Slice.Eq.{bytes_eq-Decides}
use Rattle.hex.specs.Hex.{encode_upper, upper_digits}
use Rattle.hex.proofs.HexLemmas.{length-encode_with}
use Rattle.playlist_text.specs.Attributes.{hexadecimal}
use Rattle.playlist_text.specs.Uris.{escaped, segment_uri}
use Rattle.playlist_text.specs.Vectors.{salted_vector}
use Rattle.playlist_text.specs.MediaLines.{key_line_under}
use Rattle.media_reading.specs.State.{key_begin, key_end, vector_end}
use Rattle.media_reading.proofs.Found.{IsRead, not-true}
use Rattle.media_reading.proofs.KeyLines.{key_front, key_line_under-parts}
use Rattle.media_reading.proofs.Stepping.{not-eq}

-- a test of two texts, by what it tells of them
equal-by : (a b : List ℕ) (r : Bool) → (r ≡ true → a ≡ b) → (r ≡ false → a ≢ b) → r ≡ bytes_eq a b
equal-by a b true same other = sym ((bytes_eq-Decides a b).1 (same refl))
equal-by a b false same other = sym (not-true (bytes_eq a b) (λ test. other refl ((bytes_eq-Decides a b).0 test)))

-- a text that begins as another and ends there, or doesn't
pub whole-equal : (text whole rest : List ℕ) → text ≡ whole ++ rest → (length rest == 0) ≡ bytes_eq text whole
whole-equal text whole [] is = equal-by text whole true (λ _. is ∙ append-nil whole) (λ no. absurd (false≢true (sym no)))
whole-equal text whole (x ∷ rest) is =
    not-eq (length (x ∷ rest)) 0 (λ none. omega (arith, none)) ∙ equal-by text whole false (λ yes. absurd (false≢true yes)) (λ _ same.
    omega (arith, ap length (sym same ∙ is), length-append whole (x ∷ rest)))

pub none-equal : (text whole : List ℕ) → ((x : List ℕ) → text ≢ whole ++ x) → false ≡ bytes_eq text whole
none-equal text whole none =
    equal-by text whole false (λ yes. absurd (false≢true yes)) (λ _ same. none [] (same ∙ sym (append-nil whole)))

-- a vector at the end, in two parts
vector-parts : (salt : List ℕ) (n : ℕ) → vector_end (Some salt) n ≡ codes ",IV=0x" ++ encode_upper (salted_vector (Some salt) n)
unfolding hexadecimal
vector-parts salt n = refl

digits-long : (salt : List ℕ) (n : ℕ) → length (encode_upper (salted_vector (Some salt) n)) ≡ 32
digits-long salt n = length-encode_with upper_digits (salted_vector (Some salt) n)

-- the line without the digits, and the digits
pub record EndsIn (text x salt : List ℕ) (n : ℕ) : Type 0 where
  pub long : 32 + length x < length text
  pub front : take (length text - 32) text ≡ x ++ codes ",IV=0x"
  pub digits : drop (length text - 32) text ≡ encode_upper (salted_vector (Some salt) n)

pub ends-in : (text x : List ℕ) (o : Option (List ℕ)) (salt : List ℕ) (n : ℕ) → o ≡ Some salt → text ≡ x ++ vector_end o n → EndsIn text x salt n
ends-in text x o salt n is same =
    let digits = encode_upper (salted_vector (Some salt) n) in
    let begun = x ++ codes ",IV=0x" in
    let whole : text ≡ begun ++ digits
    = same ∙ ap (λ p. x ++ vector_end p n) is ∙ ap (λ l. x ++ l) (vector-parts salt n) ∙ sym (append_assoc x (codes ",IV=0x") digits) in
    let lengths : length text ≡ length begun + 32 = ap length whole ∙ length-append begun digits ∙ ap (λ k. length begun + k) (digits-long salt n) in
    let place : length text - 32 ≡ length begun = omega (arith, lengths) in
    record {
      long = omega (arith, lengths, length-append x (codes ",IV=0x"));
      front = ap (λ k. take k text) place ∙ ap (take (length begun)) whole ∙ take-append_seam begun digits;
      digits = ap (λ k. drop k text) place ∙ ap (drop (length begun)) whole ∙ drop-append_seam begun digits;
    }

-- what stands before the vector
pub vector-stripped : (text front digits : List ℕ) (o : Option (List ℕ)) (salt : List ℕ) (n : ℕ) (r : Option (Bor (List ℕ))) → o ≡ Some salt
    → front ≡ take (length text - 32) text → digits ≡ drop (length text - 32) text → digits ≡ encode_upper (salted_vector (Some salt) n)
    → MatchOption r ((x : List ℕ) → front ≢ x ++ codes ",IV=0x") (λ x. front ≡ x.now ++ codes ",IV=0x")
    → MatchOption r ((x : List ℕ) → text ≢ x ++ vector_end o n) (λ x. text ≡ x.now ++ vector_end o n)
vector-stripped text front digits o salt n None is before behind same none = λ x ends. none x (before ∙ (ends-in text x o salt n is ends).front)
vector-stripped text front digits o salt n (Some x) is before behind same stripped =
    sym (take-append-drop (length text - 32) text)
    ∙ ap (λ l. l ++ drop (length text - 32) text) (sym before ∙ stripped)
    ∙ ap (λ l. (x.now ++ codes ",IV=0x") ++ l) (sym behind ∙ same)
    ∙ append_assoc x.now (codes ",IV=0x") (encode_upper (salted_vector (Some salt) n))
    ∙ ap (λ l. x.now ++ l) (sym (vector-parts salt n))
    ∙ ap (λ p. x.now ++ vector_end p n) (sym is)

-- what stands between the name and the vector in the line of a key
abbrev pub IsIndex : List ℕ → List ℕ → Option (List ℕ) → ℕ → Option (Bor (List ℕ)) → Type 0
IsIndex line name salt n r =
    MatchOption r ((x : List ℕ) → line ≢ key_begin ++ escaped name ++ x ++ vector_end salt n) (λ x. line ≡ key_begin ++ escaped name ++ x.now ++ vector_end salt n)

pub index-is : (line name uri rest : List ℕ) (salt : Option (List ℕ)) (n : ℕ) (r : Option (Bor (List ℕ))) → line ≡ key_begin ++ uri → uri ≡ escaped name ++ rest
    → MatchOption r ((x : List ℕ) → rest ≢ x ++ vector_end salt n) (λ x. rest ≡ x.now ++ vector_end salt n) → IsIndex line name salt n r
index-is line name uri rest salt n None begun named none = λ x same.
    let front = key_begin ++ escaped name in
    none x (append_cancel_left front rest (x ++ vector_end salt n)
    (append_assoc key_begin (escaped name) rest ∙ ap (λ l. key_begin ++ l) (sym named) ∙ sym begun ∙ same ∙ append_assoc front x (vector_end salt n)))
index-is line name uri rest salt n (Some x) begun named is =
    let front = key_begin ++ escaped name in
    begun ∙ ap (λ l. key_begin ++ l) named ∙ sym (append_assoc key_begin (escaped name) rest) ∙ ap (λ l. front ++ l) is ∙ sym (append_assoc front x.now (vector_end salt n))

pub index-unbegun : (line name : List ℕ) (salt : Option (List ℕ)) (n : ℕ) → ((x : List ℕ) → line ≢ key_begin ++ x) → (x : List ℕ)
    → line ≢ key_begin ++ escaped name ++ x ++ vector_end salt n
index-unbegun line name salt n none x same =
    none (escaped name ++ (x ++ vector_end salt n))
    (same ∙ append_assoc (key_begin ++ escaped name) x (vector_end salt n) ∙ append_assoc key_begin (escaped name) (x ++ vector_end salt n))

pub index-unnamed : (line name uri : List ℕ) (salt : Option (List ℕ)) (n : ℕ) → line ≡ key_begin ++ uri → ((x : List ℕ) → uri ≢ escaped name ++ x) → (x : List ℕ)
    → line ≢ key_begin ++ escaped name ++ x ++ vector_end salt n
index-unnamed line name uri salt n begun none x same =
    none (x ++ vector_end salt n)
    (append_cancel_left key_begin uri (escaped name ++ (x ++ vector_end salt n))
    (sym begun ∙ same ∙ append_assoc (key_begin ++ escaped name) x (vector_end salt n) ∙ append_assoc key_begin (escaped name) (x ++ vector_end salt n)))

-- the number there, with a point before it and the end of a key's name behind
abbrev between_of : ℕ → List ℕ
between_of k = codes "." ++ decimal k ++ codes ".key\""

key-ends : (salt : Option (List ℕ)) (n : ℕ) → key_end salt n ≡ codes ".key\"" ++ vector_end salt n
key-ends None n = refl
key-ends (Some salt) n = refl

key-parts : (name : List ℕ) (salt : Option (List ℕ)) (n k : ℕ) → key_line_under name salt n k ≡ key_begin ++ escaped name ++ between_of k ++ vector_end salt n
key-parts name salt n k =
    let front = key_begin ++ escaped name in
    key_line_under-parts name salt n k ∙ ap (λ l. key_front name ++ decimal k ++ l) (key-ends salt n)
    ∙ sym (append_assoc (key_front name ++ decimal k) (codes ".key\"") (vector_end salt n))
    ∙ ap (λ l. l ++ codes ".key\"" ++ vector_end salt n) (append_assoc front (codes ".") (decimal k))
    ∙ ap (λ l. l ++ vector_end salt n) (append_assoc front (codes "." ++ decimal k) (codes ".key\""))

pub key-unread : (line name : List ℕ) (salt : Option (List ℕ)) (n : ℕ) → ((x : List ℕ) → line ≢ key_begin ++ escaped name ++ x ++ vector_end salt n)
    → IsRead (key_line_under name salt n) line None
key-unread line name salt n none = record { found = tt; only = λ k small same. absurd (none (between_of k) (same ∙ key-parts name salt n k)) }

pub key-read : (line name x : List ℕ) (salt : Option (List ℕ)) (n : ℕ) (r : Option ℕ) → line ≡ key_begin ++ escaped name ++ x ++ vector_end salt n
    → IfSome r (λ k. x ≡ between_of k) → ((k : ℕ) → k < 2 ^ 64 → x ≡ between_of k → r ≡ Some k) → IsRead (key_line_under name salt n) line r
key-read line name x salt n r is found only = record {
  found = IfSome_then r found (λ k same. is ∙ ap (λ l. key_begin ++ escaped name ++ l ++ vector_end salt n) same ∙ sym (key-parts name salt n k));
  only = λ k small same.
      let front = key_begin ++ escaped name in
      only k small (append_cancel_left front x (between_of k) (append_cancel_right (front ++ x) (front ++ between_of k) (vector_end salt n) (sym is ∙ same ∙ key-parts name salt n k)));
}

-- the line of a segment
segment-parts : (name : List ℕ) (n : ℕ) → segment_uri name n ≡ escaped name ++ (codes "." ++ decimal n ++ codes ".ts")
unfolding segment_uri
segment-parts name n =
    ap (λ l. l ++ codes ".ts") (append_assoc (escaped name) (codes ".") (decimal n)) ∙ append_assoc (escaped name) (codes "." ++ decimal n) (codes ".ts")

pub segment-unnamed : (line name : List ℕ) (n : ℕ) → ((x : List ℕ) → line ≢ escaped name ++ x) → false ≡ bytes_eq line (segment_uri name n)
segment-unnamed line name n none =
    equal-by line (segment_uri name n) false (λ yes. absurd (false≢true yes)) (λ _ same. none (codes "." ++ decimal n ++ codes ".ts") (same ∙ segment-parts name n))

pub segment-unread : (line name rest : List ℕ) (n : ℕ) (r : Option ℕ) → line ≡ escaped name ++ rest → r ≡ None
    → (rest ≡ codes "." ++ decimal n ++ codes ".ts" → r ≡ Some n) → false ≡ bytes_eq line (segment_uri name n)
segment-unread line name rest n r is none only =
    equal-by line (segment_uri name n) false (λ yes. absurd (false≢true yes)) (λ _ same.
    none-some n (sym none ∙ only (append_cancel_left (escaped name) rest (codes "." ++ decimal n ++ codes ".ts") (sym is ∙ same ∙ segment-parts name n))))

pub segment-read : (line name rest : List ℕ) (n m : ℕ) (r : Option ℕ) → line ≡ escaped name ++ rest → r ≡ Some m → rest ≡ codes "." ++ decimal m ++ codes ".ts"
    → (rest ≡ codes "." ++ decimal n ++ codes ".ts" → r ≡ Some n) → (m == n) ≡ bytes_eq line (segment_uri name n)
segment-read line name rest n m r is some found only =
    equal-by line (segment_uri name n) (m == n)
    (λ yes. is ∙ ap (λ l. escaped name ++ l) found ∙ ap (λ k. escaped name ++ (codes "." ++ decimal k ++ codes ".ts")) (eqb-true m n yes) ∙ sym (segment-parts name n))
    (λ no same.
    let there = only (append_cancel_left (escaped name) rest (codes "." ++ decimal n ++ codes ".ts") (sym is ∙ same ∙ segment-parts name n)) in
    false≢true (sym no ∙ eq-eqb m n (same_Some m n (sym some ∙ there))))
