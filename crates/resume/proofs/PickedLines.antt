-- Lines that are picked one after another.
use Rattle.std.proofs.Common.{◌≡◌, ◌≢◌, ℕ, ◌+◌, ◌%◌, ◌<◌, ◌^◌, ◌==◌, Bool, true, false, Option, Some, List, [], ◌∷◌, ◌++◌, length, drop, take, get_or, not, ◌&&◌, refl, sym, ap, ◌∙◌, arith, append_assoc, length-append}
use Rattle.std.specs.Prelude.{All, codes, unwrap_or}
use Rattle.std.specs.Fmt.{decimal}
use Rattle.std.specs.List.{before_first}
use Rattle.std.proofs.Math.Seq.{take-append_seam, drop-append_seam, get_or-append_seam}
use Rattle.std.proofs.lemmas.Bool.{eq-eqb, false≢true}
use Rattle.std.proofs.lemmas.Fmt.{decimal_by_steps}
use Rattle.std.proofs.lemmas.List.{get_or_append_left}
use Rattle.std.proofs.lemmas.List.Elements.{All-nil, All-cons, All-append}
use Rattle.std.proofs.lemmas.List.Sums.{position_or_len_is}
use Rattle.playlist_text.specs.MediaLines.{duration_line, vector_key_line}
use Rattle.media_playlist.specs.Lines.{range_line}
use Rattle.media_reading.specs.State.{number_in, sequence_line}
use Rattle.media_reading.proofs.Stepping.{both, not-eq}
use Rattle.media_reading.proofs.OneNumber.{number-found, tagged-apart, duration-apart}
use Rattle.resume.specs.Picking.{Picks, MOST, pick_line, pick_lines, begins, len_in, offset_in}

pub picks-append : (p : Picks) (xs ys : List (List ℕ)) → pick_lines p (xs ++ ys) ≡ pick_lines (pick_lines p xs) ys
unfolding pick_lines
picks-append p [] ys = refl
picks-append p (x ∷ xs) ys = picks-append (pick_line p x) xs ys

pub picks-more : (p q : Picks) (lines : List (List ℕ)) (line : List ℕ) → q ≡ pick_lines p lines → pick_line q line ≡ pick_lines p (lines ++ line ∷ [])
unfolding pick_lines
picks-more p q lines line is = ap (λ (x : Picks). pick_line x line) is ∙ sym (picks-append p lines (line ∷ []))

-- the URI of an I-frame
pub pick-uri : (p : Picks) (line : List ℕ) → p.uri_next ≡ true → pick_line p line ≡ record p { uri_next = false }
unfolding pick_line
pick-uri p line next = rw next refl

-- its duration
duration-begins : (m : ℕ) → begins (duration_line m) (codes "#EXTINF:") ≡ true
unfolding duration_line
duration-begins m = refl

duration-found : (m : ℕ) → m < 2 ^ 64 → number_in duration_line (2 ^ 64) (duration_line m) ≡ Some m
duration-found m small = number-found duration_line (2 ^ 64) m duration-apart small

pub pick-duration : (p : Picks) (m : ℕ) → p.uri_next ≡ false → m < 2 ^ 64 → pick_line p (duration_line m) ≡ record p { micros = m }
unfolding pick_line
pick-duration p m none small = rw (none, duration-begins m, duration-found m small) refl

-- its bytes
abbrev IsOther : List ℕ → Type 0
IsOther line = All (λ b. b ≢ 64) line

decimal-other : (n : ℕ) → n < 2 ^ 64 → IsOther (decimal n)
decimal-other n small =
    decimal_by_steps (λ _ ds. IsOther ds) (λ m lt. All-cons (λ b. b ≢ 64) (48 + m) [] (λ same. omega (arith, same, lt)) (All-nil (λ b. b ≢ 64)))
    (λ m ds _ front. All-append (λ b. b ≢ 64) ds ((48 + m % 10) ∷ []) front (All-cons (λ b. b ≢ 64) (48 + m % 10) [] (λ same. omega (arith, same)) (All-nil (λ b. b ≢ 64)))) n small

abbrev all_other : List ℕ → Bool
all_other [] = true
all_other (b ∷ xs) = not (b == 64) && all_other xs

other-if : (b : ℕ) (same : Bool) (xs : List ℕ) → b == 64 ≡ same → not same ≡ true → IsOther xs → IsOther (b ∷ xs)
other-if b true xs test is rest = absurd (false≢true is)
other-if b false xs test is rest = All-cons (λ c. c ≢ 64) b xs (λ one. false≢true (sym test ∙ eq-eqb b 64 one)) rest

others : (xs : List ℕ) → all_other xs ≡ true → IsOther xs
others [] is = All-nil (λ b. b ≢ 64)
others (b ∷ xs) is =
    let parts = both (not (b == 64)) (all_other xs) is in
    other-if b (b == 64) xs refl parts.0 (others xs parts.1)

-- what stands before the first @
before-at : (xs rest : List ℕ) → IsOther xs → before_first (λ b. b == 64) (xs ++ 64 ∷ rest) ≡ xs
before-at xs rest all =
    let whole = xs ++ 64 ∷ rest in
    let place = position_or_len_is (λ b. b == 64) whole (length xs) 0 (omega (arith, length-append xs (64 ∷ rest)))
    (λ k lt. ap (λ b. b == 64) (get_or_append_left xs (64 ∷ rest) 0 k lt) ∙ not-eq (get_or xs k 0) 64 (all k 0 lt))
    (λ _. ap (λ b. b == 64) (get_or-append_seam xs 64 rest 0)) in
    ap (λ n. take n whole) place ∙ take-append_seam xs (64 ∷ rest)

abbrev range-front : ℕ → List ℕ
range-front l = codes "#EXT-X-BYTERANGE:" ++ decimal l

range-parts : (l o : ℕ) → range_line l o ≡ range-front l ++ 64 ∷ decimal o
unfolding range_line
range-parts l o = append_assoc (range-front l) (codes "@") (decimal o)

front-other : (l : ℕ) → l < 2 ^ 64 → IsOther (range-front l)
front-other l small = All-append (λ b. b ≢ 64) (codes "#EXT-X-BYTERANGE:") (decimal l) (others (codes "#EXT-X-BYTERANGE:") refl) (decimal-other l small)

range-before : (l o : ℕ) → l < 2 ^ 64 → before_first (λ b. b == 64) (range_line l o) ≡ range-front l
range-before l o small = ap (before_first (λ b. b == 64)) (range-parts l o) ∙ before-at (range-front l) (decimal o) (front-other l small)

range-behind : (l o : ℕ) → drop (length (range-front l)) (range_line l o) ≡ codes "@" ++ decimal o
range-behind l o = ap (drop (length (range-front l))) (range-parts l o) ∙ drop-append_seam (range-front l) (64 ∷ decimal o)

len-found : (l o : ℕ) → l < MOST → len_in (range_line l o) ≡ l
len-found l o small =
    ap (λ (line : List ℕ). unwrap_or (number_in (λ n. codes "#EXT-X-BYTERANGE:" ++ decimal n) MOST line) 0) (range-before l o (omega (arith, small)))
    ∙ ap (λ (x : Option ℕ). unwrap_or x 0) (number-found (λ n. codes "#EXT-X-BYTERANGE:" ++ decimal n) MOST l (tagged-apart (codes "#EXT-X-BYTERANGE:") MOST (omega arith)) small)

offset-found : (l o : ℕ) → l < 2 ^ 64 → o < MOST → offset_in (range_line l o) ≡ o
offset-found l o few small =
    let rest = λ (k : ℕ). unwrap_or (number_in (λ n. codes "@" ++ decimal n) MOST (drop k (range_line l o))) 0 in
    ap (λ (xs : List ℕ). rest (length xs)) (range-before l o few)
    ∙ ap (λ (line : List ℕ). unwrap_or (number_in (λ n. codes "@" ++ decimal n) MOST line) 0) (range-behind l o)
    ∙ ap (λ (x : Option ℕ). unwrap_or x 0) (number-found (λ n. codes "@" ++ decimal n) MOST o (tagged-apart (codes "@") MOST (omega arith)) small)

range-not-duration : (l o : ℕ) → begins (range_line l o) (codes "#EXTINF:") ≡ false
unfolding range_line
range-not-duration l o = refl

range-begins : (l o : ℕ) → begins (range_line l o) (codes "#EXT-X-BYTERANGE:") ≡ true
unfolding range_line
range-begins l o = refl

pub pick-range : (p : Picks) (l o : ℕ) → p.uri_next ≡ false → l < MOST → o < MOST →
    pick_line p (range_line l o) ≡ record p { frames = p.frames ++ record { offset = o; len = l; micros = p.micros } ∷ []; uri_next = true }
unfolding pick_line
pick-range p l o none few small =
    rw (none, range-not-duration l o, range-begins l o, len-found l o few, offset-found l o (omega (arith, few)) small) refl

-- the line of a key
pub pick-key : (p : Picks) (name : List ℕ) (salt : Option (List ℕ)) (index number : ℕ) → p.uri_next ≡ false →
    pick_line p (vector_key_line name salt index number) ≡ record p { starts = p.starts ++ length p.frames ∷ [] }
unfolding pick_line vector_key_line
pick-key p name salt index number none = rw none refl

-- lines of which nothing is picked
pub pick-nothing : (p : Picks) (line : List ℕ) → p.uri_next ≡ false → begins line (codes "#EXTINF:") ≡ false → begins line (codes "#EXT-X-BYTERANGE:") ≡ false →
    begins line (codes "#EXT-X-KEY:") ≡ false → begins line (codes "#EXT-X-MEDIA-SEQUENCE:") ≡ false → pick_line p line ≡ p
unfolding pick_line
pick-nothing p line none a b c d = rw (none, a, b, c, d) refl

pub pick-sequence : (p : Picks) (n : ℕ) → p.uri_next ≡ false → n < MOST → pick_line p (sequence_line n) ≡ record p { first = n }
unfolding pick_line
pick-sequence p n none small =
    let found : number_in sequence_line MOST (sequence_line n) ≡ Some n = number-found sequence_line MOST n (tagged-apart (codes "#EXT-X-MEDIA-SEQUENCE:") MOST (omega arith)) small in
    rw (none, found) refl
