-- Texts and their lines.
use Rattle.std.proofs.Common.{inl, inr, ◌≡◌, ◌≢◌, ℕ, List, [], ◌∷◌, ◌++◌, length, drop, slice_index, Option, Some, None, refl, sym, ap, ◌∙◌, arith, append_assoc}
use Rattle.std.specs.Prelude.{All, codes}
use Rattle.std.specs.Option.{option_and_then}
use Rattle.std.proofs.lemmas.Bool.Decides.{eqb_tells}
use Rattle.std.proofs.lemmas.List.Elements.{All-cons, All-head, All-tail, All-nil}
use Rattle.playlist_text.specs.Lines.{text_of, ended_line}
use Rattle.playlist_text.proofs.TextLines.{text_of-append, text_of-line}
use Rattle.media_reading.specs.MediaTexts.{IsLine, Splits}
use Rattle.media_reading.specs.State.{Progress, step, steps}

-- one line more is read
pub text-more : (lines : List (List ℕ)) (line behind rest text : List ℕ) → text_of lines ++ rest ≡ text → rest ≡ line ++ 10 ∷ behind
    → text_of (lines ++ line ∷ []) ++ behind ≡ text
text-more lines line behind rest text so_far split =
    ap (λ x. x ++ behind) (text_of-append lines (line ∷ []) ∙ ap (λ x. text_of lines ++ x) (text_of-line line))
    ∙ append_assoc (text_of lines) (ended_line line) behind
    ∙ ap (λ x. text_of lines ++ x) (append_assoc line (codes "\n") behind ∙ sym split)
    ∙ so_far

-- what comes behind one line
steps-behind : (o : Option Progress) (xs ys : List (List ℕ)) → ((q : Progress) → steps q (xs ++ ys) ≡ option_and_then (λ r. steps r ys) (steps q xs))
    → option_and_then (λ q. steps q (xs ++ ys)) o ≡ option_and_then (λ r. steps r ys) (option_and_then (λ q. steps q xs) o)
steps-behind None xs ys later = refl
steps-behind (Some q) xs ys later = later q

-- what some lines and then others make of it
pub steps-append : (p : Progress) (xs ys : List (List ℕ)) → steps p (xs ++ ys) ≡ option_and_then (λ q. steps q ys) (steps p xs)
unfolding steps
steps-append p [] ys = refl
steps-append p (x ∷ xs) ys = steps-behind (step p x) xs ys (λ q. steps-append q xs ys)

-- nothing more comes
last-of : (o : Option Progress) → option_and_then (λ q. steps q []) o ≡ o
unfolding steps
last-of None = refl
last-of (Some q) = refl

-- one line more
pub steps-more : (p q : Progress) (lines : List (List ℕ)) (line : List ℕ) (o : Option Progress) → steps p lines ≡ Some q → step q line ≡ o → steps p (lines ++ line ∷ []) ≡ o
unfolding steps
steps-more p q lines line o so_far next =
    steps-append p lines (line ∷ []) ∙ ap (λ r. option_and_then (λ q. steps q (line ∷ [])) r) so_far ∙ last-of (step q line) ∙ next

-- a line that isn't taken isn't taken with more behind it
pub steps-stop : (p : Progress) (lines more : List (List ℕ)) → steps p lines ≡ None → steps p (lines ++ more) ≡ None
steps-stop p lines more stopped = steps-append p lines more ∙ ap (λ o. option_and_then (λ q. steps q more) o) stopped

-- lines, and a rest
pub record IsSplit (text : List ℕ) : Type 0 where
  pub lines : List (List ℕ)
  pub last : List ℕ
  pub splits : Splits text lines last

-- a byte more in front of the first line
split-line : (b : ℕ) (text : List ℕ) (lines : List (List ℕ)) (last : List ℕ) → b ≢ 10 → Splits text lines last → IsSplit (b ∷ text)
unfolding text_of
split-line b text [] last other splits = record {
  lines = [];
  last = b ∷ last;
  splits = record { whole = ap (λ x. b ∷ x) splits.whole; lines_end = splits.lines_end; last_is_open = All-cons (λ c. c ≢ 10) b last other splits.last_is_open };
}
split-line b text (line ∷ lines) last other splits = record {
  lines = (b ∷ line) ∷ lines;
  last = last;
  splits = record {
    whole = ap (λ x. b ∷ x) splits.whole;
    lines_end = All-cons IsLine (b ∷ line) lines (All-cons (λ c. c ≢ 10) b line other (All-head IsLine line lines splits.lines_end)) (All-tail IsLine line lines splits.lines_end);
    last_is_open = splits.last_is_open;
  };
}

-- an LF in front
split-end : (b : ℕ) (text : List ℕ) (lines : List (List ℕ)) (last : List ℕ) → b ≡ 10 → Splits text lines last → IsSplit (b ∷ text)
unfolding text_of
split-end b text lines last is splits = record {
  lines = [] ∷ lines;
  last = last;
  splits = record {
    whole = ap (λ x. x ∷ text) is ∙ ap (λ x. 10 ∷ x) splits.whole;
    lines_end = All-cons IsLine [] lines (All-nil (λ c. c ≢ 10)) splits.lines_end;
    last_is_open = splits.last_is_open;
  };
}

-- each text has them
pub split-of : (text : List ℕ) → IsSplit text
unfolding text_of
split-of [] = record { lines = []; last = []; splits = record { whole = refl; lines_end = All-nil IsLine; last_is_open = All-nil (λ c. c ≢ 10) } }
split-of (b ∷ text) =
    let rest = split-of text in
    elim (eqb_tells b 10) [
      | inl same ↦ split-end b text rest.lines rest.last same.1 rest.splits
      | inr other ↦ split-line b text rest.lines rest.last other.1 rest.splits
    ]

-- the first line of a text
text-first : (line : List ℕ) (lines : List (List ℕ)) (last : List ℕ) → text_of (line ∷ lines) ++ last ≡ line ++ 10 ∷ (text_of lines ++ last)
unfolding text_of
text-first line lines last =
    append_assoc (ended_line line) (text_of lines) last ∙ append_assoc line (codes "\n") (text_of lines ++ last)

-- it ends at the first LF
first-line : (a b r s : List ℕ) → IsLine a → IsLine b → a ++ 10 ∷ r ≡ b ++ 10 ∷ s → (a ≡ b) × (r ≡ s)
first-line [] [] r s here there same = (refl, ap (drop 1) same)
first-line [] (y ∷ b) r s here there same = absurd (All-head (λ c. c ≢ 10) y b there (sym (ap (λ l. slice_index l 0) same)))
first-line (x ∷ a) [] r s here there same = absurd (All-head (λ c. c ≢ 10) x a here (ap (λ l. slice_index l 0) same))
first-line (x ∷ a) (y ∷ b) r s here there same =
    let rest = first-line a b r s (All-tail (λ c. c ≢ 10) x a here) (All-tail (λ c. c ≢ 10) y b there) (ap (drop 1) same) in
    (ap (λ z. z ∷ a) (ap (λ l. slice_index l 0) same) ∙ ap (λ l. y ∷ l) rest.0, rest.1)

-- no line has one
no-line : (a r v : List ℕ) → IsLine v → a ++ 10 ∷ r ≢ v
no-line [] r [] is same = absurd (omega (arith, ap length same))
no-line [] r (y ∷ v) is same = All-head (λ c. c ≢ 10) y v is (sym (ap (λ l. slice_index l 0) same))
no-line (x ∷ a) r [] is same = absurd (omega (arith, ap length same))
no-line (x ∷ a) r (y ∷ v) is same = no-line a r v (All-tail (λ c. c ≢ 10) y v is) (ap (drop 1) same)

-- a text has its lines in one way
pub lines-same : (xs ys : List (List ℕ)) (u v : List ℕ) → All IsLine xs → All IsLine ys → IsLine u → IsLine v → text_of xs ++ u ≡ text_of ys ++ v → (xs ≡ ys) × (u ≡ v)
unfolding text_of
lines-same [] [] u v here there is other same = (refl, same)
lines-same [] (y ∷ ys) u v here there is other same = absurd (no-line y (text_of ys ++ v) u is (sym (text-first y ys v) ∙ sym same))
lines-same (x ∷ xs) [] u v here there is other same = absurd (no-line x (text_of xs ++ u) v other (sym (text-first x xs u) ∙ same))
lines-same (x ∷ xs) (y ∷ ys) u v here there is other same =
    let first = first-line x y (text_of xs ++ u) (text_of ys ++ v) (All-head IsLine x xs here) (All-head IsLine y ys there) (sym (text-first x xs u) ∙ same ∙ text-first y ys v) in
    let rest = lines-same xs ys u v (All-tail IsLine x xs here) (All-tail IsLine y ys there) is other first.1 in
    (ap (λ z. z ∷ xs) first.0 ∙ ap (λ l. y ∷ l) rest.0, rest.1)
