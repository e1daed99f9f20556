-- The URIs of a text that is made of lines.
use Rattle.std.proofs.Common.{◌≡◌, ◌≢◌, ◌∙◌, ◌⊎◌, inl, inr, ℕ, ◌-◌, ◌<◌, ◌==◌, ◌&&◌, ◌||◌, Bool, true, false, List, [], ◌∷◌, ◌++◌, length, filter, slice_index, All, refl, sym, ap, arith, append_assoc}
use Rattle.std.specs.Prelude.{codes, if◌then◌else◌}
use Rattle.std.specs.List.{list_any, slice_split}
use Rattle.std.specs.Str.Lines.{lines, lines_of_parts, strip_carriage_return}
use Rattle.std.proofs.lemmas.Bool.{false≢true}
use Rattle.std.proofs.lemmas.List.Splits.{length-slice_split, slice_split_at}
use Rattle.std.proofs.lemmas.List.Elements.{All-head, All-tail}
use Rattle.std.proofs.lemmas.Bool.Decides.{nat_tests}
use Rattle.std.proofs.lemmas.Slice.Eq.{bytes_eq-Decides}
use Rattle.percent_encoding.specs.Percent.{percent_decode}
use Rattle.playlist_text.specs.Lines.{text_of}
use Rattle.ladder_laws.specs.Playlists.{is_uri, uris, names_file, lists_file, is_playlist}

-- neither an LF nor a CR
abbrev pub IsInLine : ℕ → Type 0
IsInLine b = (b ≢ 10) × (b ≢ 13)

-- a line without its end
abbrev pub IsOneLine : List ℕ → Type 0
IsOneLine line = All IsInLine line

other-byte : (b c : ℕ) → b ≢ c → (b == c) ≡ false
other-byte b c other = grind (arith, nat_tests)

not-stripped : (line : List ℕ) → IsOneLine line → strip_carriage_return line ≡ line
not-stripped [] one = refl
not-stripped (b ∷ line) one =
    let last = length (b ∷ line) - 1 in
    rw (other-byte (slice_index (b ∷ line) last) 13 (one last 0 (omega arith)).1) refl

first-part : (x : List ℕ) (parts : List (List ℕ)) → 0 < length parts → lines_of_parts (x ∷ parts) ≡ strip_carriage_return x ∷ lines_of_parts parts
first-part x [] some = absurd (omega (arith, some))
first-part x (y ∷ more) some = refl

abbrev is_end : ℕ → Bool
is_end b = b == 10

first-line : (line rest : List ℕ) → IsOneLine line → lines (line ++ 10 ∷ rest) ≡ line ∷ lines rest
first-line line rest one =
    ap lines_of_parts (slice_split_at is_end line 10 rest (λ k d lt. other-byte _ 10 (one k d lt).0) refl)
    ∙ first-part line (slice_split is_end rest) (omega (arith, length-slice_split is_end rest))
    ∙ ap (λ (l : List ℕ). l ∷ lines rest) (not-stripped line one)

-- the lines of a text are those that it was made of
pub lines-of-text : (ls : List (List ℕ)) → All IsOneLine ls → lines (text_of ls) ≡ ls
unfolding text_of
lines-of-text [] one = refl
lines-of-text (l ∷ ls) one =
    ap lines (append_assoc l (codes "\n") (text_of ls))
    ∙ first-line l (text_of ls) (All-head IsOneLine l ls one)
    ∙ ap (λ (rest : List (List ℕ)). l ∷ rest) (lines-of-text ls (All-tail IsOneLine l ls one))

-- a line, which says this if it is a URI
abbrev pub IsGood : (List ℕ → Type 0) → List ℕ → Type 0
IsGood P line = IsOneLine line × (is_uri line ≡ true → P line)

one-of : (a b : Bool) → (a || b) ≡ true → (a ≡ true) ⊎ (b ≡ true)
one-of true b is = inl refl
one-of false b is = inr is

pub both-of : (a b : Bool) → (a && b) ≡ true → (a ≡ true) × (b ≡ true)
both-of true b is = (refl, is)
both-of false b is = absurd (false≢true is)

-- a URI that names the file
pub record IsNamed (P : List ℕ → Type 0) (file : List ℕ) : Type 0 where
  pub uri : List ℕ
  pub says : P uri
  pub named : percent_decode uri ≡ file

module _ (P : List ℕ → Type 0) (file : List ℕ) where
  abbrev Claim : List (List ℕ) → Type 0
  Claim ls = list_any (names_file file) (filter is_uri ls) ≡ true → IsNamed P file

  named-step : (l : List ℕ) (ls : List (List ℕ)) (uri : Bool) → is_uri l ≡ uri → (uri ≡ true → P l) → Claim ls → list_any (names_file file) (if uri then l ∷ filter is_uri ls else filter is_uri ls) ≡ true → IsNamed P file
  named-step l ls false e says later is = later is
  named-step l ls true e says later is =
      elim (one-of (names_file file l) (list_any (names_file file) (filter is_uri ls)) is) [
        | inl here ↦ record { uri = l; says = says refl; named = (bytes_eq-Decides (percent_decode l) file).0 here }
        | inr there ↦ later there
      ]

  named-among : (ls : List (List ℕ)) → All (IsGood P) ls → Claim ls
  named-among [] good is = absurd (false≢true is)
  named-among (l ∷ ls) good is =
      named-step l ls (is_uri l) refl (All-head (IsGood P) l ls good).1 (named-among ls (All-tail (IsGood P) l ls good)) is

  -- what a file lists is named by one of its lines
  pub listed-by : (name : List ℕ) (ls : List (List ℕ)) → All (IsGood P) ls → lists_file name (text_of ls) file ≡ true → IsNamed P file
  listed-by name ls good is =
      let among = (both-of (is_playlist name) (list_any (names_file file) (uris (text_of ls))) is).1 in
      named-among ls good (ap (λ (all : List (List ℕ)). list_any (names_file file) (filter is_uri all)) (sym (lines-of-text ls (λ k d lt. (good k d lt).0))) ∙ among)
