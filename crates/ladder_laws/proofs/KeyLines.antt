-- Which key applies to the last segment of a media playlist.
use Rattle.std.proofs.Common.{◌≡◌, ◌∙◌, ◌⊎◌, inl, inr, ℕ, ◌/◌, ◌%◌, ◌==◌, Bool, true, false, List, [], ◌∷◌, ◌++◌, Option, Some, None, refl, ap, sym, subst, append_assoc}
use Rattle.std.specs.Prelude.{if◌then◌else◌, codes}
use Rattle.std.specs.Fmt.{decimal}
use Rattle.std.specs.List.{All}
use Rattle.std.proofs.lemmas.Bool.{cases_Bool, eqb-true, and_left}
use Rattle.std.proofs.lemmas.List.{append-nil}
use Rattle.std.proofs.lemmas.List.Elements.{All-nil, All-cons, All-append}
use Rattle.playlist_text.specs.Uris.{is_plain, upper_hex_digit, escaped, segment_uri}
use Rattle.playlist_text.specs.MediaLines.{Entry, Listing, head_lines, type_lines, discontinuity_lines, key_line, key_line_under, key_lines, vector_key_line, entry_key_lines, duration_line, entry_lines, entries_lines, end_lines, listing_lines}
use Rattle.ladder_laws.specs.Openings.{is_key_line, AppliesLast}

abbrev NoKey : List ℕ → Type 0
NoKey line = is_key_line line ≡ false

no-discontinuity : (d : Bool) → All NoKey (discontinuity_lines d)
unfolding discontinuity_lines
no-discontinuity true = All-cons NoKey _ [] refl (All-nil NoKey)
no-discontinuity false = All-nil NoKey

no-duration : (micros : ℕ) → NoKey (duration_line micros)
unfolding duration_line
no-duration micros = refl

-- a name that is escaped doesn't begin with '#'
not-hash : (b : ℕ) → is_plain b ≡ true → (35 == b) ≡ false
not-hash b plain = elim (cases_Bool (35 == b)) as (λ _. (35 == b) ≡ false) [
  | inl e ↦ absurd (let f : is_plain 35 ≡ true = subst (λ (c : ℕ). is_plain c ≡ true) (sym (eqb-true 35 b e)) plain in cc)
  | inr e ↦ e
]

no-byte : (p : Bool) (b x y : ℕ) (one two three four : List ℕ) → is_plain b ≡ p
    → NoKey (((((if p then b ∷ [] else 37 ∷ x ∷ y ∷ []) ++ one) ++ two) ++ three) ++ four)
no-byte true b x y one two three four e = and_left (35 == b) _ (not-hash b e)
no-byte false b x y one two three four e = refl

no-uri : (name : List ℕ) (number : ℕ) → NoKey (segment_uri name number)
unfolding segment_uri escaped
no-uri [] number = refl
no-uri (b ∷ name) number =
    no-byte (is_plain b) b (upper_hex_digit (b / 16)) (upper_hex_digit (b % 16)) (escaped name) (codes ".") (decimal number) (codes ".ts") refl

-- the lines of a segment behind its key's
abbrev last_two : List ℕ → Entry → List (List ℕ)
last_two name e = duration_line e.micros ∷ segment_uri name e.number ∷ []

no-two : (name : List ℕ) (e : Entry) (lines : List (List ℕ)) → All NoKey lines → All NoKey (duration_line e.micros ∷ segment_uri name e.number ∷ lines)
no-two name e lines none =
    All-cons NoKey (duration_line e.micros) (segment_uri name e.number ∷ lines) (no-duration e.micros)
    (All-cons NoKey (segment_uri name e.number) lines (no-uri name e.number) none)

-- the lines have the key's line, and behind it no other key's up to those of the segment
record Fresh (name : List ℕ) (salt : Option (List ℕ)) (e : Entry) (lines : List (List ℕ)) : Type 0 where
  before : List (List ℕ)
  between : List (List ℕ)
  lines_are : lines ≡ before ++ key_line_under name salt e.number e.key ∷ (between ++ last_two name e)
  none : All NoKey between

-- the segment before these lines had the key, and they have no other
record Kept (name : List ℕ) (k : Option ℕ) (e : Entry) (lines : List (List ℕ)) : Type 0 where
  same : k ≡ Some e.key
  between : List (List ℕ)
  lines_are : lines ≡ between ++ last_two name e
  none : All NoKey between

key-step : (name : List ℕ) (k : Option ℕ) (index : ℕ) → (key_lines name k index ≡ key_line name index ∷ []) ⊎ ((k ≡ Some index) × (key_lines name k index ≡ []))
unfolding key_lines
key-step name None index = inl refl
key-step name (Some b) index = elim (cases_Bool (b == index)) [
  | inl e ↦ inr (ap (λ (n : ℕ). Some n) (eqb-true b index e), rw e refl)
  | inr e ↦ inl (rw e refl)
]

at-last : (name : List ℕ) (k : Option ℕ) (e : Entry) → Fresh name None e (entries_lines name None k (e ∷ [])) ⊎ Kept name k e (entries_lines name None k (e ∷ []))
unfolding entries_lines entry_lines entry_key_lines
at-last name k e =
    let signs = discontinuity_lines e.discontinuity in
    elim (key-step name k e.key) [
      | inl new ↦ inl (record {
        before = signs;
        between = [];
        lines_are = append-nil _ ∙ (ap (λ l. (signs ++ l) ++ last_two name e) new ∙ append_assoc signs (key_line name e.key ∷ []) (last_two name e));
        none = All-nil NoKey;
      })
      | inr old ↦ inr (record {
        same = old.0;
        between = signs;
        lines_are = append-nil _ ∙ (ap (λ l. (signs ++ l) ++ last_two name e) old.1 ∙ ap (λ l. l ++ last_two name e) (append-nil signs));
        none = no-discontinuity e.discontinuity;
      })
    ]

same-some : (a b : ℕ) → Some a ≡ Some b → a ≡ b
same-some a b e = cc

-- one segment more in front
behind : (name : List ℕ) (salt : Option (List ℕ)) (e : Entry) (front lines : List (List ℕ)) → Fresh name salt e lines → Fresh name salt e (front ++ lines)
behind name salt e front lines f = record {
  before = front ++ f.before;
  between = f.between;
  lines_are = ap (λ l. front ++ l) f.lines_are ∙ sym (append_assoc front f.before _);
  none = f.none;
}

in-front : (name : List ℕ) (k : Option ℕ) (x e : Entry) (lines : List (List ℕ)) → Fresh name None e lines ⊎ Kept name (Some x.key) e lines
    → Fresh name None e (entry_lines name None k x ++ lines) ⊎ Kept name k e (entry_lines name None k x ++ lines)
unfolding entry_lines entry_key_lines
in-front name k x e lines (inl f) = inl (behind name None e (entry_lines name None k x) lines f)
in-front name k x e lines (inr g) =
    let signs = discontinuity_lines x.discontinuity in
    let then_on = g.between ++ last_two name e in
    elim (key-step name k x.key) [
      | inl new ↦ inl (record {
        before = signs;
        between = duration_line x.micros ∷ segment_uri name x.number ∷ g.between;
        lines_are = ap (λ l. entry_lines name None k x ++ l) g.lines_are
            ∙ (ap (λ l. ((signs ++ l) ++ last_two name x) ++ then_on) (new ∙ ap (λ n. key_line name n ∷ []) (same-some x.key e.key g.same))
            ∙ (ap (λ l. l ++ then_on) (append_assoc signs (key_line name e.key ∷ []) (last_two name x))
            ∙ append_assoc signs (key_line name e.key ∷ last_two name x) then_on));
        none = no-two name x g.between g.none;
      })
      | inr old ↦ inr (record {
        same = old.0 ∙ g.same;
        between = signs ++ duration_line x.micros ∷ segment_uri name x.number ∷ g.between;
        lines_are = ap (λ l. entry_lines name None k x ++ l) g.lines_are
            ∙ (ap (λ l. ((signs ++ l) ++ last_two name x) ++ then_on) old.1
            ∙ (ap (λ l. (l ++ last_two name x) ++ then_on) (append-nil signs)
            ∙ (append_assoc signs (last_two name x) then_on ∙ sym (append_assoc signs (duration_line x.micros ∷ segment_uri name x.number ∷ g.between) (last_two name e)))));
        none = All-append NoKey signs (duration_line x.micros ∷ segment_uri name x.number ∷ g.between) (no-discontinuity x.discontinuity) (no-two name x g.between g.none);
      })
    ]

of-entries : (name : List ℕ) (k : Option ℕ) (earlier : List Entry) (e : Entry)
    → Fresh name None e (entries_lines name None k (earlier ++ e ∷ [])) ⊎ Kept name k e (entries_lines name None k (earlier ++ e ∷ []))
unfolding entries_lines
of-entries name k [] e = at-last name k e
of-entries name k (x ∷ earlier) e = in-front name k x e (entries_lines name None (Some x.key) (earlier ++ e ∷ [])) (of-entries name (Some x.key) earlier e)

is-fresh : (name : List ℕ) (e : Entry) (lines : List (List ℕ)) → Fresh name None e lines ⊎ Kept name None e lines → Fresh name None e lines
is-fresh name e lines (inl f) = f
is-fresh name e lines (inr g) = absurd (let f : None ≡ Some e.key = g.same in cc)

-- with a salt each segment has its own line
of-salted : (name salt : List ℕ) (k : Option ℕ) (earlier : List Entry) (e : Entry) → Fresh name (Some salt) e (entries_lines name (Some salt) k (earlier ++ e ∷ []))
unfolding entries_lines entry_lines entry_key_lines
of-salted name salt k [] e =
    let signs = discontinuity_lines e.discontinuity in
    record {
      before = signs;
      between = [];
      lines_are = append-nil _ ∙ append_assoc signs (vector_key_line name (Some salt) e.key e.number ∷ []) (last_two name e);
      none = All-nil NoKey;
    }
of-salted name salt k (x ∷ earlier) e =
    behind name (Some salt) e (entry_lines name (Some salt) k x) _ (of-salted name salt (Some x.key) earlier e)

of-any : (name : List ℕ) (salt : Option (List ℕ)) (earlier : List Entry) (e : Entry) → Fresh name salt e (entries_lines name salt None (earlier ++ e ∷ []))
of-any name None earlier e = is-fresh name e _ (of-entries name None earlier e)
of-any name (Some salt) earlier e = of-salted name salt None earlier e

pub applies-last : (listing : Listing) (earlier : List Entry) (e : Entry) → listing.entries ≡ earlier ++ e ∷ [] → listing.ended ≡ false
    → AppliesLast listing.name listing.salt e.key e.number (listing_lines listing)
unfolding listing_lines end_lines
applies-last listing earlier e are going =
    let head = head_lines listing.target listing.sequence listing.discontinuity_sequence ++ type_lines listing.event in
    let f = of-any listing.name listing.salt earlier e in
    record {
      before = head ++ f.before;
      between = f.between;
      micros = e.micros;
      lines_are = ap (λ (b : Bool). (head ++ entries_lines listing.name listing.salt None listing.entries) ++ end_lines b) going
          ∙ (append-nil _
          ∙ (ap (λ l. head ++ entries_lines listing.name listing.salt None l) are
          ∙ (ap (λ l. head ++ l) f.lines_are ∙ sym (append_assoc head f.before _))));
      none = f.none;
    }
