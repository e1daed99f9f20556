-- A line that is taken stands behind those before it.
use Rattle.std.proofs.Common.{◌≡◌, ◌≢◌, ℕ, ◌+◌, ◌/◌, ◌<◌, ◌^◌, ◌==◌, ◌&&◌, ◌||◌, not, inl, inr, ◌⊎◌, Bool, true, false, List, [], ◌∷◌, ◌++◌, length, Option, Some, None, refl, sym, ap, ◌∙◌, subst, arith, append_assoc, append-nil}
use Rattle.std.specs.Prelude.{if◌then◌else◌, nat_lt, nat_le, unwrap_or, option_map, is_some, codes}
use Rattle.std.specs.Option.{option_and_then, option_or}
use Rattle.std.specs.Str.{IsUtf8, bytes_eq, is_utf8}
use Rattle.std.proofs.lemmas.Bool.{false≢true, ltb-true, leb-true, eq-eqb, eqb-true}
use Rattle.std.proofs.lemmas.Bool.Decides.{eqb_tells}
use Rattle.std.proofs.lemmas.Option.{same_Some, none-some}
use Rattle.std.proofs.lemmas.Slice.Eq.{bytes_eq-Decides}
use Rattle.std.proofs.lemmas.Str.{IsUtf8-from_is_utf8}
use Rattle.playlist_text.specs.Names.{is_name}
use Rattle.playlist_text.specs.Uris.{segment_uri}
use Rattle.playlist_text.specs.MediaLines.{Entry, head_lines, type_lines, discontinuity_lines, key_line, key_lines, entry_key_lines, duration_line, entry_lines, entries_lines, end_lines, key_line_under}
use Rattle.media_reading.specs.declared.reading.Stage.{Stage}
use Rattle.media_reading.specs.declared.reading.Stage.TheVariants.{Fresh, Tagged, Versioned, Targeted, Sequenced, Headed, Between, Broken, Keyed, Timed, Ended}
use Rattle.media_reading.specs.MediaTexts.{IsListed, AreListed, IsSalt}
use Rattle.media_reading.specs.State.{Progress, next_number, number_in, number_left, entry_of, expect, where_so, is_duration, key_in, salt_in, with_key, keyed_first, keyed_by, keyed, timed, keyed_or_timed, with_entry, listed, entered, begun, headed, step_at, step, name_in, target_line, sequence_line, discontinuity_sequence_line}
use Rattle.media_reading.proofs.Found.{found-some}
use Rattle.media_reading.proofs.NamesIn.{told_name}
use Rattle.media_reading.proofs.Salts.{salt-sound}
use Rattle.media_reading.proofs.Going.{key_behind, last_key, name_of, head_of, front_of, keys_of, listed_lines, lines_at, IsAt, IsBounded, IsSound}

-- where a test decides, it has passed
if-some : {A : Type 0} (b : Bool) (x y : A) → (if b then Some x else None) ≡ Some y → (b ≡ true) × (x ≡ y)
if-some true x y is = (refl, same_Some x y is)
if-some false x y is = absurd (none-some y is)

-- where a value is used, it is there
then-some : {A B : Type 0} (f : A → Option B) (o : Option A) (y : B) → option_and_then f o ≡ Some y → (x : A) × (o ≡ Some x) × (f x ≡ Some y)
then-some f None y is = absurd (none-some y is)
then-some f (Some x) y is = (x, refl, is)

map-some : {A B : Type 0} (f : A → B) (o : Option A) (y : B) → option_map f o ≡ Some y → (x : A) × (o ≡ Some x) × (f x ≡ y)
map-some f None y is = absurd (none-some y is)
map-some f (Some x) y is = (x, refl, same_Some (f x) y is)

or-some : {A : Type 0} (a b : Option A) (y : A) → option_or a b ≡ Some y → (a ≡ Some y) ⊎ (b ≡ Some y)
or-some None b y is = inr is
or-some (Some x) b y is = inl is

pub both : (a b : Bool) → (a && b) ≡ true → (a ≡ true) × (b ≡ true)
both true b is = (refl, is)
both false b is = absurd (false≢true is)

-- a line that was expected
expected : (line wanted : List ℕ) (next q : Progress) → expect line wanted next ≡ Some q → (line ≡ wanted) × (next ≡ q)
expected line wanted next q is =
    let told = if-some (bytes_eq line wanted) next q is in
    ((bytes_eq-Decides line wanted).0 told.0, told.1)

-- a line with a number
numbered : (line_of : ℕ → List ℕ) (bound n : ℕ) (line : List ℕ) → number_in line_of bound line ≡ Some n → (line ≡ line_of n) × (n < bound)
numbered line_of bound n line is =
    let found = found-some (λ m. bytes_eq line (line_of m)) bound n is in
    ((bytes_eq-Decides line (line_of n)).0 found.passes, found.below)

-- a line with a name
named : (line name : List ℕ) → name_in line ≡ Some name → (is_name name ≡ true) × IsUtf8 name
unfolding name_in
named line name is =
    let told = if-some (is_name (told_name line) && is_utf8 (told_name line)) (told_name line) name is in
    let good = both (is_name (told_name line)) (is_utf8 (told_name line)) told.0 in
    (ap is_name (sym told.1) ∙ good.0, subst IsUtf8 told.1 (IsUtf8-from_is_utf8 (told_name line) good.1))

-- an entry that is told has a key
key_behind-some : (key : ℕ) (entries : List Entry) → is_some (key_behind (Some key) entries) ≡ true
key_behind-some key [] = refl
key_behind-some key (entry ∷ entries) = key_behind-some entry.key entries

last_key-some : (entries : List Entry) → 0 < length entries → is_some (last_key entries) ≡ true
last_key-some [] some = absurd (omega (arith, some))
last_key-some (entry ∷ entries) some = key_behind-some entry.key entries

-- where no entry has one, none is told
pub last_key-none : (entries : List Entry) → last_key entries ≡ None → entries ≡ []
last_key-none [] none = refl
last_key-none (entry ∷ entries) none = absurd (false≢true (ap is_some (sym none) ∙ key_behind-some entry.key entries))

-- behind an entry more
key_behind-more : (before : Option ℕ) (entries : List Entry) (entry : Entry) → key_behind before (entries ++ entry ∷ []) ≡ Some entry.key
key_behind-more before [] entry = refl
key_behind-more before (first ∷ entries) entry = key_behind-more (Some first.key) entries entry

pub entries_lines-more : (name : List ℕ) (salt : Option (List ℕ)) (before : Option ℕ) (entries : List Entry) (entry : Entry)
    → entries_lines name salt before (entries ++ entry ∷ []) ≡ entries_lines name salt before entries ++ entry_lines name salt (key_behind before entries) entry
unfolding entries_lines
entries_lines-more name salt before [] entry = append-nil (entry_lines name salt before entry)
entries_lines-more name salt before (first ∷ entries) entry =
    ap (λ x. entry_lines name salt before first ++ x) (entries_lines-more name salt (Some first.key) entries entry)
    ∙ sym (append_assoc (entry_lines name salt before first) (entries_lines name salt (Some first.key) entries) (entry_lines name salt (key_behind (Some first.key) entries) entry))

pub AreListed-more : (target number : ℕ) (entries : List Entry) (entry : Entry) → AreListed target number entries → IsListed target (number + length entries) entry
    → AreListed target number (entries ++ entry ∷ [])
AreListed-more target number [] entry all last =
    let none : number + 0 ≡ number = omega arith in
    (subst (λ n. IsListed target n entry) none last, _)
AreListed-more target number (first ∷ entries) entry all last =
    let next : number + length (first ∷ entries) ≡ number + 1 + length entries = omega arith in
    (all.0, AreListed-more target (number + 1) entries entry all.1 (subst (λ n. IsListed target n entry) next last))

-- the lines of no entries are the same for each name and salt
no-entries : (name other : List ℕ) (salt new : Option (List ℕ)) (entries : List Entry) → entries ≡ [] → entries_lines name salt None entries ≡ entries_lines other new None entries
unfolding entries_lines
no-entries name other salt new entries none = ap (entries_lines name salt None) none ∙ sym (ap (entries_lines other new None) none)

-- what a test decides between
if-cases : {A : Type 0} (b : Bool) (x y : Option A) (z : A) → (if b then x else y) ≡ Some z → ((b ≡ true) × (x ≡ Some z)) ⊎ ((b ≡ false) × (y ≡ Some z))
if-cases true x y z is = inl (refl, is)
if-cases false x y z is = inr (refl, is)

if-then : {A : Type 0} (b : Bool) (x : Option A) (z : A) → (if b then x else None) ≡ Some z → (b ≡ true) × (x ≡ Some z)
if-then true x z is = (refl, is)
if-then false x z is = absurd (none-some z is)

is_some-map : {A B : Type 0} (f : A → B) (o : Option A) → is_some o ≡ is_some (option_map f o)
is_some-map f None = refl
is_some-map f (Some x) = refl

if-else : {A : Type 0} (b : Bool) (x : Option A) (z : A) → (if b then None else x) ≡ Some z → (b ≡ false) × (x ≡ Some z)
if-else true x z is = absurd (none-some z is)
if-else false x z is = (refl, is)

one-of : (a b : Bool) → (a || b) ≡ true → (a ≡ true) ⊎ (b ≡ true)
one-of true b is = inl refl
one-of false b is = inr is

no-value : {A : Type 0} (o : Option A) → is_some o ≡ false → o ≡ None
no-value None none = refl
no-value (Some x) none = absurd (false≢true (sym none))

not-same : (a b : ℕ) → not (a == b) ≡ true → a ≢ b
not-same a b other same = false≢true (ap not (sym (eq-eqb a b same)) ∙ other)

pub not-eq : (a b : ℕ) → a ≢ b → (a == b) ≡ false
not-eq a b other = elim (eqb_tells a b) [
  | inl same ↦ absurd (other same.1)
  | inr fails ↦ fails.0
]

-- a key that is told again has no line, another one has
key-told : (name : List ℕ) (key : ℕ) (o : Option (List ℕ)) (before : Option ℕ) → before ≡ option_map (λ _. key) o → is_some o ≡ true → key_lines name before key ≡ []
unfolding key_lines
key-told name key None before last named = absurd (false≢true named)
key-told name key (Some x) before last named =
    ap (λ b. key_lines name b key) last ∙ ap (λ b. if b then [] else key_line name key ∷ []) (eq-eqb key key refl)

pub other-key : (name : List ℕ) (key : ℕ) (before : Option ℕ) → before ≢ Some key → key_lines name before key ≡ key_line name key ∷ []
unfolding key_lines
other-key name key None other = refl
other-key name key (Some k) other = ap (λ b. if b then [] else key_line name key ∷ []) (not-eq k key (λ same. other (ap Some same)))

-- under a salt the key always has a line
pub key-listed : (name : List ℕ) (salt : Option (List ℕ)) (before : Option ℕ) (key n : ℕ) → (is_some salt ≡ true) ⊎ (before ≢ Some key)
    → entry_key_lines name salt before key n ≡ key_line_under name salt n key ∷ []
unfolding entry_key_lines
key-listed name None before key n (inl salted) = absurd (false≢true salted)
key-listed name None before key n (inr other) = other-key name key before other
key-listed name (Some salt) before key n other = refl

-- the last of the lines of an entry
five : (a b c : List (List ℕ)) (x y : List ℕ) → a ++ (b ++ c ++ x ∷ y ∷ []) ≡ (a ++ b ++ c ++ x ∷ []) ++ y ∷ []
five a b c x y =
    sym (append_assoc a (b ++ c) (x ∷ y ∷ [])) ∙ ap (λ z. z ++ x ∷ y ∷ []) (sym (append_assoc a b c)) ∙ sym (append_assoc (a ++ b ++ c) (x ∷ []) (y ∷ []))

-- what a line that is taken makes of it, from a stage on
abbrev Goes : List (List ℕ) → List ℕ → Progress → Type 0
Goes before line q = IsSound q × (lines_at q.stage q ≡ before ++ line ∷ [])

-- the lines of the head
goes-fresh : (p q : Progress) (line : List ℕ) → IsSound p → IsAt Fresh p → step_at Fresh p line ≡ Some q → Goes (lines_at Fresh p) line q
unfolding head_lines
goes-fresh p q line sound at is =
    let told = expected line (codes "#EXTM3U") (record p { stage = Tagged }) q is in
    subst (Goes [] line) told.1 (record { bounded = sound.bounded; stands = at }, ap (λ x. x ∷ []) (sym told.0))

goes-tagged : (p q : Progress) (line : List ℕ) → IsSound p → IsAt Tagged p → step_at Tagged p line ≡ Some q → Goes (lines_at Tagged p) line q
unfolding head_lines
goes-tagged p q line sound at is =
    let told = expected line (codes "#EXT-X-VERSION:4") (record p { stage = Versioned }) q is in
    subst (Goes (lines_at Tagged p) line) told.1 (record { bounded = sound.bounded; stands = at }, ap (λ x. codes "#EXTM3U" ∷ x ∷ []) (sym told.0))

goes-versioned : (p q : Progress) (line : List ℕ) → IsSound p → IsAt Versioned p → step_at Versioned p line ≡ Some q → Goes (lines_at Versioned p) line q
unfolding head_lines
goes-versioned p q line sound at is =
    let next = λ (n : ℕ). record p { stage = Targeted; target = n } in
    let told = then-some (λ n. where_so (nat_lt 0 n) (next n)) (number_in target_line 3601 line) q is in
    let n = told.0 in
    let read = numbered target_line 3601 n line told.1 in
    let may = if-some (nat_lt 0 n) (next n) q told.2 in
    subst (Goes (lines_at Versioned p) line) may.1 (
      record {
        bounded = record { name = sound.bounded.name; utf8 = sound.bounded.utf8; some_target = ltb-true 0 n may.0; target = omega (arith, read.1); sequence = sound.bounded.sequence; discontinuity_sequence = sound.bounded.discontinuity_sequence; event = sound.bounded.event; salt = sound.bounded.salt; key = sound.bounded.key; lasts = sound.bounded.lasts; short = omega (arith, at.2); entries = subst (AreListed n p.sequence) (sym at.0) _ };
        stands = at;
      },
      ap (λ x. codes "#EXTM3U" ∷ codes "#EXT-X-VERSION:4" ∷ x ∷ []) (sym read.0),
    )

goes-targeted : (p q : Progress) (line : List ℕ) → IsSound p → IsAt Targeted p → step_at Targeted p line ≡ Some q → Goes (lines_at Targeted p) line q
unfolding head_lines
goes-targeted p q line sound at is =
    let next = λ (n : ℕ). record p { stage = Sequenced; sequence = n } in
    let told = map-some next (number_in sequence_line (2 ^ 33) line) q is in
    let n = told.0 in
    let read = numbered sequence_line (2 ^ 33) n line told.1 in
    subst (Goes (lines_at Targeted p) line) told.2 (
      record {
        bounded = record { name = sound.bounded.name; utf8 = sound.bounded.utf8; some_target = sound.bounded.some_target; target = sound.bounded.target; sequence = read.1; discontinuity_sequence = sound.bounded.discontinuity_sequence; event = λ is. absurd (false≢true (sym at.3 ∙ is)); salt = sound.bounded.salt; key = sound.bounded.key; lasts = sound.bounded.lasts; short = sound.bounded.short; entries = subst (AreListed p.target n) (sym at.0) _ };
        stands = at;
      },
      ap (λ x. codes "#EXTM3U" ∷ codes "#EXT-X-VERSION:4" ∷ target_line p.target ∷ x ∷ []) (sym read.0),
    )

goes-sequenced : (p q : Progress) (line : List ℕ) → IsSound p → IsAt Sequenced p → step_at Sequenced p line ≡ Some q → Goes (lines_at Sequenced p) line q
unfolding head_lines
goes-sequenced p q line sound at is =
    let next = λ (n : ℕ). record p { stage = Headed; discontinuity_sequence = n } in
    let told = map-some next (number_in discontinuity_sequence_line (2 ^ 33) line) q is in
    let n = told.0 in
    let read = numbered discontinuity_sequence_line (2 ^ 33) n line told.1 in
    subst (Goes (lines_at Sequenced p) line) told.2 (
      record {
        bounded = record { name = sound.bounded.name; utf8 = sound.bounded.utf8; some_target = sound.bounded.some_target; target = sound.bounded.target; sequence = sound.bounded.sequence; discontinuity_sequence = read.1; event = λ is. absurd (false≢true (sym at.3 ∙ is)); salt = sound.bounded.salt; key = sound.bounded.key; lasts = sound.bounded.lasts; short = sound.bounded.short; entries = sound.bounded.entries };
        stands = at;
      },
      ap (λ x. codes "#EXTM3U" ∷ codes "#EXT-X-VERSION:4" ∷ target_line p.target ∷ sequence_line p.sequence ∷ x ∷ []) (sym read.0),
    )

-- before the first entry no key was told
between-stands : (p : Progress) → p.entries ≡ [] → p.name ≡ None → last_key p.entries ≡ option_map (λ _. p.key) p.name
between-stands p none unnamed = ap last_key none ∙ sym (ap (option_map (λ _. p.key)) unnamed)

-- the line of a key
with-key-goes : (p : Progress) (name : List ℕ) (salt : Option (List ℕ)) (key : ℕ) (line : List ℕ) → IsBounded p → is_name name ≡ true → IsUtf8 name → IsSalt salt → key < 4096
    → (is_some salt ≡ true) ⊎ (last_key p.entries ≢ Some key) → next_number p < 2 ^ 33
    → entries_lines name salt None p.entries ≡ entries_lines (name_of p) p.salt None p.entries → line ≡ key_line_under name salt (next_number p) key
    → Goes (listed_lines p ++ discontinuity_lines p.discontinuity) line (with_key p name salt key)
with-key-goes p name salt key line bounded good utf8 sixteen small other left same is = (
  record { bounded = record { name = good; utf8 = utf8; some_target = bounded.some_target; target = bounded.target; sequence = bounded.sequence; discontinuity_sequence = bounded.discontinuity_sequence; event = bounded.event; salt = sixteen; key = small; lasts = bounded.lasts; short = bounded.short; entries = bounded.entries }; stands = (refl, other, left) },
  ap (λ x. ((front_of p ++ x) ++ discontinuity_lines p.discontinuity) ++ key_line_under name salt (next_number p) key ∷ []) same
      ∙ ap (λ x. (listed_lines p ++ discontinuity_lines p.discontinuity) ++ x ∷ []) (sym is),
)

keyed-goes-by : (o : Option (List ℕ)) (p q : Progress) (line : List ℕ) → p.name ≡ o → IsBounded p → last_key p.entries ≡ option_map (λ _. p.key) o → next_number p < 2 ^ 33
    → keyed_by o p (next_number p) line ≡ Some q → Goes (listed_lines p ++ discontinuity_lines p.discontinuity) line q
keyed-goes-by None p q line known bounded last left is =
    let n = next_number p in
    let of_name = then-some (keyed_first p n line) (name_in line) q is in
    let name = of_name.0 in
    let of_salt = then-some (λ salt. option_map (with_key p name salt) (key_in name salt n line)) (salt_in n line) q of_name.2 in
    let salt = of_salt.0 in
    let of_key = map-some (with_key p name salt) (key_in name salt n line) q of_salt.2 in
    let read = numbered (key_line_under name salt n) 4096 of_key.0 line of_key.1 in
    let good = named line name of_name.1 in
    subst (Goes (listed_lines p ++ discontinuity_lines p.discontinuity) line) of_key.2
    (with-key-goes p name salt of_key.0 line bounded good.0 good.1 (salt-sound n line salt of_salt.1) read.1 (inr (λ same. none-some of_key.0 (sym last ∙ same))) left
    (no-entries name (name_of p) salt p.salt p.entries (last_key-none p.entries last)) read.0)
keyed-goes-by (Some name) p q line known bounded last left is =
    let n = next_number p in
    let of_key = then-some (λ key. where_so (is_some p.salt || not (key == p.key)) (with_key p name p.salt key)) (key_in name p.salt n line) q is in
    let key = of_key.0 in
    let read = numbered (key_line_under name p.salt n) 4096 key line of_key.1 in
    let may = if-some (is_some p.salt || not (key == p.key)) (with_key p name p.salt key) q of_key.2 in
    let same : name_of p ≡ name = ap (λ x. unwrap_or x (codes "v")) known in
    let other : (is_some p.salt ≡ true) ⊎ (last_key p.entries ≢ Some key) = elim (one-of (is_some p.salt) (not (key == p.key)) may.0) [
      | inl salted ↦ inl salted
      | inr another ↦ inr (λ one. not-same key p.key another (same_Some key p.key (sym one ∙ last)))
    ] in
    subst (Goes (listed_lines p ++ discontinuity_lines p.discontinuity) line) may.1
    (with-key-goes p name p.salt key line bounded (ap is_name (sym same) ∙ bounded.name) (subst IsUtf8 same bounded.utf8) bounded.salt read.1
    other left (ap (λ x. entries_lines x p.salt None p.entries) (sym same)) read.0)

keyed-goes : (p q : Progress) (line : List ℕ) → IsBounded p → last_key p.entries ≡ option_map (λ _. p.key) p.name → next_number p < 2 ^ 33
    → keyed p line ≡ Some q → Goes (listed_lines p ++ discontinuity_lines p.discontinuity) line q
unfolding keyed
keyed-goes p q line bounded last left is =
    let told = then-some (λ n. keyed_by p.name p n line) (number_left p) q is in
    let may = if-some (nat_lt (next_number p) (2 ^ 33)) (next_number p) told.0 told.1 in
    keyed-goes-by p.name p q line refl bounded last left (ap (λ n. keyed_by p.name p n line) may.1 ∙ told.2)

-- the line of a duration
timed-goes : (p q : Progress) (line : List ℕ) (keys : List (List ℕ)) → IsBounded p → next_number p < 2 ^ 33
    → (is_some p.name ≡ true → keys_of p ≡ keys)
    → timed p line ≡ Some q → Goes (listed_lines p ++ discontinuity_lines p.discontinuity ++ keys) line q
unfolding timed
timed-goes p q line keys bounded left same is =
    let next = λ (micros : ℕ). record p { stage = Timed; micros = micros } in
    let named = if-then (is_some p.name) _ q is in
    let told = then-some (λ micros. where_so (is_duration p.target micros) (next micros)) (number_in duration_line (2 ^ 64) line) q named.1 in
    let micros = told.0 in
    let read = numbered duration_line (2 ^ 64) micros line told.1 in
    let may = if-some (is_duration p.target micros) (next micros) q told.2 in
    let good = both (nat_lt 0 micros) (nat_le ((micros + 500_000) / 1_000_000) p.target) may.0 in
    subst (Goes (listed_lines p ++ discontinuity_lines p.discontinuity ++ keys) line) may.1 (
      record {
        bounded = record { name = bounded.name; utf8 = bounded.utf8; some_target = bounded.some_target; target = bounded.target; sequence = bounded.sequence; discontinuity_sequence = bounded.discontinuity_sequence; event = bounded.event; salt = bounded.salt; key = bounded.key; lasts = ltb-true 0 micros good.0; short = leb-true ((micros + 500_000) / 1_000_000) p.target good.1; entries = bounded.entries };
        stands = (named.0, left);
      },
      ap (λ x. listed_lines p ++ discontinuity_lines p.discontinuity ++ x ++ duration_line micros ∷ []) (same named.0)
          ∙ ap (λ x. (listed_lines p ++ discontinuity_lines p.discontinuity ++ keys) ++ x ∷ []) (sym read.0),
    )

-- the key of the entry before stands, without a salt
same-key : (p : Progress) → p.salt ≡ None → last_key p.entries ≡ option_map (λ _. p.key) p.name → is_some p.name ≡ true → keys_of p ≡ []
unfolding entry_key_lines key_lines
same-key p plain last named =
    ap (λ x. entry_key_lines (name_of p) x (last_key p.entries) p.key (next_number p)) plain ∙ key-told (name_of p) p.key p.name (last_key p.entries) last named

keyed_or_timed-goes : (p q : Progress) (line : List ℕ) → IsBounded p → last_key p.entries ≡ option_map (λ _. p.key) p.name → next_number p < 2 ^ 33
    → keyed_or_timed p line ≡ Some q → Goes (listed_lines p ++ discontinuity_lines p.discontinuity) line q
keyed_or_timed-goes p q line bounded last left is = elim (or-some (keyed p line) (if is_some p.salt then None else timed p line) q is) [
  | inl by_key ↦ keyed-goes p q line bounded last left by_key
  | inr by_duration ↦
      let plain = if-else (is_some p.salt) (timed p line) q by_duration in
      subst (λ x. Goes x line q) (append-nil (listed_lines p ++ discontinuity_lines p.discontinuity))
      (timed-goes p q line [] bounded left (same-key p (no-value p.salt plain.0) last) plain.1)
]

goes-between : (p q : Progress) (line : List ℕ) → IsSound p → IsAt Between p → step_at Between p line ≡ Some q → Goes (lines_at Between p) line q
unfolding begun end_lines discontinuity_lines
goes-between p q line sound at is = elim (if-cases (bytes_eq line (codes "#EXT-X-ENDLIST")) _ _ q is) [
  | inl last ↦
      let may = if-some (nat_lt 0 (length p.entries)) (record p { stage = Ended }) q last.1 in
      let some = ltb-true 0 (length p.entries) may.0 in
      subst (Goes (listed_lines p) line) may.1 (
        record {
          bounded = sound.bounded;
          stands = (is_some-map (λ _. p.key) p.name ∙ ap is_some (sym at) ∙ last_key-some p.entries some, some);
        },
        ap (λ x. listed_lines p ++ x ∷ []) (sym ((bytes_eq-Decides line (codes "#EXT-X-ENDLIST")).0 last.0)),
      )
  | inr more ↦
      let told = then-some (λ n. entered p line) (number_left p) q more.1 in
      let left = ltb-true (next_number p) (2 ^ 33) (if-some (nat_lt (next_number p) (2 ^ 33)) (next_number p) told.0 told.1).0 in
      elim (if-cases (bytes_eq line (codes "#EXT-X-DISCONTINUITY")) _ _ q told.2) [
        | inl broken ↦
            subst (Goes (listed_lines p) line) (same_Some _ q broken.1) (
              record { bounded = sound.bounded; stands = (at, refl, left) },
              ap (λ x. listed_lines p ++ x ∷ []) (sym ((bytes_eq-Decides line (codes "#EXT-X-DISCONTINUITY")).0 broken.0)),
            )
        | inr next ↦
            subst (λ x. Goes x line q) (append-nil (listed_lines p))
            (keyed_or_timed-goes (record p { discontinuity = false }) q line (sound.bounded) at left next.1)
      ]
]

-- a line that comes next without that of the type
keyed-same : (o : Option (List ℕ)) (p : Progress) (n : ℕ) (line : List ℕ) → keyed_by o p n line ≡ keyed_by o (record p { stage = Between }) n line
keyed-same None p n line = refl
keyed-same (Some name) p n line = refl

keyed-behind-by : (o : Option ℕ) (p : Progress) (line : List ℕ)
    → option_and_then (λ n. keyed_by p.name p n line) o ≡ option_and_then (λ n. keyed_by p.name (record p { stage = Between }) n line) o
keyed-behind-by None p line = refl
keyed-behind-by (Some n) p line = keyed-same p.name p n line

keyed-behind : (p : Progress) (line : List ℕ) → keyed p line ≡ keyed (record p { stage = Between }) line
unfolding keyed
keyed-behind p line = keyed-behind-by (number_left p) p line

begun-behind : (p : Progress) (line : List ℕ) → begun p line ≡ begun (record p { stage = Between }) line
unfolding begun timed
begun-behind p line =
    let next = record p { discontinuity = false } in
    let broken = record p { stage = Broken; discontinuity = true } in
    ap (λ k. if bytes_eq line (codes "#EXT-X-ENDLIST")
    then where_so (nat_lt 0 (length p.entries)) (record p { stage = Ended })
    else option_and_then (λ n. if bytes_eq line (codes "#EXT-X-DISCONTINUITY") then Some broken else option_or k (if is_some p.salt then None else timed next line)) (number_left p))
    (keyed-behind next line)

-- the line of the type, or one without it
goes-headed : (p q : Progress) (line : List ℕ) → IsSound p → IsAt Headed p → step_at Headed p line ≡ Some q → Goes (lines_at Headed p) line q
unfolding headed type_lines entries_lines
goes-headed p q line sound at is = elim (if-cases (bytes_eq line (codes "#EXT-X-PLAYLIST-TYPE:EVENT")) _ _ q is) [
  | inl event ↦
      let next = record p { stage = Between; event = true } in
      let may = if-some (p.sequence == 0 && p.discontinuity_sequence == 0) next q event.1 in
      let zero = both (p.sequence == 0) (p.discontinuity_sequence == 0) may.0 in
      let lines = head_of p ++ codes "#EXT-X-PLAYLIST-TYPE:EVENT" ∷ [] in
      subst (Goes (head_of p) line) may.1 (
        record {
          bounded = record { name = sound.bounded.name; utf8 = sound.bounded.utf8; some_target = sound.bounded.some_target; target = sound.bounded.target; sequence = sound.bounded.sequence; discontinuity_sequence = sound.bounded.discontinuity_sequence; event = λ _. (eqb-true p.sequence 0 zero.0, eqb-true p.discontinuity_sequence 0 zero.1); salt = sound.bounded.salt; key = sound.bounded.key; lasts = sound.bounded.lasts; short = sound.bounded.short; entries = sound.bounded.entries };
          stands = between-stands p at.0 at.1;
        },
        ap (λ es. lines ++ entries_lines (name_of p) p.salt None es) at.0
            ∙ append-nil lines
            ∙ ap (λ x. head_of p ++ x ∷ []) (sym ((bytes_eq-Decides line (codes "#EXT-X-PLAYLIST-TYPE:EVENT")).0 event.0)),
      )
  | inr other ↦
      let plain = record p { stage = Between } in
      let stands = between-stands p at.0 at.1 in
      let same : listed_lines p ≡ head_of p
      = ap (λ b. (head_of p ++ type_lines b) ++ entries_lines (name_of p) p.salt None p.entries) at.3
      ∙ ap (λ es. (head_of p ++ []) ++ entries_lines (name_of p) p.salt None es) at.0
      ∙ append-nil (head_of p ++ []) ∙ append-nil (head_of p) in
      subst (λ x. Goes x line q) same (goes-between plain q line (record { bounded = sound.bounded; stands = stands }) stands (sym (begun-behind p line) ∙ other.1))
]

goes-broken : (p q : Progress) (line : List ℕ) → IsSound p → IsAt Broken p → step_at Broken p line ≡ Some q → Goes (lines_at Broken p) line q
goes-broken p q line sound at is =
    subst (λ b. Goes (listed_lines p ++ discontinuity_lines b) line q) at.1 (keyed_or_timed-goes p q line sound.bounded at.0 at.2 is)

goes-keyed : (p q : Progress) (line : List ℕ) → IsSound p → IsAt Keyed p → step_at Keyed p line ≡ Some q → Goes (lines_at Keyed p) line q
goes-keyed p q line sound at is =
    timed-goes p q line (key_line_under (name_of p) p.salt (next_number p) p.key ∷ []) sound.bounded at.2
    (λ _. key-listed (name_of p) p.salt (last_key p.entries) p.key (next_number p) at.1) is

goes-timed-by : (o : Option (List ℕ)) (p q : Progress) (line : List ℕ) → p.name ≡ o → IsBounded p → next_number p < 2 ^ 33
    → option_and_then (λ name. expect line (segment_uri name (next_number p)) (with_entry p (next_number p))) o ≡ Some q → Goes (lines_at Timed p) line q
unfolding entry_lines
goes-timed-by None p q line known bounded left is = absurd (none-some q is)
goes-timed-by (Some name) p q line known bounded left is =
    let n = next_number p in
    let told = expected line (segment_uri name n) (with_entry p n) q is in
    let same : name_of p ≡ name = ap (λ x. unwrap_or x (codes "v")) known in
    let keys = keys_of p in
    let disc = discontinuity_lines p.discontinuity in
    subst (Goes (lines_at Timed p) line) told.1 (
      record {
        bounded = record { name = bounded.name; utf8 = bounded.utf8; some_target = bounded.some_target; target = bounded.target; sequence = bounded.sequence; discontinuity_sequence = bounded.discontinuity_sequence; event = bounded.event; salt = bounded.salt; key = bounded.key; lasts = bounded.lasts; short = bounded.short; entries = AreListed-more p.target p.sequence p.entries (entry_of p n) bounded.entries (record { number = refl; below = left; key = bounded.key; lasts = bounded.lasts; short = bounded.short }) };
        stands = key_behind-more None p.entries (entry_of p n) ∙ sym (ap (option_map (λ _. p.key)) known);
      },
      ap (λ x. front_of p ++ x) (entries_lines-more (name_of p) p.salt None p.entries (entry_of p n))
          ∙ sym (append_assoc (front_of p) (entries_lines (name_of p) p.salt None p.entries) (entry_lines (name_of p) p.salt (last_key p.entries) (entry_of p n)))
          ∙ five (listed_lines p) disc keys (duration_line p.micros) (segment_uri (name_of p) n)
          ∙ ap (λ x. (listed_lines p ++ disc ++ keys ++ duration_line p.micros ∷ []) ++ x ∷ []) (ap (λ x. segment_uri x n) same ∙ sym told.0),
    )

goes-timed : (p q : Progress) (line : List ℕ) → IsSound p → IsAt Timed p → step_at Timed p line ≡ Some q → Goes (lines_at Timed p) line q
unfolding listed
goes-timed p q line sound at is =
    let told = then-some (λ n. option_and_then (λ name. expect line (segment_uri name n) (with_entry p n)) p.name) (number_left p) q is in
    let may = if-some (nat_lt (next_number p) (2 ^ 33)) (next_number p) told.0 told.1 in
    goes-timed-by p.name p q line refl sound.bounded (ltb-true (next_number p) (2 ^ 33) may.0)
    (ap (λ n. option_and_then (λ name. expect line (segment_uri name n) (with_entry p n)) p.name) may.1 ∙ told.2)

goes : (stage : Stage) (p q : Progress) (line : List ℕ) → IsSound p → IsAt stage p → step_at stage p line ≡ Some q → Goes (lines_at stage p) line q
goes Fresh p q line sound at is = goes-fresh p q line sound at is
goes Tagged p q line sound at is = goes-tagged p q line sound at is
goes Versioned p q line sound at is = goes-versioned p q line sound at is
goes Targeted p q line sound at is = goes-targeted p q line sound at is
goes Sequenced p q line sound at is = goes-sequenced p q line sound at is
goes Headed p q line sound at is = goes-headed p q line sound at is
goes Between p q line sound at is = goes-between p q line sound at is
goes Broken p q line sound at is = goes-broken p q line sound at is
goes Keyed p q line sound at is = goes-keyed p q line sound at is
goes Timed p q line sound at is = goes-timed p q line sound at is
goes Ended p q line sound at is = absurd (none-some q is)

-- a line that is taken stands behind those before it
pub step-lines : (p q : Progress) (line : List ℕ) → IsSound p → step p line ≡ Some q → IsSound q × (lines_at q.stage q ≡ lines_at p.stage p ++ line ∷ [])
unfolding step
step-lines p q line sound is = goes p.stage p q line sound sound.stands is
