-- The lines of an entry are taken.
use Rattle.std.proofs.Common.{◌≡◌, ◌≢◌, ℕ, ◌+◌, ◌/◌, ◌<◌, ◌≤◌, ◌^◌, ◌==◌, ◌||◌, not, inl, inr, Bool, true, false, Option, Some, None, List, [], ◌∷◌, ◌++◌, get_or, refl, sym, ap, ◌∙◌, arith, append_assoc}
use Rattle.std.specs.Prelude.{codes, if◌then◌else◌, nat_lt, nat_le, is_some, option_map}
use Rattle.std.specs.Option.{option_and_then, option_or}
use Rattle.std.specs.Str.{IsUtf8, bytes_eq}
use Rattle.std.proofs.lemmas.Bool.{lt-ltb, le-leb, and_from}
use Rattle.std.proofs.lemmas.Bool.Decides.{eqb_tells}
use Rattle.std.proofs.lemmas.Option.{same_Some, none-some}
use Rattle.std.proofs.lemmas.Slice.Eq.{bytes_eq-Decides}
use Rattle.playlist_text.specs.Names.{is_name}
use Rattle.playlist_text.specs.Uris.{segment_uri}
use Rattle.playlist_text.specs.MediaLines.{Entry, discontinuity_lines, key_line, vector_key_line, key_lines, entry_key_lines, duration_line, entry_lines, key_line_under}
use Rattle.media_reading.specs.declared.reading.Stage.{Stage}
use Rattle.media_reading.specs.declared.reading.Stage.TheVariants.{Between, Broken, Timed}
use Rattle.media_reading.specs.MediaTexts.{IsListed, IsSalt}
use Rattle.media_reading.specs.State.{Progress, next_number, number_left, expect, where_so, is_duration, name_in, salt_in, key_in, with_key, keyed_first, keyed_by, keyed, timed, keyed_or_timed, with_entry, listed, entered, begun, step, steps}
use Rattle.media_reading.proofs.Found.{found-none, not-true}
use Rattle.media_reading.proofs.Stepping.{not-eq, key-listed}
use Rattle.media_reading.proofs.OneNumber.{number-found, name-found, key-apart, duration-apart}
use Rattle.media_reading.proofs.Salts.{salt-found}

-- lines that differ at a place
differ : (a b : List ℕ) (k : ℕ) → get_or a k 0 ≢ get_or b k 0 → bytes_eq a b ≡ false
differ a b k other = not-true (bytes_eq a b) (λ same. other (ap (λ l. get_or l k 0) ((bytes_eq-Decides a b).0 same)))

-- what a test decides
if-false : {A : Type 0} (b : Bool) (x y : A) → b ≡ false → (if b then x else y) ≡ y
if-false b x y test = ap (λ t. if t then x else y) test

pub if-true : {A : Type 0} (b : Bool) (x y : A) → b ≡ true → (if b then x else y) ≡ x
if-true b x y test = ap (λ t. if t then x else y) test

or-left : {A : Type 0} (a b : Option A) (x : A) → a ≡ Some x → option_or a b ≡ Some x
or-left a b x is = ap (λ o. option_or o b) is

or-right : {A : Type 0} (a b : Option A) → a ≡ None → option_or a b ≡ b
or-right a b is = ap (λ o. option_or o b) is

-- a line that is taken, with others behind it
pub steps-line : (p q : Progress) (line : List ℕ) (lines : List (List ℕ)) → step p line ≡ Some q → steps p (line ∷ lines) ≡ steps q lines
unfolding steps
steps-line p q line lines taken = ap (λ o. option_and_then (λ r. steps r lines) o) taken

pub expect-same : (line : List ℕ) (next : Progress) → expect line line next ≡ Some next
expect-same line next = if-true (bytes_eq line line) (Some next) None ((bytes_eq-Decides line line).1 refl)

-- a number that is left
pub left-is : (p : Progress) (n : ℕ) → n ≡ next_number p → n < 2 ^ 33 → number_left p ≡ Some n
left-is p n same below =
    if-true (nat_lt (next_number p) (2 ^ 33)) (Some (next_number p)) None (lt-ltb (next_number p) (2 ^ 33) (omega (arith, same, below))) ∙ ap Some (sym same)

-- what stands before an entry: no key yet, or this name and salt with this key
abbrev pub IsBehind : Progress → List ℕ → Option (List ℕ) → Option ℕ → Type 0
IsBehind p name salt None = p.name ≡ None
IsBehind p name salt (Some key) = (p.name ≡ Some name) × (key ≡ p.key) × (p.salt ≡ salt)

-- a name, in two senses
abbrev pub IsGood : List ℕ → Type 0
IsGood name = (is_name name ≡ true) × IsUtf8 name

-- the line of a key, before an entry with a number
keyed-is : (p : Progress) (name : List ℕ) (n : ℕ) (line : List ℕ) (q : Progress) → number_left p ≡ Some n → keyed_by p.name p n line ≡ Some q → keyed p line ≡ Some q
unfolding keyed
keyed-is p name n line q left is = ap (λ o. option_and_then (λ m. keyed_by p.name p m line) o) left ∙ is

-- the first one
pub keyed-told : (p : Progress) (name : List ℕ) (salt : Option (List ℕ)) (n key : ℕ) (line : List ℕ) → number_left p ≡ Some n → p.name ≡ None
    → name_in line ≡ Some name → salt_in n line ≡ Some salt → key_in name salt n line ≡ Some key → keyed p line ≡ Some (with_key p name salt key)
keyed-told p name salt n key line left none named salted found =
    keyed-is p name n line (with_key p name salt key) left (
    ap (λ o. keyed_by o p n line) none
    ∙ ap (λ o. option_and_then (keyed_first p n line) o) named
    ∙ ap (λ o. option_and_then (λ s. option_map (with_key p name s) (key_in name s n line)) o) salted
    ∙ ap (option_map (with_key p name salt)) found
    )

keyed-once : (p : Progress) (name : List ℕ) (salt : Option (List ℕ)) (n key : ℕ) → IsGood name → IsSalt salt → n < 2 ^ 33 → key < 4096 → p.name ≡ None → number_left p ≡ Some n
    → keyed p (key_line_under name salt n key) ≡ Some (with_key p name salt key)
keyed-once p name salt n key good sixteen few small none left =
    keyed-told p name salt n key (key_line_under name salt n key) left none (name-found name salt n key good.0 good.1) (salt-found name salt n key sixteen (omega (arith, few)))
    (number-found (key_line_under name salt n) 4096 key (key-apart name salt n) small)

keyed-again : (p : Progress) (name : List ℕ) (salt : Option (List ℕ)) (n key : ℕ) → key < 4096 → p.name ≡ Some name → p.salt ≡ salt → number_left p ≡ Some n
    → (is_some salt || not (key == p.key)) ≡ true → keyed p (key_line_under name salt n key) ≡ Some (with_key p name salt key)
keyed-again p name salt n key small known same left other =
    let line = key_line_under name salt n key in
    let by = λ (s : Option (List ℕ)). option_and_then (λ k. where_so (is_some s || not (k == p.key)) (with_key p name s k)) (key_in name s n line) in
    keyed-is p name n line (with_key p name salt key) left (
    ap (λ o. keyed_by o p n line) known
    ∙ ap by same
    ∙ ap (λ o. option_and_then (λ k. where_so (is_some salt || not (k == p.key)) (with_key p name salt k)) o) (number-found (key_line_under name salt n) 4096 key (key-apart name salt n) small)
    ∙ if-true (is_some salt || not (key == p.key)) (Some (with_key p name salt key)) None other
    )

-- the line of a duration is none of a key
no-key : (p : Progress) (name : List ℕ) (n micros : ℕ) → p.name ≡ Some name → p.salt ≡ None → number_left p ≡ Some n → keyed p (duration_line micros) ≡ None
unfolding keyed duration_line key_line
no-key p name n micros known plain left =
    let line = duration_line micros in
    let by = λ (s : Option (List ℕ)). option_and_then (λ k. where_so (is_some s || not (k == p.key)) (with_key p name s k)) (key_in name s n line) in
    ap (λ o. option_and_then (λ m. keyed_by p.name p m line) o) left
    ∙ ap (λ o. keyed_by o p n line) known
    ∙ ap by plain
    ∙ ap (λ o. option_and_then (λ k. where_so (not (k == p.key)) (with_key p name None k)) o)
    (found-none (λ k. bytes_eq line (key_line name k)) 4096
    (λ k small same. absurd (omega (arith, ap (λ l. get_or l 4 0) ((bytes_eq-Decides line (key_line name k)).0 same)))))

timed-is : (p : Progress) (micros : ℕ) → is_some p.name ≡ true → p.target ≤ 3600 → 0 < micros → (micros + 500_000) / 1_000_000 ≤ p.target
    → timed p (duration_line micros) ≡ Some (record p { stage = Timed; micros = micros })
unfolding timed
timed-is p micros named few lasts short =
    let next = λ (m : ℕ). record p { stage = Timed; micros = m } in
    if-true (is_some p.name) _ None named
    ∙ ap (λ o. option_and_then (λ m. where_so (is_duration p.target m) (next m)) o) (number-found duration_line (2 ^ 64) micros duration-apart (omega (arith, few, short)))
    ∙ if-true (is_duration p.target micros) (Some (next micros)) None
    (and_from (nat_lt 0 micros) (nat_le ((micros + 500_000) / 1_000_000) p.target) (lt-ltb 0 micros lasts) (le-leb ((micros + 500_000) / 1_000_000) p.target short))

-- the line of a segment
listed-is : (p : Progress) (name : List ℕ) (n : ℕ) → p.name ≡ Some name → number_left p ≡ Some n → listed p (segment_uri name n) ≡ Some (with_entry p n)
unfolding listed
listed-is p name n known left =
    let line = segment_uri name n in
    ap (λ o. option_and_then (λ m. option_and_then (λ x. expect line (segment_uri x m) (with_entry p m)) p.name) o) left
    ∙ ap (λ o. option_and_then (λ x. expect line (segment_uri x n) (with_entry p n)) o) known
    ∙ expect-same line (with_entry p n)

-- the stage behind the line before a discontinuity, or without one
abbrev begun_at : Bool → Stage
begun_at true = Broken
begun_at false = Between

abbrev behind_first : Progress → Bool → Progress
behind_first p b = record p { stage = begun_at b; discontinuity = b }

-- the first line of an entry that tells something
first-line : (p : Progress) (b : Bool) (n : ℕ) (line : List ℕ) (lines : List (List ℕ)) (q : Progress) → number_left p ≡ Some n
    → bytes_eq line (codes "#EXT-X-ENDLIST") ≡ false → bytes_eq line (codes "#EXT-X-DISCONTINUITY") ≡ false
    → keyed_or_timed (behind_first p b) line ≡ Some q → steps (record p { stage = Between }) (discontinuity_lines b ++ line ∷ lines) ≡ steps q lines
unfolding discontinuity_lines step begun
first-line p true n line lines q left not_end not_broken taken =
    steps-line (record p { stage = Between }) (behind_first p true) (codes "#EXT-X-DISCONTINUITY") (line ∷ lines)
    (ap (λ o. option_and_then (λ m. entered (record p { stage = Between }) (codes "#EXT-X-DISCONTINUITY")) o) left)
    ∙ steps-line (behind_first p true) q line lines taken
first-line p false n line lines q left not_end not_broken taken =
    steps-line (record p { stage = Between }) q line lines (
    if-false (bytes_eq line (codes "#EXT-X-ENDLIST")) _ _ not_end
    ∙ ap (λ o. option_and_then (λ m. entered (record p { stage = Between }) line) o) left
    ∙ if-false (bytes_eq line (codes "#EXT-X-DISCONTINUITY")) _ _ not_broken
    ∙ taken
    )

-- the lines of a key and of a duration are neither of those two
not-end : (name : List ℕ) (salt : Option (List ℕ)) (n key : ℕ) → bytes_eq (key_line_under name salt n key) (codes "#EXT-X-ENDLIST") ≡ false
unfolding key_line vector_key_line
not-end name None n key = differ (key_line name key) (codes "#EXT-X-ENDLIST") 7 (λ same. omega (arith, same))
not-end name (Some salt) n key = differ (vector_key_line name (Some salt) key n) (codes "#EXT-X-ENDLIST") 7 (λ same. omega (arith, same))

not-broken : (name : List ℕ) (salt : Option (List ℕ)) (n key : ℕ) → bytes_eq (key_line_under name salt n key) (codes "#EXT-X-DISCONTINUITY") ≡ false
unfolding key_line vector_key_line
not-broken name None n key = differ (key_line name key) (codes "#EXT-X-DISCONTINUITY") 7 (λ same. omega (arith, same))
not-broken name (Some salt) n key = differ (vector_key_line name (Some salt) key n) (codes "#EXT-X-DISCONTINUITY") 7 (λ same. omega (arith, same))

not-end-timed : (micros : ℕ) → bytes_eq (duration_line micros) (codes "#EXT-X-ENDLIST") ≡ false
unfolding duration_line
not-end-timed micros = differ (duration_line micros) (codes "#EXT-X-ENDLIST") 4 (λ same. omega (arith, same))

not-broken-timed : (micros : ℕ) → bytes_eq (duration_line micros) (codes "#EXT-X-DISCONTINUITY") ≡ false
unfolding duration_line
not-broken-timed micros = differ (duration_line micros) (codes "#EXT-X-DISCONTINUITY") 4 (λ same. omega (arith, same))

-- what comes behind an entry
four : (a b : List (List ℕ)) (x y : List ℕ) (lines : List (List ℕ)) → (a ++ b ++ x ∷ y ∷ []) ++ lines ≡ a ++ (b ++ x ∷ y ∷ lines)
four a b x y lines = append_assoc (a ++ b) (x ∷ y ∷ []) lines ∙ append_assoc a b (x ∷ y ∷ lines)

-- behind an entry
abbrev pub after : Progress → List ℕ → Option (List ℕ) → Entry → Progress
after p name salt entry = record p {
  stage = Between;
  name = Some name;
  salt = salt;
  key = entry.key;
  discontinuity = entry.discontinuity;
  micros = entry.micros;
  entries = p.entries ++ entry ∷ [];
}

-- its lines, where it has that of a key
keyed-entry : (p : Progress) (name : List ℕ) (salt : Option (List ℕ)) (entry : Entry) (lines : List (List ℕ)) → p.target ≤ 3600 → IsListed p.target (next_number p) entry
    → keyed (behind_first p entry.discontinuity) (key_line_under name salt entry.number entry.key) ≡ Some (with_key (behind_first p entry.discontinuity) name salt entry.key)
    → steps (record p { stage = Between })
    (discontinuity_lines entry.discontinuity ++ key_line_under name salt entry.number entry.key ∷ duration_line entry.micros ∷ segment_uri name entry.number ∷ lines)
    ≡ steps (after p name salt entry) lines
unfolding step
keyed-entry p name salt entry lines few is by_key =
    let line = key_line_under name salt entry.number entry.key in
    let one = behind_first p entry.discontinuity in
    let two = with_key one name salt entry.key in
    let three = record two { stage = Timed; micros = entry.micros } in
    let left = left-is p entry.number is.number (omega (arith, is.number, is.below)) in
    first-line p entry.discontinuity entry.number line (duration_line entry.micros ∷ segment_uri name entry.number ∷ lines) two left
    (not-end name salt entry.number entry.key) (not-broken name salt entry.number entry.key)
    (or-left (keyed one line) (if is_some one.salt then None else timed one line) two by_key)
    ∙ steps-line two three (duration_line entry.micros) (segment_uri name entry.number ∷ lines) (timed-is two entry.micros refl few is.lasts is.short)
    ∙ steps-line three (after p name salt entry) (segment_uri name entry.number) lines (listed-is three name entry.number refl left)

-- and where it has the key of the one before, without a salt
unkeyed-entry : (p : Progress) (name : List ℕ) (entry : Entry) (lines : List (List ℕ)) → p.target ≤ 3600 → IsListed p.target (next_number p) entry
    → p.name ≡ Some name → p.salt ≡ None → p.key ≡ entry.key
    → steps (record p { stage = Between }) (discontinuity_lines entry.discontinuity ++ duration_line entry.micros ∷ segment_uri name entry.number ∷ lines)
    ≡ steps (after p name None entry) lines
unfolding step
unkeyed-entry p name entry lines few is known plain same =
    let one = behind_first p entry.discontinuity in
    let two = record one { stage = Timed; micros = entry.micros } in
    let left = left-is p entry.number is.number (omega (arith, is.number, is.below)) in
    let line = duration_line entry.micros in
    first-line p entry.discontinuity entry.number line (segment_uri name entry.number ∷ lines) two left
    (not-end-timed entry.micros) (not-broken-timed entry.micros)
    (or-right (keyed one line) (if is_some one.salt then None else timed one line) (no-key one name entry.number entry.micros known plain left)
    ∙ ap (λ s. if is_some s then None else timed one line) plain
    ∙ timed-is one entry.micros (ap is_some known) few is.lasts is.short)
    ∙ steps-line two (with_entry two entry.number) (segment_uri name entry.number) lines (listed-is two name entry.number known left)
    ∙ ap (λ o. steps (record (with_entry two entry.number) { name = o }) lines) known
    ∙ ap (λ s. steps (record (with_entry two entry.number) { name = Some name; salt = s }) lines) plain
    ∙ ap (λ k. steps (record (after p name None entry) { key = k; entries = p.entries ++ record entry { key = k } ∷ [] }) lines) same

-- the lines of an entry with a line of a key
with-key-line : (p : Progress) (name : List ℕ) (salt : Option (List ℕ)) (before : Option ℕ) (entry : Entry) (lines : List (List ℕ)) → p.target ≤ 3600
    → IsListed p.target (next_number p) entry → entry_key_lines name salt before entry.key entry.number ≡ key_line_under name salt entry.number entry.key ∷ []
    → keyed (behind_first p entry.discontinuity) (key_line_under name salt entry.number entry.key) ≡ Some (with_key (behind_first p entry.discontinuity) name salt entry.key)
    → steps (record p { stage = Between }) (entry_lines name salt before entry ++ lines) ≡ steps (after p name salt entry) lines
unfolding entry_lines
with-key-line p name salt before entry lines few is keys by_key =
    ap (steps (record p { stage = Between })) (
    four (discontinuity_lines entry.discontinuity) (entry_key_lines name salt before entry.key entry.number) (duration_line entry.micros) (segment_uri name entry.number) lines
    ∙ ap (λ x. discontinuity_lines entry.discontinuity ++ (x ++ duration_line entry.micros ∷ segment_uri name entry.number ∷ lines)) keys
    )
    ∙ keyed-entry p name salt entry lines few is by_key

-- and those of one with the key of the entry before
without-key-line : (p : Progress) (name : List ℕ) (before : ℕ) (entry : Entry) (lines : List (List ℕ)) → p.target ≤ 3600
    → IsListed p.target (next_number p) entry → p.name ≡ Some name → p.salt ≡ None → p.key ≡ entry.key → (before == entry.key) ≡ true
    → steps (record p { stage = Between }) (entry_lines name None (Some before) entry ++ lines) ≡ steps (after p name None entry) lines
unfolding entry_lines entry_key_lines key_lines
without-key-line p name before entry lines few is known plain same told =
    ap (steps (record p { stage = Between })) (
    four (discontinuity_lines entry.discontinuity) (key_lines name (Some before) entry.key) (duration_line entry.micros) (segment_uri name entry.number) lines
    ∙ ap (λ x. discontinuity_lines entry.discontinuity ++ (x ++ duration_line entry.micros ∷ segment_uri name entry.number ∷ lines))
    (if-true (before == entry.key) [] (key_line name entry.key ∷ []) told)
    )
    ∙ unkeyed-entry p name entry lines few is known plain same

-- the lines of an entry behind others
entry-again : (p : Progress) (name : List ℕ) (salt : Option (List ℕ)) (before : ℕ) (entry : Entry) (lines : List (List ℕ)) → p.target ≤ 3600
    → IsListed p.target (next_number p) entry → p.name ≡ Some name → before ≡ p.key → p.salt ≡ salt
    → steps (record p { stage = Between }) (entry_lines name salt (Some before) entry ++ lines) ≡ steps (after p name salt entry) lines
entry-again p name (Some salt) before entry lines few is known at salted =
    let one = behind_first p entry.discontinuity in
    let left = left-is p entry.number is.number (omega (arith, is.number, is.below)) in
    with-key-line p name (Some salt) (Some before) entry lines few is (key-listed name (Some salt) (Some before) entry.key entry.number (inl refl))
    (keyed-again one name (Some salt) entry.number entry.key is.key known salted left refl)
entry-again p name None before entry lines few is known at plain = elim (eqb_tells before entry.key) [
  | inl same ↦ without-key-line p name before entry lines few is known plain (sym at ∙ same.1) same.0
  | inr other ↦
      let one = behind_first p entry.discontinuity in
      let left = left-is p entry.number is.number (omega (arith, is.number, is.below)) in
      with-key-line p name None (Some before) entry lines few is
      (key-listed name None (Some before) entry.key entry.number (inr (λ same. other.1 (same_Some before entry.key same))))
      (keyed-again one name None entry.number entry.key is.key known plain left (ap not (not-eq entry.key p.key (λ same. other.1 (at ∙ sym same)))))
]

-- the lines of an entry are taken
pub entry-steps : (p : Progress) (name : List ℕ) (salt : Option (List ℕ)) (before : Option ℕ) (entry : Entry) (lines : List (List ℕ)) → IsGood name → IsSalt salt → p.target ≤ 3600
    → IsListed p.target (next_number p) entry → IsBehind p name salt before
    → steps (record p { stage = Between }) (entry_lines name salt before entry ++ lines) ≡ steps (after p name salt entry) lines
entry-steps p name salt None entry lines good sixteen few is none =
    let one = behind_first p entry.discontinuity in
    let left = left-is p entry.number is.number (omega (arith, is.number, is.below)) in
    with-key-line p name salt None entry lines few is (key-listed name salt None entry.key entry.number (inr (λ same. none-some entry.key same)))
    (keyed-once one name salt entry.number entry.key good sixteen (omega (arith, is.number, is.below)) is.key none left)
entry-steps p name salt (Some before) entry lines good sixteen few is behind = entry-again p name salt before entry lines few is behind.0 behind.1 behind.2
