-- The lines of a playlist run through.
use Rattle.std.proofs.Common.{◌≡◌, ℕ, ◌+◌, ◌<◌, ◌≤◌, ◌^◌, ◌==◌, ◌&&◌, inr, Bool, true, false, Option, Some, None, List, [], ◌∷◌, ◌++◌, length, get_or, refl, sym, ap, ◌∙◌, subst, arith, append_assoc, append-nil}
use Rattle.std.specs.Prelude.{codes, nat_lt, option_map, if◌then◌else◌}
use Rattle.std.specs.Option.{option_and_then}
use Rattle.std.specs.Str.{bytes_eq}
use Rattle.std.proofs.lemmas.Bool.{lt-ltb, eq-eqb, and_from}
use Rattle.std.proofs.lemmas.Option.{none-some}
use Rattle.std.proofs.lemmas.Slice.Eq.{bytes_eq-Decides}
use Rattle.std.proofs.lemmas.List.{length-append}
use Rattle.playlist_text.specs.MediaLines.{Entry, Listing, head_lines, type_lines, discontinuity_lines, key_line, vector_key_line, entry_key_lines, duration_line, entry_lines, entries_lines, end_lines, listing_lines, key_line_under}
use Rattle.playlist_text.specs.Uris.{segment_uri}
use Rattle.media_reading.specs.declared.reading.Stage.TheVariants.{Tagged, Versioned, Targeted, Sequenced, Headed, Between, Ended}
use Rattle.media_reading.specs.MediaTexts.{AreListed, IsListing, IsSalt}
use Rattle.media_reading.specs.State.{Progress, fresh, next_number, where_so, target_line, sequence_line, discontinuity_sequence_line, step_at, begun, headed, keyed, timed, step, steps, listing_of, ended_by, listing_at}
use Rattle.media_reading.proofs.Found.{not-true}
use Rattle.media_reading.proofs.Stepping.{key-listed}
use Rattle.media_reading.proofs.OneNumber.{number-found, tagged-apart}
use Rattle.media_reading.proofs.LineEnds.{sequence-small}
use Rattle.media_reading.proofs.EntrySteps.{if-true, steps-line, expect-same, IsBehind, IsGood, after, entry-steps}

-- behind the head
abbrev headed_with : ℕ → ℕ → ℕ → Progress
headed_with t s d = record fresh { stage = Headed; target = t; sequence = s; discontinuity_sequence = d }

-- and behind the type
abbrev begun_with : ℕ → ℕ → ℕ → Bool → Progress
begun_with t s d event = record fresh { stage = Between; target = t; sequence = s; discontinuity_sequence = d; event = event }

head-steps : (t s d : ℕ) (lines : List (List ℕ)) → 0 < t → t ≤ 3600 → s < 2 ^ 33 → d < 2 ^ 33 → steps fresh (head_lines t s d ++ lines) ≡ steps (headed_with t s d) lines
unfolding head_lines step
head-steps t s d lines some few first small =
    let one = record fresh { stage = Tagged } in
    let two = record fresh { stage = Versioned } in
    let three = record fresh { stage = Targeted; target = t } in
    let four = record fresh { stage = Sequenced; target = t; sequence = s } in
    let last = discontinuity_sequence_line d ∷ lines in
    steps-line fresh one (codes "#EXTM3U") (codes "#EXT-X-VERSION:4" ∷ target_line t ∷ sequence_line s ∷ last) (expect-same (codes "#EXTM3U") one)
    ∙ steps-line one two (codes "#EXT-X-VERSION:4") (target_line t ∷ sequence_line s ∷ last) (expect-same (codes "#EXT-X-VERSION:4") two)
    ∙ steps-line two three (target_line t) (sequence_line s ∷ last) (
    ap (λ o. option_and_then (λ n. where_so (nat_lt 0 n) (record two { stage = Targeted; target = n })) o)
    (number-found target_line 3601 t (tagged-apart (codes "#EXT-X-TARGETDURATION:") 3601 (omega arith)) (omega (arith, few)))
    ∙ if-true (nat_lt 0 t) (Some three) None (lt-ltb 0 t some)
    )
    ∙ steps-line three four (sequence_line s) last (
    ap (option_map (λ n. record three { stage = Sequenced; sequence = n }))
    (number-found sequence_line (2 ^ 33) s (tagged-apart (codes "#EXT-X-MEDIA-SEQUENCE:") (2 ^ 33) (omega arith)) first)
    )
    ∙ steps-line four (headed_with t s d) (discontinuity_sequence_line d) lines (
    ap (option_map (λ n. record four { stage = Headed; discontinuity_sequence = n }))
    (number-found discontinuity_sequence_line (2 ^ 33) d (tagged-apart (codes "#EXT-X-DISCONTINUITY-SEQUENCE:") (2 ^ 33) (omega arith)) small)
    )

-- the line of the type is taken
type-steps : (t s d : ℕ) (lines : List (List ℕ)) → s ≡ 0 → d ≡ 0 → steps (headed_with t s d) (codes "#EXT-X-PLAYLIST-TYPE:EVENT" ∷ lines) ≡ steps (begun_with t s d true) lines
unfolding step headed
type-steps t s d lines first none =
    steps-line (headed_with t s d) (begun_with t s d true) (codes "#EXT-X-PLAYLIST-TYPE:EVENT") lines
    (if-true (s == 0 && d == 0) (Some (begun_with t s d true)) None (and_from (s == 0) (d == 0) (eq-eqb s 0 first) (eq-eqb d 0 none)))

-- a line that is none of a type comes next without it
untyped-line : (t s d : ℕ) (line : List ℕ) (lines : List (List ℕ)) → bytes_eq line (codes "#EXT-X-PLAYLIST-TYPE:EVENT") ≡ false
    → steps (headed_with t s d) (line ∷ lines) ≡ steps (begun_with t s d false) (line ∷ lines)
unfolding steps step headed begun keyed timed
untyped-line t s d line lines other =
    ap (λ o. option_and_then (λ r. steps r lines) o)
    (ap (λ b. if b then where_so (s == 0 && d == 0) (begun_with t s d true) else begun (begun_with t s d false) line) other)

-- behind some entries
abbrev after_all : Progress → List ℕ → Option (List ℕ) → List Entry → Progress
after_all p name salt [] = record p { stage = Between }
after_all p name salt (entry ∷ entries) = after_all (after p name salt entry) name salt entries

entries-steps : (p : Progress) (name : List ℕ) (salt : Option (List ℕ)) (before : Option ℕ) (entries : List Entry) (lines : List (List ℕ)) → IsGood name → IsSalt salt → p.target ≤ 3600
    → AreListed p.target (next_number p) entries → IsBehind p name salt before
    → steps (record p { stage = Between }) (entries_lines name salt before entries ++ lines) ≡ steps (after_all p name salt entries) lines
unfolding entries_lines
entries-steps p name salt before [] lines good sixteen few are is = refl
entries-steps p name salt before (entry ∷ entries) lines good sixteen few are is =
    let next : next_number p + 1 ≡ next_number (after p name salt entry) = omega (arith, length-append p.entries (entry ∷ [])) in
    ap (steps (record p { stage = Between })) (append_assoc (entry_lines name salt before entry) (entries_lines name salt (Some entry.key) entries) lines)
    ∙ entry-steps p name salt before entry (entries_lines name salt (Some entry.key) entries ++ lines) good sixteen few are.0 is
    ∙ entries-steps (after p name salt entry) name salt (Some entry.key) entries lines good sixteen few (subst (λ n. AreListed p.target n entries) next are.1) (refl, refl, refl)

-- what they tell
after_all-told : (p : Progress) (name : List ℕ) (salt : Option (List ℕ)) (entries : List Entry) (ended : Bool) → p.salt ≡ salt
    → listing_of (after_all p name salt entries) ended name ≡ record (listing_of p ended name) { salt = salt; entries = p.entries ++ entries }
after_all-told p name salt [] ended same =
    ap (λ x. record (listing_of p ended name) { salt = x }) same
    ∙ ap (λ es. record (listing_of p ended name) { salt = salt; entries = es }) (sym (append-nil p.entries))
after_all-told p name salt (entry ∷ entries) ended same =
    after_all-told (after p name salt entry) name salt entries ended refl
    ∙ ap (λ es. record (listing_of p ended name) { salt = salt; entries = es }) (append_assoc p.entries (entry ∷ []) entries)

after_all-listing : (p : Progress) (name : List ℕ) (salt : Option (List ℕ)) (entries : List Entry) (ended : Bool) → 0 < length entries
    → listing_of (after_all p name salt entries) ended name ≡ record (listing_of p ended name) { salt = salt; entries = p.entries ++ entries }
after_all-listing p name salt [] ended some = absurd (omega (arith, some))
after_all-listing p name salt (entry ∷ entries) ended some =
    after_all-told (after p name salt entry) name salt entries ended refl
    ∙ ap (λ es. record (listing_of p ended name) { salt = salt; entries = es }) (append_assoc p.entries (entry ∷ []) entries)

after_all-stage : (p : Progress) (name : List ℕ) (salt : Option (List ℕ)) (entries : List Entry) → (after_all p name salt entries).stage ≡ Between
after_all-stage p name salt [] = refl
after_all-stage p name salt (entry ∷ entries) = after_all-stage (after p name salt entry) name salt entries

after_all-named : (p : Progress) (name : List ℕ) (salt : Option (List ℕ)) (entries : List Entry) → p.name ≡ Some name → (after_all p name salt entries).name ≡ Some name
after_all-named p name salt [] known = known
after_all-named p name salt (entry ∷ entries) known = after_all-named (after p name salt entry) name salt entries refl

after_all-name : (p : Progress) (name : List ℕ) (salt : Option (List ℕ)) (entries : List Entry) → 0 < length entries → (after_all p name salt entries).name ≡ Some name
after_all-name p name salt [] some = absurd (omega (arith, some))
after_all-name p name salt (entry ∷ entries) some = after_all-named (after p name salt entry) name salt entries refl

-- the end
ended-is : (p : Progress) (name : List ℕ) (ended : Bool) → p.name ≡ Some name → 0 < length p.entries → ended_by p ended ≡ Some (listing_of p ended name)
ended-is p name ended known some =
    if-true (nat_lt 0 (length p.entries)) (option_map (listing_of p ended) p.name) None (lt-ltb 0 (length p.entries) some) ∙ ap (option_map (listing_of p ended)) known

end-steps : (p : Progress) (name : List ℕ) (ended : Bool) → p.stage ≡ Between → p.name ≡ Some name → 0 < length p.entries
    → (q : Progress) × (steps p (end_lines ended) ≡ Some q) × (listing_at q.stage q ≡ Some (listing_of p ended name))
unfolding end_lines steps step begun
end-steps p name false at known some = (p, refl, ap (λ stage. listing_at stage p) at ∙ ended-is p name false known some)
end-steps p name true at known some =
    let q = record p { stage = Ended } in (
      q,
      ap (λ o. option_and_then (λ r. steps r []) o) (
          ap (λ stage. step_at stage p (codes "#EXT-X-ENDLIST")) at
          ∙ if-true (nat_lt 0 (length p.entries)) (Some q) None (lt-ltb 0 (length p.entries) some)
          ),
      ended-is q name true known some,
    )

-- the line of an entry is none of a type
not-type : (line : List ℕ) → (line ≡ codes "#EXT-X-PLAYLIST-TYPE:EVENT" → ⊥) → bytes_eq line (codes "#EXT-X-PLAYLIST-TYPE:EVENT") ≡ false
not-type line other = not-true (bytes_eq line (codes "#EXT-X-PLAYLIST-TYPE:EVENT")) (λ same. other ((bytes_eq-Decides line (codes "#EXT-X-PLAYLIST-TYPE:EVENT")).0 same))

-- without the line of a type
untyped-steps : (t s d : ℕ) (name : List ℕ) (salt : Option (List ℕ)) (discontinuity : Bool) (key number : ℕ) (lines : List (List ℕ))
    → steps (headed_with t s d) (discontinuity_lines discontinuity ++ key_line_under name salt number key ∷ lines)
    ≡ steps (begun_with t s d false) (discontinuity_lines discontinuity ++ key_line_under name salt number key ∷ lines)
unfolding discontinuity_lines key_line vector_key_line
untyped-steps t s d name salt true key number lines =
    untyped-line t s d (codes "#EXT-X-DISCONTINUITY") (key_line_under name salt number key ∷ lines) refl
untyped-steps t s d name None false key number lines =
    untyped-line t s d (key_line name key) lines (not-type (key_line name key) (λ same. omega (arith, ap (λ l. get_or l 7 0) same)))
untyped-steps t s d name (Some salt) false key number lines =
    untyped-line t s d (vector_key_line name (Some salt) key number) lines (not-type (vector_key_line name (Some salt) key number) (λ same. omega (arith, ap (λ l. get_or l 7 0) same)))

untyped-entries : (t s d : ℕ) (name : List ℕ) (salt : Option (List ℕ)) (entries : List Entry) (lines : List (List ℕ)) → 0 < length entries
    → steps (headed_with t s d) (entries_lines name salt None entries ++ lines) ≡ steps (begun_with t s d false) (entries_lines name salt None entries ++ lines)
unfolding entries_lines entry_lines
untyped-entries t s d name salt [] lines some = absurd (omega (arith, some))
untyped-entries t s d name salt (entry ∷ entries) lines some =
    let disc = discontinuity_lines entry.discontinuity in
    let key = key_line_under name salt entry.number entry.key in
    let rest = duration_line entry.micros ∷ segment_uri name entry.number ∷ [] in
    let others = entries_lines name salt (Some entry.key) entries in
    let keys = key-listed name salt None entry.key entry.number (inr (λ same. none-some entry.key same)) in
    let same : ((disc ++ entry_key_lines name salt None entry.key entry.number ++ rest) ++ others) ++ lines ≡ disc ++ key ∷ ((rest ++ others) ++ lines)
    = ap (λ x. ((disc ++ x ++ rest) ++ others) ++ lines) keys
    ∙ ap (λ x. (x ++ others) ++ lines) (append_assoc disc (key ∷ []) rest)
    ∙ ap (λ x. x ++ lines) (append_assoc disc (key ∷ rest) others)
    ∙ append_assoc disc ((key ∷ rest) ++ others) lines in
    ap (steps (headed_with t s d)) same
    ∙ untyped-steps t s d name salt entry.discontinuity entry.key entry.number ((rest ++ others) ++ lines)
    ∙ ap (steps (begun_with t s d false)) (sym same)

-- with it or without
typed-steps : (t s d : ℕ) (event : Bool) (name : List ℕ) (salt : Option (List ℕ)) (entries : List Entry) (lines : List (List ℕ)) → 0 < length entries
    → (event ≡ true → (s ≡ 0) × (d ≡ 0))
    → steps (headed_with t s d) (type_lines event ++ (entries_lines name salt None entries ++ lines)) ≡ steps (begun_with t s d event) (entries_lines name salt None entries ++ lines)
unfolding type_lines
typed-steps t s d true name salt entries lines some from =
    type-steps t s d (entries_lines name salt None entries ++ lines) (from refl).0 (from refl).1
typed-steps t s d false name salt entries lines some from = untyped-entries t s d name salt entries lines some

-- the lines of a playlist are taken, and tell it
pub listing-steps : (l : Listing) → IsListing l → (p : Progress) × (steps fresh (listing_lines l) ≡ Some p) × (listing_at p.stage p ≡ Some l)
unfolding listing_lines
listing-steps l sound =
    let start = begun_with l.target l.sequence l.discontinuity_sequence l.event in
    let first = sequence-small l.target l.sequence l.entries sound.some sound.entries in
    let none : l.sequence ≡ l.sequence + 0 = omega arith in
    let behind = after_all start l.name l.salt l.entries in
    let told : listing_of behind l.ended l.name ≡ l = after_all-listing start l.name l.salt l.entries l.ended sound.some in
    let some : 0 < length behind.entries = omega (arith, sound.some, ap (λ (m : Listing). length m.entries) told) in
    let end = end-steps behind l.name l.ended (after_all-stage start l.name l.salt l.entries) (after_all-name start l.name l.salt l.entries sound.some) some in
    let head = head_lines l.target l.sequence l.discontinuity_sequence in
    let entries = entries_lines l.name l.salt None l.entries in (
      end.0,
      ap (steps fresh) (append_assoc (head ++ type_lines l.event) entries (end_lines l.ended) ∙ append_assoc head (type_lines l.event) (entries ++ end_lines l.ended))
          ∙ head-steps l.target l.sequence l.discontinuity_sequence (type_lines l.event ++ (entries ++ end_lines l.ended)) sound.some_target sound.target first sound.discontinuity_sequence
          ∙ typed-steps l.target l.sequence l.discontinuity_sequence l.event l.name l.salt l.entries (end_lines l.ended) sound.some sound.event
          ∙ entries-steps start l.name l.salt None l.entries (end_lines l.ended) (sound.name, sound.utf8) sound.salt sound.target
          (subst (λ n. AreListed l.target n l.entries) none sound.entries) refl
          ∙ end.1,
      end.2 ∙ ap Some told,
    )
