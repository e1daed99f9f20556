-- What was told is the beginning of some playlist.
use Rattle.std.proofs.Common.{◌≡◌, ℕ, ◌<◌, ◌^◌, inl, inr, Bool, true, false, List, [], ◌∷◌, ◌++◌, length, take, drop, None, refl, sym, ap, ◌∙◌, subst, arith, append_assoc, append-nil}
use Rattle.std.proofs.lemmas.Bool.{cases_lt}
use Rattle.std.proofs.lemmas.List.{length-append, take-append-drop}
use Rattle.playlist_text.specs.MediaLines.{Listing, type_lines, discontinuity_lines, duration_line, entry_lines, entries_lines, end_lines, listing_lines}
use Rattle.playlist_text.specs.Uris.{segment_uri}
use Rattle.media_reading.specs.declared.reading.Stage.{Stage}
use Rattle.media_reading.specs.declared.reading.Stage.TheVariants.{Fresh, Tagged, Versioned, Targeted, Sequenced, Headed, Between, Broken, Keyed, Timed, Ended}
use Rattle.media_reading.specs.MediaTexts.{IsListing, AreFirst}
use Rattle.media_reading.specs.State.{Progress, next_number, entry_of, with_entry, listing_of}
use Rattle.media_reading.proofs.Going.{last_key, name_of, head_of, front_of, keys_of, listed_lines, lines_at, IsAt, IsBounded, IsSound}
use Rattle.media_reading.proofs.Stepping.{entries_lines-more, AreListed-more, key-listed}

-- lines that begin those of a playlist, and all before them
first-of : (a b : List (List ℕ)) → AreFirst (a ++ b) → AreFirst a
first-of a b first = record { listing = first.listing; sound = first.sound; more = b ++ first.more; begins = first.begins ∙ append_assoc a b first.more }

-- the playlist that has been told ends here
abbrev told : Progress → Bool → Listing
told p ended = listing_of p ended (name_of p)

told-sound : (p : Progress) (ended : Bool) → IsBounded p → 0 < length p.entries → IsListing (told p ended)
told-sound p ended bounded some = record {
  name = bounded.name;
  utf8 = bounded.utf8;
  some_target = bounded.some_target;
  target = bounded.target;
  discontinuity_sequence = bounded.discontinuity_sequence;
  event = bounded.event;
  salt = bounded.salt;
  some = some;
  entries = bounded.entries;
}

told-first : (p : Progress) (ended : Bool) → IsBounded p → 0 < length p.entries → AreFirst (listed_lines p ++ end_lines ended)
unfolding listing_lines
told-first p ended bounded some =
    record { listing = told p ended; sound = told-sound p ended bounded some; more = []; begins = sym (append-nil (listed_lines p ++ end_lines ended)) }

-- or one entry later
abbrev later : Progress → Progress
later p = with_entry p (next_number p)

later-bounded : (p : Progress) → IsBounded p → next_number p < 2 ^ 33 → IsBounded (later p)
later-bounded p bounded left = record {
  name = bounded.name;
  utf8 = bounded.utf8;
  some_target = bounded.some_target;
  target = bounded.target;
  sequence = bounded.sequence;
  discontinuity_sequence = bounded.discontinuity_sequence;
  event = bounded.event;
  salt = bounded.salt;
  key = bounded.key;
  lasts = bounded.lasts;
  short = bounded.short;
  entries = AreListed-more p.target p.sequence p.entries (entry_of p (next_number p)) bounded.entries
      (record { number = refl; below = left; key = bounded.key; lasts = bounded.lasts; short = bounded.short });
}

abbrev rest_of : Progress → List (List ℕ)
rest_of p = duration_line p.micros ∷ segment_uri (name_of p) (next_number p) ∷ []

later-first : (p : Progress) → IsBounded p → next_number p < 2 ^ 33 → AreFirst (listed_lines p ++ (discontinuity_lines p.discontinuity ++ keys_of p ++ rest_of p))
unfolding entry_lines end_lines
later-first p bounded left =
    let some : 0 < length (p.entries ++ entry_of p (next_number p) ∷ []) = omega (arith, length-append p.entries (entry_of p (next_number p) ∷ [])) in
    subst AreFirst (
    append-nil (listed_lines (later p))
    ∙ ap (λ x. front_of p ++ x) (entries_lines-more (name_of p) p.salt None p.entries (entry_of p (next_number p)))
    ∙ sym (append_assoc (front_of p) (entries_lines (name_of p) p.salt None p.entries) (entry_lines (name_of p) p.salt (last_key p.entries) (entry_of p (next_number p))))
    ) (told-first (later p) false (later-bounded p bounded left) some)

later-broken : (p : Progress) → IsBounded p → next_number p < 2 ^ 33 → AreFirst ((listed_lines p ++ discontinuity_lines p.discontinuity) ++ (keys_of p ++ rest_of p))
later-broken p bounded left =
    let disc = discontinuity_lines p.discontinuity in
    subst AreFirst (
    ap (λ x. listed_lines p ++ x) (append_assoc disc (keys_of p) (rest_of p))
    ∙ sym (append_assoc (listed_lines p) disc (keys_of p ++ rest_of p))
    ) (later-first p bounded left)

later-keyed : (p : Progress) → IsBounded p → next_number p < 2 ^ 33 → AreFirst ((listed_lines p ++ discontinuity_lines p.discontinuity ++ keys_of p) ++ rest_of p)
later-keyed p bounded left =
    subst AreFirst (sym (append_assoc (listed_lines p ++ discontinuity_lines p.discontinuity) (keys_of p) (rest_of p))) (later-broken p bounded left)

later-timed : (p : Progress) → IsBounded p → next_number p < 2 ^ 33
    → AreFirst ((listed_lines p ++ discontinuity_lines p.discontinuity ++ keys_of p ++ duration_line p.micros ∷ []) ++ segment_uri (name_of p) (next_number p) ∷ [])
later-timed p bounded left =
    let front = listed_lines p ++ discontinuity_lines p.discontinuity ++ keys_of p in
    subst AreFirst (sym (append_assoc front (duration_line p.micros ∷ []) (segment_uri (name_of p) (next_number p) ∷ []))) (later-keyed p bounded left)

-- the lines of the head
whole-head-first : (p : Progress) → IsBounded p → p.entries ≡ [] → AreFirst (head_of p)
whole-head-first p bounded none =
    let left : next_number p < 2 ^ 33 = omega (arith, bounded.sequence, ap length none) in
    let whole = first-of (listed_lines p) (discontinuity_lines p.discontinuity ++ keys_of p ++ rest_of p) (later-first p bounded left) in
    first-of (head_of p) (type_lines p.event) (first-of (front_of p) (entries_lines (name_of p) p.salt None p.entries) whole)

head-first : (p : Progress) (n : ℕ) → IsBounded p → p.entries ≡ [] → AreFirst (take n (head_of p))
head-first p n bounded none =
    first-of (take n (head_of p)) (drop n (head_of p)) (subst AreFirst (sym (take-append-drop n (head_of p))) (whole-head-first p bounded none))

between-first : (p : Progress) → IsBounded p → AreFirst (listed_lines p)
between-first p bounded = elim (cases_lt (next_number p) (2 ^ 33)) [
  | inl left ↦ first-of (listed_lines p) (discontinuity_lines p.discontinuity ++ keys_of p ++ rest_of p) (later-first p bounded left)
  | inr none ↦ first-of (listed_lines p) (end_lines false) (told-first p false bounded (omega (arith, bounded.sequence, none)))
]

first-at : (stage : Stage) (p : Progress) → IsBounded p → IsAt stage p → AreFirst (lines_at stage p)
first-at Fresh p bounded at = head-first p 0 bounded at.0
first-at Tagged p bounded at = head-first p 1 bounded at.0
first-at Versioned p bounded at = head-first p 2 bounded at.0
first-at Targeted p bounded at = head-first p 3 bounded at.0
first-at Sequenced p bounded at = head-first p 4 bounded at.0
first-at Headed p bounded at = whole-head-first p bounded at.0
first-at Between p bounded at = between-first p bounded
first-at Broken p bounded at =
    subst (λ b. AreFirst (listed_lines p ++ discontinuity_lines b)) at.1
    (first-of (listed_lines p ++ discontinuity_lines p.discontinuity) (keys_of p ++ rest_of p) (later-broken p bounded at.2))
first-at Keyed p bounded at =
    subst (λ x. AreFirst (listed_lines p ++ discontinuity_lines p.discontinuity ++ x)) (key-listed (name_of p) p.salt (last_key p.entries) p.key (next_number p) at.1)
    (first-of (listed_lines p ++ discontinuity_lines p.discontinuity ++ keys_of p) (rest_of p) (later-keyed p bounded at.2))
first-at Timed p bounded at =
    first-of (listed_lines p ++ discontinuity_lines p.discontinuity ++ keys_of p ++ duration_line p.micros ∷ []) (segment_uri (name_of p) (next_number p) ∷ [])
    (later-timed p bounded at.1)
first-at Ended p bounded at = told-first p true bounded at.1

-- the lines so far begin those of some playlist
pub sound-first : (p : Progress) → IsSound p → AreFirst (lines_at p.stage p)
sound-first p sound = first-at p.stage p sound.bounded sound.stands
