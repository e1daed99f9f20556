-- What lines tell that are taken one after another.
use Rattle.std.proofs.Common.{rules, inl, inr, Bool, false, drop, ◌≤◌, ◌≡◌, ◌≢◌, ◌⊎◌, ℕ, ◌+◌, ◌<◌, true, List, [], ◌∷◌, ◌++◌, length, Option, Some, None, refl, sym, ap, ◌∙◌, subst, arith, append_assoc, append-nil}
use Rattle.std.specs.Prelude.{All, codes, is_some, not, unwrap_or, option_map, nat_lt, if◌then◌else◌}
use Rattle.std.specs.Option.{option_and_then}
use Rattle.std.specs.Str.{IsUtf8}
use Rattle.std.proofs.lemmas.Option.{same_Some, none-some}
use Rattle.std.proofs.lemmas.Str.{IsUtf8-from_ascii}
use Rattle.playlist_text.specs.Names.{is_name}
use Rattle.playlist_text.specs.MediaLines.{Listing, discontinuity_lines, head_lines, type_lines, listing_lines, entries_lines, end_lines}
use Rattle.std.proofs.lemmas.List.{take_all, length-append, take-append-drop}
use Rattle.std.proofs.lemmas.Bool.{false≢true, ltb-true, and_parts}
use Rattle.media_reading.specs.declared.reading.Stage.{Stage}
use Rattle.media_reading.specs.declared.reading.Stage.TheVariants.{Fresh, Tagged, Versioned, Targeted, Sequenced, Headed, Between, Broken, Keyed, Timed, Ended}
use Rattle.media_reading.specs.State.{HasEscapes, IsKept, Tells, awaits_first_key, begins_key, ends_segment, has_number, key_may_want, may_want, Progress, fresh, step, steps, listing_at, listing_of}
use Rattle.std.proofs.lemmas.List.Elements.{All-cons, All-append, All-nil}
use Rattle.std.proofs.Math.Seq.{take-append_seam, take-append-add}
use Rattle.playlist_text.specs.Lines.{text_of}
use Rattle.playlist_text.proofs.TextLines.{text_of-append}
use Rattle.media_reading.specs.MediaTexts.{IsListing, AreFirst, IsLine, IsFirstWrong, MayWantMemory, WantsMemory, EndsTimed, Splits, listing_text}
use Rattle.media_reading.proofs.Splitting.{steps-stop, steps-more, text-more, split-of, lines-same}
use Rattle.media_reading.proofs.Going.{IsAt, IsSound, last_key, lines_at, listed_lines, head_of, front_of, keys_of, name_of}
use Rattle.media_reading.proofs.Stepping.{last_key-none, step-lines}
use Rattle.media_reading.proofs.Completing.{sound-first}
use Rattle.media_reading.proofs.Running.{listing-steps}
use Rattle.media_reading.proofs.LineEnds.{listing-IsLine}

-- nothing was told yet
pub fresh-sound : IsSound fresh
unfolding is_name
fresh-sound = record {
  bounded = record {
    name = refl;
    utf8 = IsUtf8-from_ascii (codes "v") (search rules);
    some_target = omega arith;
    target = omega arith;
    sequence = omega arith;
    discontinuity_sequence = omega arith;
    event = λ is. absurd (false≢true is);
    salt = _;
    key = omega arith;
    lasts = omega arith;
    short = omega arith;
    entries = _;
  };
  stands = (refl, refl, refl, refl);
}

-- behind the first line
taken-behind : (p q : Progress) (line : List ℕ) (lines : List (List ℕ)) (o : Option Progress) → step p line ≡ o → IsSound p
    → ((r : Progress) → IsSound r → steps r lines ≡ Some q → IsSound q × (lines_at q.stage q ≡ lines_at r.stage r ++ lines))
    → option_and_then (λ r. steps r lines) o ≡ Some q → IsSound q × (lines_at q.stage q ≡ lines_at p.stage p ++ line ∷ lines)
taken-behind p q line lines None taken sound later is = absurd (none-some q is)
taken-behind p q line lines (Some r) taken sound later is =
    let first = step-lines p r line sound taken in
    let rest = later r first.0 is in
    (rest.0, rest.1 ∙ ap (λ x. x ++ lines) first.1 ∙ append_assoc (lines_at p.stage p) (line ∷ []) lines)

-- so much was told by these lines
pub steps-sound : (p q : Progress) (lines : List (List ℕ)) → IsSound p → steps p lines ≡ Some q → IsSound q × (lines_at q.stage q ≡ lines_at p.stage p ++ lines)
unfolding steps
steps-sound p q [] sound is =
    let same = same_Some p q is in
    (subst IsSound same sound, ap (λ (r : Progress). lines_at r.stage r) (sym same) ∙ sym (append-nil (lines_at p.stage p)))
steps-sound p q (line ∷ lines) sound is = taken-behind p q line lines (step p line) refl sound (λ r good more. steps-sound r q lines good more) is

-- lines that were taken begin those of some playlist
pub taken-first : (lines : List (List ℕ)) (p : Progress) → steps fresh lines ≡ Some p → AreFirst lines
taken-first lines p taken =
    let told = steps-sound fresh p lines fresh-sound taken in
    subst AreFirst told.1 (sound-first p told.0)

-- lines that weren't taken don't
pub stopped-not-first : (lines : List (List ℕ)) → steps fresh lines ≡ None → ¬ AreFirst lines
stopped-not-first lines stopped first =
    let told = listing-steps first.listing first.sound in
    none-some told.0 (sym (ap (steps fresh) first.begins ∙ steps-stop fresh lines first.more stopped) ∙ told.1)

-- no two playlists have the same lines
pub one-listing : (l m : Listing) → IsListing l → IsListing m → listing_lines l ≡ listing_lines m → l ≡ m
one-listing l m here there same =
    let a = listing-steps l here in
    let b = listing-steps m there in
    let told : a.0 ≡ b.0 = same_Some a.0 b.0 (sym a.1 ∙ ap (steps fresh) same ∙ b.1) in
    same_Some l m (sym a.2 ∙ ap (λ (p : Progress). listing_at p.stage p) told ∙ b.2)

-- a text splits into the lines that were taken, the next one and those behind it
whole-split : (text rest line behind : List ℕ) (lines : List (List ℕ)) → text_of lines ++ rest ≡ text → All IsLine lines → IsLine line
    → rest ≡ line ++ 10 ∷ behind → Splits text (lines ++ line ∷ (split-of behind).lines) (split-of behind).last
whole-split text rest line behind lines whole each is split =
    let more = split-of behind in
    record {
      whole =
          sym (text-more lines line behind rest text whole split)
          ∙ ap (λ x. text_of (lines ++ line ∷ []) ++ x) more.splits.whole
          ∙ sym (append_assoc (text_of (lines ++ line ∷ [])) (text_of more.lines) more.last)
          ∙ ap (λ x. x ++ more.last) (sym (text_of-append (lines ++ line ∷ []) more.lines) ∙ ap text_of (append_assoc lines (line ∷ []) more.lines));
      lines_end = All-append IsLine lines (line ∷ more.lines) each (All-cons IsLine line more.lines is more.splits.lines_end);
      last_is_open = more.splits.last_is_open;
    }

-- a line that may not come next is the first wrong one
pub wrong-line : (text rest line behind : List ℕ) (lines : List (List ℕ)) (p : Progress) (number : ℕ) → text_of lines ++ rest ≡ text → All IsLine lines
    → steps fresh lines ≡ Some p → number ≡ length lines + 1 → IsLine line → rest ≡ line ++ 10 ∷ behind → step p line ≡ None → IsFirstWrong text number
wrong-line text rest line behind lines p number whole each taken counted is split refused =
    let more = split-of behind in
    let all = lines ++ line ∷ more.lines in
    let begun = take-append_seam lines (line ∷ more.lines) in
    let next = take-append-add lines (line ∷ more.lines) 1 in
    record {
      lines = all;
      last = more.last;
      splits = whole-split text rest line behind lines whole each is split;
      place = length lines;
      is_next = counted;
      before = subst AreFirst (sym begun) (taken-first lines p taken);
      wrong = inl (
        omega (arith, length-append lines (line ∷ more.lines)),
        λ first. stopped-not-first (lines ++ line ∷ []) (steps-more fresh p lines line None taken refused) (subst AreFirst next first),
      );
    }

-- a text that ends too early is wrong behind its last line
pub wrong-end : (text rest : List ℕ) (lines : List (List ℕ)) (p : Progress) (number : ℕ) → text_of lines ++ rest ≡ text → All IsLine lines
    → steps fresh lines ≡ Some p → number ≡ length lines + 1 → IsLine rest → ((l : Listing) → IsListing l → text ≢ listing_text l) → IsFirstWrong text number
wrong-end text rest lines p number whole each taken counted is none = record {
  lines = lines;
  last = rest;
  splits = record { whole = sym whole; lines_end = each; last_is_open = is };
  place = length lines;
  is_next = counted;
  before = subst AreFirst (sym (take_all (length lines) lines (omega arith))) (taken-first lines p taken);
  wrong = inr (refl, none);
}

-- the lines of a playlist's text are its lines, with nothing behind
pub text-lines : (text rest : List ℕ) (lines : List (List ℕ)) (l : Listing) → text_of lines ++ rest ≡ text → All IsLine lines → IsLine rest → IsListing l → text ≡ listing_text l
    → (lines ≡ listing_lines l) × (rest ≡ [])
text-lines text rest lines l whole each is sound same =
    lines-same lines (listing_lines l) rest [] each (listing-IsLine l sound) is (All-nil (λ c. c ≢ 10)) (whole ∙ same ∙ sym (append-nil (listing_text l)))

-- no two playlists have the same text
pub one-text : (l m : Listing) → IsListing l → IsListing m → listing_text l ≡ listing_text m → l ≡ m
one-text l m here there same =
    one-listing l m here there (text-lines (listing_text l) [] (listing_lines l) m (append-nil (listing_text l)) (listing-IsLine l here) (All-nil (λ c. c ≢ 10)) there same).0

-- lines that were read of a playlist's text tell that playlist in the end
pub told-listing : (lines : List (List ℕ)) (l : Listing) (p : Progress) → lines ≡ listing_lines l → IsListing l → steps fresh lines ≡ Some p → listing_at p.stage p ≡ Some l
told-listing lines l p same sound taken =
    let told = listing-steps l sound in
    let is : told.0 ≡ p = same_Some told.0 p (sym told.1 ∙ ap (steps fresh) (sym same) ∙ taken) in
    ap (λ (q : Progress). listing_at q.stage q) (sym is) ∙ told.2

-- a text with a wrong line is that of no playlist
pub wrong-not-listing : (text : List ℕ) (number : ℕ) → IsFirstWrong text number → (l : Listing) → IsListing l → text ≢ listing_text l
wrong-not-listing text number told l sound same =
    let lines = text-lines text told.last told.lines l (sym told.splits.whole) told.splits.lines_end told.splits.last_is_open sound same in
    elim told.wrong [
      | inl wrong ↦ wrong.1 (record {
        listing = l;
        sound = sound;
        more = drop (told.place + 1) told.lines;
        begins = sym lines.0 ∙ sym (take-append-drop (told.place + 1) told.lines);
      })
      | inr wrong ↦ wrong.1 l sound same
    ]

-- what was told of a line
pub Tells-false : (b : Bool) (next : Option Progress) (new : Progress) → b ≡ false → Tells b next new → next ≡ None
Tells-false true next new is told = absurd (false≢true (sym is))
Tells-false false next new is told = told

pub Tells-true : (b : Bool) (next : Option Progress) (new : Progress) → b ≡ true → Tells b next new → next ≡ Some new
Tells-true true next new is told = told
Tells-true false next new is told = absurd (false≢true is)

-- a text has a byte at least for each line
pub length-text : (lines : List (List ℕ)) → length lines ≤ length (text_of lines)
unfolding text_of
length-text [] = omega arith
length-text (line ∷ lines) = omega (arith, length-append (line ++ codes "\n") (text_of lines), length-append line (codes "\n"), length-text lines)

-- what was told has an end
ended-from : (p : Progress) (ended : Bool) (l : Listing) (o : Option (List ℕ)) → p.name ≡ o → IsSound p → 0 < length p.entries
    → option_map (listing_of p ended) o ≡ Some l → IsListing l × (listing_lines l ≡ listed_lines p ++ end_lines ended)
unfolding listing_lines
ended-from p ended l None none sound some told = absurd (none-some l told)
ended-from p ended l (Some name) is sound some told =
    let same : name_of p ≡ name = ap (λ o. unwrap_or o (codes "v")) is in
    let made : IsListing (listing_of p ended name) = record {
      name = subst (λ n. is_name n ≡ true) same sound.bounded.name;
      utf8 = subst IsUtf8 same sound.bounded.utf8;
      some_target = sound.bounded.some_target;
      target = sound.bounded.target;
      discontinuity_sequence = sound.bounded.discontinuity_sequence;
      event = sound.bounded.event;
      salt = sound.bounded.salt;
      some = some;
      entries = sound.bounded.entries;
    } in
    let lines : listing_lines (listing_of p ended name) ≡ listed_lines p ++ end_lines ended
    = ap (λ n. front_of p ++ entries_lines n p.salt None p.entries ++ end_lines ended) (sym same) in
    subst (λ (m : Listing). IsListing m × (listing_lines m ≡ listed_lines p ++ end_lines ended)) (same_Some _ l told) (made, lines)

ended-if : (p : Progress) (ended : Bool) (l : Listing) (b : Bool) → nat_lt 0 (length p.entries) ≡ b → IsSound p
    → (if b then option_map (listing_of p ended) p.name else None) ≡ Some l → IsListing l × (listing_lines l ≡ listed_lines p ++ end_lines ended)
ended-if p ended l false test sound told = absurd (none-some l told)
ended-if p ended l true test sound told = ended-from p ended l p.name refl sound (ltb-true 0 (length p.entries) test) told

-- what was told in the end has these lines
told-lines : (stage : Stage) (p : Progress) (l : Listing) → IsSound p → listing_at stage p ≡ Some l → IsListing l × (listing_lines l ≡ lines_at stage p)
unfolding end_lines
told-lines Between p l sound told =
    let ended = ended-if p false l (nat_lt 0 (length p.entries)) refl sound told in
    (ended.0, ended.1 ∙ append-nil (listed_lines p))
told-lines Ended p l sound told = ended-if p true l (nat_lt 0 (length p.entries)) refl sound told
told-lines Fresh p l sound told = absurd (none-some l told)
told-lines Tagged p l sound told = absurd (none-some l told)
told-lines Versioned p l sound told = absurd (none-some l told)
told-lines Targeted p l sound told = absurd (none-some l told)
told-lines Sequenced p l sound told = absurd (none-some l told)
told-lines Headed p l sound told = absurd (none-some l told)
told-lines Broken p l sound told = absurd (none-some l told)
told-lines Keyed p l sound told = absurd (none-some l told)
told-lines Timed p l sound told = absurd (none-some l told)

pub steps-listing : (lines : List (List ℕ)) (p : Progress) (l : Listing) → steps fresh lines ≡ Some p → listing_at p.stage p ≡ Some l → IsListing l × (listing_lines l ≡ lines)
steps-listing lines p l taken told =
    let going = steps-sound fresh p lines fresh-sound taken in
    let ended = told-lines p.stage p l going.0 told in
    (ended.0, ended.1 ∙ going.1)

-- where memory may be wanted the head was told
head-there : (stage : Stage) (p : Progress) (line : List ℕ) → may_want stage p line ≡ true → 5 ≤ length (lines_at stage p)
unfolding head_lines
head-there Fresh p line may = absurd (false≢true may)
head-there Tagged p line may = absurd (false≢true may)
head-there Versioned p line may = absurd (false≢true may)
head-there Targeted p line may = absurd (false≢true may)
head-there Sequenced p line may = absurd (false≢true may)
head-there Headed p line may = omega arith
head-there Between p line may = omega arith
head-there Broken p line may = omega arith
head-there Keyed p line may = absurd (false≢true may)
head-there Timed p line may = omega arith
head-there Ended p line may = absurd (false≢true may)

-- memory was wanted at the next line
pub wants-memory : (text rest line behind : List ℕ) (lines : List (List ℕ)) (p : Progress) → text_of lines ++ rest ≡ text → All IsLine lines
    → steps fresh lines ≡ Some p → IsLine line → rest ≡ line ++ 10 ∷ behind → may_want p.stage p line ≡ true → MayWantMemory text
wants-memory text rest line behind lines p whole each taken is split may =
    let more = split-of behind in
    let begun = take-append_seam lines (line ∷ more.lines) in
    let told = steps-sound fresh p lines fresh-sound taken in
    record {
      lines = lines ++ line ∷ more.lines;
      last = more.last;
      splits = whole-split text rest line behind lines whole each is split;
      place = length lines;
      head = subst (λ (l : List (List ℕ)). 5 ≤ length l) told.1 (head-there p.stage p line may);
      within = omega (arith, length-append lines (line ∷ more.lines));
      before = subst AreFirst (sym begun) (taken-first lines p taken);
    }

-- where no key was told, seven lines stand before at most
type-short : (event : Bool) → length (type_lines event) ≤ 1
unfolding type_lines
type-short true = omega arith
type-short false = omega arith

listed-short : (p : Progress) → p.entries ≡ [] → length (listed_lines p) ≤ 6
unfolding head_lines entries_lines
listed-short p none =
    let entries : length (entries_lines (name_of p) p.salt None p.entries) ≡ 0 = ap (λ es. length (entries_lines (name_of p) p.salt None es)) none in
    omega (arith, entries, type-short p.event, length-append (head_of p) (type_lines p.event), length-append (front_of p) (entries_lines (name_of p) p.salt None p.entries))

unkeyed : (p : Progress) → last_key p.entries ≡ option_map (λ _. p.key) p.name → p.name ≡ None → p.entries ≡ []
unkeyed p last none = last_key-none p.entries (last ∙ ap (option_map (λ _. p.key)) none)

first-short : (stage : Stage) (p : Progress) (line : List ℕ) → IsAt stage p → p.name ≡ None → may_want stage p line ≡ true → length (lines_at stage p) ≤ 7
unfolding head_lines discontinuity_lines
first-short Fresh p line at none may = absurd (false≢true may)
first-short Tagged p line at none may = absurd (false≢true may)
first-short Versioned p line at none may = absurd (false≢true may)
first-short Targeted p line at none may = absurd (false≢true may)
first-short Sequenced p line at none may = absurd (false≢true may)
first-short Headed p line at none may = omega arith
first-short Between p line at none may = omega (arith, listed-short p (unkeyed p at none))
first-short Broken p line at none may = omega (arith, listed-short p (unkeyed p at.0 none), length-append (listed_lines p) (discontinuity_lines true))
first-short Keyed p line at none may = absurd (false≢true may)
first-short Timed p line at none may = absurd (false≢true (ap is_some (sym none) ∙ at.0))
first-short Ended p line at none may = absurd (false≢true may)

unnamed : (name : Option (List ℕ)) → not (is_some name) ≡ true → name ≡ None
unnamed None none = refl
unnamed (Some n) none = absurd (false≢true none)

-- the line is one that is compared or kept
first-key : (stage : Stage) (p : Progress) (line : List ℕ) → IsAt stage p → may_want stage p line ≡ true → key_may_want p line ≡ true
    → (begins_key line ≡ true) × (length (lines_at stage p) ≤ 7)
first-key stage p line at may key =
    let parts = and_parts (awaits_first_key p) (begins_key line) key in
    (parts.1, first-short stage p line at (unnamed p.name (and_parts (has_number p) (not (is_some p.name)) parts.0).1) may)

line-wanted : (stage : Stage) (p : Progress) (line : List ℕ) → IsAt stage p → may_want stage p line ≡ true
    → ((begins_key line ≡ true) × (length (lines_at stage p) ≤ 7)) ⊎ (EndsTimed (lines_at stage p) × (ends_segment line ≡ true))
line-wanted Fresh p line at may = absurd (false≢true may)
line-wanted Tagged p line at may = absurd (false≢true may)
line-wanted Versioned p line at may = absurd (false≢true may)
line-wanted Targeted p line at may = absurd (false≢true may)
line-wanted Sequenced p line at may = absurd (false≢true may)
line-wanted Headed p line at may = inl (first-key Headed p line at may may)
line-wanted Between p line at may = inl (first-key Between p line at may may)
line-wanted Broken p line at may = inl (first-key Broken p line at may may)
line-wanted Keyed p line at may = absurd (false≢true may)
line-wanted Timed p line at may = inr (
  record { front = listed_lines p ++ discontinuity_lines p.discontinuity ++ keys_of p; micros = p.micros; is = refl },
  (and_parts (has_number p) (ends_segment line) may).1,
)
line-wanted Ended p line at may = absurd (false≢true may)

-- what the line tells is kept
kept-by : (lines : List (List ℕ)) (p : Progress) (line : List ℕ) (o : Option Progress) → steps fresh lines ≡ Some p → step p line ≡ o → o ≢ None → AreFirst (lines ++ line ∷ [])
kept-by lines p line None taken next some = absurd (some refl)
kept-by lines p line (Some q) taken next some = taken-first (lines ++ line ∷ []) q (steps-more fresh p lines line (Some q) taken next)

line-kept : (lines : List (List ℕ)) (p : Progress) (line : List ℕ) → steps fresh lines ≡ Some p → may_want p.stage p line ≡ true → IsKept (step p line) p line
    → AreFirst (lines ++ line ∷ []) ⊎ (HasEscapes line × (length lines ≤ 7))
line-kept lines p line taken may (inl some) = inl (kept-by lines p line (step p line) taken refl some)
line-kept lines p line taken may (inr first) =
    let told = steps-sound fresh p lines fresh-sound taken in
    inr (first.1, subst (λ (l : List (List ℕ)). length l ≤ 7) told.1 (first-short p.stage p line told.0.stands first.0 may))

pub wants-line : (text rest line behind : List ℕ) (lines : List (List ℕ)) (p : Progress) → text_of lines ++ rest ≡ text → All IsLine lines
    → steps fresh lines ≡ Some p → IsLine line → rest ≡ line ++ 10 ∷ behind → may_want p.stage p line ≡ true
    → IsKept (step p line) p line → WantsMemory text
wants-line text rest line behind lines p whole each taken is split may kept =
    let more = split-of behind in
    let told = steps-sound fresh p lines fresh-sound taken in
    record {
      before = lines;
      line = line;
      behind = more.lines;
      last = more.last;
      splits = whole-split text rest line behind lines whole each is split;
      begins = subst AreFirst told.1 (sound-first p told.0);
      wants = subst (λ (l : List (List ℕ)). ((begins_key line ≡ true) × (length l ≤ 7)) ⊎ (EndsTimed l × (ends_segment line ≡ true))) told.1 (line-wanted p.stage p line told.0.stands may);
      kept = line-kept lines p line taken may kept;
    }
