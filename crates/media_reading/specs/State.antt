-- What is kept of the lines of a media playlist that were read, and what one line more makes of it.
use Rattle.std.specs.Prelude.{◌≡◌, ◌≢◌, ◌⊎◌, All, Bool, true, false, Option, Some, None, option_map, ℕ, zero, suc, ◌+◌, ◌-◌, ◌^◌, ◌==◌, ◌&&◌, ◌||◌, nat_eq, nat_le, nat_lt, if◌then◌else◌, List, [], ◌∷◌, ◌++◌, length, drop, is_some, codes, not}
use Rattle.std.specs.String.{string_bytes}
use Rattle.media_reading.specs.declared.reading.Reading.{Reading}
use Rattle.std.specs.Fmt.{decimal}
use Rattle.std.specs.List.{before_first, starts_with, ends_with}
use Rattle.std.specs.Str.{bytes_eq, is_utf8}
use Rattle.std.specs.Option.{option_and_then, option_or}
use Rattle.std.specs.Result.{result_ok}
use Rattle.hex.specs.Hex.{decode_sized}
use Rattle.playlist_text.specs.Vectors.{salted_vector}
use Rattle.percent_encoding.specs.Percent.{percent_decode, percent_sign}
use Rattle.playlist_text.specs.Numbers.{rounded_seconds}
use Rattle.playlist_text.specs.Names.{is_name}
use Rattle.playlist_text.specs.Attributes.{hexadecimal}
use Rattle.playlist_text.specs.Uris.{segment_uri}
use Rattle.playlist_text.specs.MediaLines.{Entry, Listing, duration_line, key_line_under}
use Rattle.media_reading.specs.declared.reading.Stage.{Stage}
use Rattle.media_reading.specs.declared.reading.Stage.TheVariants.{Fresh, Tagged, Versioned, Targeted, Sequenced, Headed, Between, Broken, Keyed, Timed, Ended}
use Rattle.limits.specs.declared.TheConstants.{MOST_KEYS, MOST_TARGET}

-- what the lines so far told: which line comes next, and the values of the playlist and of its next entry. A value that no
-- line told yet is one that it may have.
pub record Progress : Type 0 where
  pub stage : Stage
  pub target : ℕ
  pub sequence : ℕ
  pub discontinuity_sequence : ℕ
  pub event : Bool
  pub salt : Option (List ℕ)
  pub name : Option (List ℕ)
  pub key : ℕ
  pub discontinuity : Bool
  pub micros : ℕ
  pub entries : List Entry

-- nothing was read
abbrev pub fresh : Progress
fresh = record {
  stage = Fresh;
  target = 1;
  sequence = 0;
  discontinuity_sequence = 0;
  event = false;
  salt = None;
  name = None;
  key = 0;
  discontinuity = false;
  micros = 1;
  entries = [];
}

-- the greatest number below n that passes a test
unfoldable pub found_below : (ℕ → Bool) → ℕ → Option ℕ
found_below test zero = None
found_below test (suc n) = if test n then Some n else found_below test n

-- the number with which a line is this one
abbrev pub number_in : (ℕ → List ℕ) → ℕ → List ℕ → Option ℕ
number_in line_of bound line = found_below (λ n. bytes_eq line (line_of n)) bound

-- what a number makes, where it may stand there
abbrev pub where_so : Bool → Progress → Option Progress
where_so may next = if may then Some next else None

-- the lines with one number
abbrev pub target_line : ℕ → List ℕ
target_line n = codes "#EXT-X-TARGETDURATION:" ++ decimal n

abbrev pub sequence_line : ℕ → List ℕ
sequence_line n = codes "#EXT-X-MEDIA-SEQUENCE:" ++ decimal n

abbrev pub discontinuity_sequence_line : ℕ → List ℕ
discontinuity_sequence_line n = codes "#EXT-X-DISCONTINUITY-SEQUENCE:" ++ decimal n

-- what the line of a key begins with, before the name
abbrev pub key_begin : List ℕ
key_begin = codes "#EXT-X-KEY:METHOD=AES-128,URI=\""

-- the escaped text of the name that the line of a key may have
abbrev pub escaped_in : List ℕ → List ℕ
escaped_in line = before_first (λ b. b == 46) (drop (length key_begin) line)

-- escapes stand in it
abbrev pub HasEscapes : List ℕ → Type 0
HasEscapes line = ¬ All (λ b. b ≢ percent_sign) (escaped_in line)

-- the name that the line of a key may have: that of the escaped text up to the first point
unfoldable pub name_in : List ℕ → Option (List ℕ)
name_in line =
    let name = percent_decode (before_first (λ b. b == 46) (drop (length key_begin) line)) in
    if is_name name && is_utf8 name then Some name else None

-- the vector at the end of the line of a key
abbrev pub vector_end : Option (List ℕ) → ℕ → List ℕ
vector_end None n = []
vector_end (Some salt) n = codes ",IV=" ++ hexadecimal (salted_vector (Some salt) n)

-- what stands behind the index in the line of a key
abbrev pub key_end : Option (List ℕ) → ℕ → List ℕ
key_end None n = codes ".key\""
key_end (Some salt) n = codes ".key\",IV=" ++ hexadecimal (salted_vector (Some salt) n)

-- the line ends in a quote
abbrev pub is_quoted : List ℕ → Bool
is_quoted line = ends_with nat_eq line (codes "\"")

-- the vector that the line may end in
abbrev pub vector_in : List ℕ → Option (List ℕ)
vector_in line = result_ok (decode_sized (drop (length line - 32) line) 16)

-- the salt that the first line of a key may have, where the number is that of its entry: none behind a quote
unfoldable pub salt_in : ℕ → List ℕ → Option (Option (List ℕ))
salt_in n line =
    if is_quoted line then Some None else option_map (λ iv. Some (salted_vector (Some iv) n)) (vector_in line)

-- the next number
abbrev pub next_number : Progress → ℕ
next_number p = p.sequence + length p.entries

-- where it may stand
abbrev pub number_left : Progress → Option ℕ
number_left p = if nat_lt (next_number p) (2 ^ 33) then Some (next_number p) else None

-- the next entry, with its number
abbrev pub entry_of : Progress → ℕ → Entry
entry_of p n = record { number = n; key = p.key; micros = p.micros; discontinuity = p.discontinuity }

-- with this line there, it goes on so
abbrev pub expect : List ℕ → List ℕ → Progress → Option Progress
expect line wanted next = if bytes_eq line wanted then Some next else None

-- a duration that an entry may have
abbrev pub is_duration : ℕ → ℕ → Bool
is_duration target micros = nat_lt 0 micros && nat_le (rounded_seconds micros) target

abbrev pub with_key : Progress → List ℕ → Option (List ℕ) → ℕ → Progress
with_key p name salt key = record p { stage = Keyed; name = Some name; salt = salt; key = key }

-- the index of the key that a line has, before the entry of a number
abbrev pub key_in : List ℕ → Option (List ℕ) → ℕ → List ℕ → Option ℕ
key_in name salt n line = number_in (key_line_under name salt n) MOST_KEYS line

abbrev pub keyed_first : Progress → ℕ → List ℕ → List ℕ → Option Progress
keyed_first p n line name =
    option_and_then (λ salt. option_map (with_key p name salt) (key_in name salt n line)) (salt_in n line)

abbrev pub keyed_by : Option (List ℕ) → Progress → ℕ → List ℕ → Option Progress
keyed_by None p n line = option_and_then (keyed_first p n line) (name_in line)
keyed_by (Some name) p n line =
    option_and_then (λ key. where_so (is_some p.salt || not (key == p.key)) (with_key p name p.salt key)) (key_in name p.salt n line)

-- behind the line of a key: without a salt, another one than the entry before has
unfoldable pub keyed : Progress → List ℕ → Option Progress
keyed p line = option_and_then (λ n. keyed_by p.name p n line) (number_left p)

-- behind the line of a duration, where there is a key
unfoldable pub timed : Progress → List ℕ → Option Progress
timed p line =
    if is_some p.name
    then option_and_then (λ micros. where_so (is_duration p.target micros) (record p { stage = Timed; micros = micros })) (number_in duration_line (2 ^ 64) line)
    else None

-- behind one of both: under a salt each entry has its line of a key
abbrev pub keyed_or_timed : Progress → List ℕ → Option Progress
keyed_or_timed p line = option_or (keyed p line) (if is_some p.salt then None else timed p line)

-- behind the line of a segment
abbrev pub with_entry : Progress → ℕ → Progress
with_entry p n = record p { stage = Between; entries = p.entries ++ entry_of p n ∷ [] }

unfoldable pub listed : Progress → List ℕ → Option Progress
listed p line =
    option_and_then (λ n. option_and_then (λ name. expect line (segment_uri name n) (with_entry p n)) p.name) (number_left p)

-- behind the first line of an entry
abbrev pub entered : Progress → List ℕ → Option Progress
entered p line =
    if bytes_eq line (codes "#EXT-X-DISCONTINUITY")
    then Some (record p { stage = Broken; discontinuity = true })
    else keyed_or_timed (record p { discontinuity = false }) line

-- or behind the last line of all
unfoldable pub begun : Progress → List ℕ → Option Progress
begun p line =
    if bytes_eq line (codes "#EXT-X-ENDLIST")
    then where_so (nat_lt 0 (length p.entries)) (record p { stage = Ended })
    else option_and_then (λ n. entered p line) (number_left p)

-- behind the line of the type, which an event that begins at 0 may have, or one that comes next without it
unfoldable pub headed : Progress → List ℕ → Option Progress
headed p line =
    if bytes_eq line (codes "#EXT-X-PLAYLIST-TYPE:EVENT")
    then where_so (p.sequence == 0 && p.discontinuity_sequence == 0) (record p { stage = Between; event = true })
    else begun p line

-- what a line more makes of it, if it may come next
abbrev pub step_at : Stage → Progress → List ℕ → Option Progress
step_at Fresh p line = expect line (codes "#EXTM3U") (record p { stage = Tagged })
step_at Tagged p line = expect line (codes "#EXT-X-VERSION:4") (record p { stage = Versioned })
step_at Versioned p line = option_and_then (λ n. where_so (nat_lt 0 n) (record p { stage = Targeted; target = n })) (number_in target_line (MOST_TARGET + 1) line)
step_at Targeted p line = option_map (λ n. record p { stage = Sequenced; sequence = n }) (number_in sequence_line (2 ^ 33) line)
step_at Sequenced p line = option_map (λ n. record p { stage = Headed; discontinuity_sequence = n }) (number_in discontinuity_sequence_line (2 ^ 33) line)
step_at Headed p line = headed p line
step_at Between p line = begun p line
step_at Broken p line = keyed_or_timed p line
step_at Keyed p line = timed p line
step_at Timed p line = listed p line
step_at Ended p line = None

unfoldable pub step : Progress → List ℕ → Option Progress
step p line = step_at p.stage p line

-- what some lines make of it
unfoldable pub steps : Progress → List (List ℕ) → Option Progress
steps p [] = Some p
steps p (line ∷ lines) = option_and_then (λ q. steps q lines) (step p line)

-- the playlist that was read
abbrev pub listing_of : Progress → Bool → List ℕ → Listing
listing_of p ended name = record {
  name = name;
  target = p.target;
  sequence = p.sequence;
  discontinuity_sequence = p.discontinuity_sequence;
  event = p.event;
  salt = p.salt;
  entries = p.entries;
  ended = ended;
}

-- the playlist that ends here, where it has an entry
abbrev pub ended_by : Progress → Bool → Option Listing
ended_by p ended = if nat_lt 0 (length p.entries) then option_map (listing_of p ended) p.name else None

-- the playlist that may end here
abbrev pub listing_at : Stage → Progress → Option Listing
listing_at Between p = ended_by p false
listing_at Ended p = ended_by p true
listing_at _ p = None

-- how far a reading has come
abbrev pub progress_of : Reading → Progress
progress_of r = record {
  stage = r.stage;
  target = r.target;
  sequence = r.sequence;
  discontinuity_sequence = r.discontinuity_sequence;
  event = r.event;
  salt = r.salt;
  name = option_map string_bytes r.name;
  key = r.key;
  discontinuity = r.discontinuity;
  micros = r.micros;
  entries = r.entries.items;
}

-- whether a line was taken: if so the reading has come so far, if not it has stayed
abbrev pub Moves : Bool → Option Progress → Progress → Progress → Type 0
Moves true next old new = next ≡ Some new
Moves false next old new = (next ≡ None) × (new ≡ old)

-- the same, where nothing is said of a reading that takes no line
abbrev pub Tells : Bool → Option Progress → Progress → Type 0
Tells true next new = next ≡ Some new
Tells false next new = next ≡ None

-- A reading that takes no line is as it was, or told no discontinuity.
abbrev pub IsUntaken : Progress → Progress → Type 0
IsUntaken old new = (new ≡ old) ⊎ (new ≡ record old { discontinuity = false })

-- a number is left for the next entry
abbrev pub has_number : Progress → Bool
has_number p = is_some (number_left p)

-- the line begins as that of a key does
abbrev pub begins_key : List ℕ → Bool
begins_key line = starts_with nat_eq line key_begin

-- the line ends as that of a segment does
abbrev pub ends_segment : List ℕ → Bool
ends_segment line = ends_with nat_eq line (codes ".ts")

-- Memory is wanted for what a line tells: the line may come next, or the name in it is the first, and has escapes.
abbrev pub IsKept : Option Progress → Progress → List ℕ → Type 0
IsKept next p line = (next ≢ None) ⊎ ((p.name ≡ None) × HasEscapes line)

-- A line for which memory may be wanted, to keep what it tells: one that begins as that of a key does, where an entry may begin and no
-- key was told yet, and one that ends as that of a segment does, where one may stand; none of the others.
abbrev pub awaits_first_key : Progress → Bool
awaits_first_key p = has_number p && not (is_some p.name)

abbrev pub key_may_want : Progress → List ℕ → Bool
key_may_want p line = awaits_first_key p && begins_key line

abbrev pub may_want : Stage → Progress → List ℕ → Bool
may_want Headed p line = key_may_want p line
may_want Between p line = key_may_want p line
may_want Broken p line = key_may_want p line
may_want Timed p line = has_number p && ends_segment line
may_want _ p line = false
