-- How the lines of a playlist and what they told hang together.
use Rattle.std.specs.Prelude.{◌≡◌, ◌≢◌, ℕ, ◌+◌, ◌/◌, ◌<◌, ◌≤◌, ◌^◌, ◌⊎◌, Bool, true, false, List, [], ◌∷◌, ◌++◌, length, take, Option, Some, None, unwrap_or, option_map, is_some, codes}
use Rattle.std.specs.Str.{IsUtf8}
use Rattle.playlist_text.specs.Names.{is_name}
use Rattle.playlist_text.specs.MediaLines.{Entry, head_lines, type_lines, discontinuity_lines, entry_key_lines, duration_line, entries_lines, end_lines, key_line_under}
use Rattle.media_reading.specs.declared.reading.Stage.{Stage}
use Rattle.media_reading.specs.declared.reading.Stage.TheVariants.{Fresh, Tagged, Versioned, Targeted, Sequenced, Headed, Between, Broken, Keyed, Timed, Ended}
use Rattle.media_reading.specs.MediaTexts.{AreListed, IsSalt}
use Rattle.media_reading.specs.State.{Progress, next_number}

-- the key of the last of some entries, or the one before where there are none
abbrev pub key_behind : Option ℕ → List Entry → Option ℕ
key_behind before [] = before
key_behind before (entry ∷ entries) = key_behind (Some entry.key) entries

abbrev pub last_key : List Entry → Option ℕ
last_key entries = key_behind None entries

-- the name that was told, or one that may be
abbrev pub name_of : Progress → List ℕ
name_of p = unwrap_or p.name (codes "v")

abbrev pub head_of : Progress → List (List ℕ)
head_of p = head_lines p.target p.sequence p.discontinuity_sequence

abbrev pub front_of : Progress → List (List ℕ)
front_of p = head_of p ++ type_lines p.event

-- the lines of the entries that were told
abbrev pub listed_lines : Progress → List (List ℕ)
listed_lines p = front_of p ++ entries_lines (name_of p) p.salt None p.entries

-- the key lines of the next one
abbrev pub keys_of : Progress → List (List ℕ)
keys_of p = entry_key_lines (name_of p) p.salt (last_key p.entries) p.key (next_number p)

-- the lines that told so much
abbrev pub lines_at : Stage → Progress → List (List ℕ)
lines_at Fresh p = []
lines_at Tagged p = take 1 (head_of p)
lines_at Versioned p = take 2 (head_of p)
lines_at Targeted p = take 3 (head_of p)
lines_at Sequenced p = take 4 (head_of p)
lines_at Headed p = head_of p
lines_at Between p = listed_lines p
lines_at Broken p = listed_lines p ++ discontinuity_lines true
lines_at Keyed p = listed_lines p ++ discontinuity_lines p.discontinuity ++ key_line_under (name_of p) p.salt (next_number p) p.key ∷ []
lines_at Timed p = listed_lines p ++ discontinuity_lines p.discontinuity ++ keys_of p ++ duration_line p.micros ∷ []
lines_at Ended p = listed_lines p ++ end_lines true

-- what holds at each line: before the first entry nothing else was told; between entries the key is that of the last one;
-- a key that was told is another one, unless there is a salt; and within an entry a number is left
abbrev pub IsAt : Stage → Progress → Type 0
IsAt Between p = (last_key p.entries ≡ option_map (λ _. p.key) p.name)
IsAt Broken p = (last_key p.entries ≡ option_map (λ _. p.key) p.name) × (p.discontinuity ≡ true) × (next_number p < 2 ^ 33)
IsAt Keyed p = (is_some p.name ≡ true) × ((is_some p.salt ≡ true) ⊎ (last_key p.entries ≢ Some p.key)) × (next_number p < 2 ^ 33)
IsAt Timed p = (is_some p.name ≡ true) × (next_number p < 2 ^ 33)
IsAt Ended p = (is_some p.name ≡ true) × (0 < length p.entries)
IsAt _ p = (p.entries ≡ []) × (p.name ≡ None) × (p.micros ≡ 1) × (p.event ≡ false)

-- the values that were told are within the bounds
pub record AreBounded (n : List ℕ) (t s d : ℕ) (e : Bool) (x : Option (List ℕ)) (k m : ℕ) (es : List Entry) : Type 0 where
  pub name : is_name n ≡ true
  pub utf8 : IsUtf8 n
  pub some_target : 0 < t
  pub target : t ≤ 3600
  pub sequence : s < 2 ^ 33
  pub discontinuity_sequence : d < 2 ^ 33
  pub event : e ≡ true → (s ≡ 0) × (d ≡ 0)
  pub salt : IsSalt x
  pub key : k < 4096
  pub lasts : 0 < m
  pub short : (m + 500_000) / 1_000_000 ≤ t
  pub entries : AreListed t s es

abbrev pub IsBounded : Progress → Type 0
IsBounded p = AreBounded (name_of p) p.target p.sequence p.discontinuity_sequence p.event p.salt p.key p.micros p.entries

-- what holds of a reading at each line
pub record IsSound (p : Progress) : Type 0 where
  pub bounded : IsBounded p
  pub stands : IsAt p.stage p
