-- Texts of media playlists, and texts that are none (RFC 8216, 4.3).
use Rattle.std.specs.Prelude.{◌≡◌, ◌≢◌, ⊤, ℕ, ◌+◌, ◌<◌, ◌≤◌, ◌^◌, ◌⊎◌, true, Option, Some, None, List, [], ◌∷◌, ◌++◌, length, take, All}
use Rattle.std.specs.Str.{IsUtf8}
use Rattle.playlist_text.specs.Names.{is_name}
use Rattle.playlist_text.specs.Numbers.{rounded_seconds}
use Rattle.playlist_text.specs.Lines.{text_of}
use Rattle.playlist_text.specs.MediaLines.{Entry, Listing, duration_line, listing_lines}
use Rattle.media_reading.specs.State.{HasEscapes, begins_key, ends_segment}
use Rattle.media_reading.specs.declared.list_fault.ListFault.{ListFault}
use Rattle.media_reading.specs.declared.list_fault.ListFault.TheVariants.{NotProfile, NoMemory}
use Rattle.limits.specs.declared.TheConstants.{MOST_KEYS, MOST_TARGET}

-- an entry may have this number under this target: its number is below 2^33, it lasts some time and rounds to at most
-- the target, and there are at most 4,096 keys
pub record IsListed (target n : ℕ) (entry : Entry) : Type 0 where
  pub number : entry.number ≡ n
  pub below : n < 2 ^ 33
  pub key : entry.key < MOST_KEYS
  pub lasts : 0 < entry.micros
  pub short : rounded_seconds entry.micros ≤ target

-- entries whose numbers rise by one from this one on
abbrev pub AreListed : ℕ → ℕ → List Entry → Type 0
AreListed target number [] = ⊤
AreListed target number (entry ∷ entries) = IsListed target number entry × AreListed target (number + 1) entries

-- a salt has 16 bytes
abbrev pub IsSalt : Option (List ℕ) → Type 0
IsSalt None = ⊤
IsSalt (Some salt) = (length salt ≡ 16) × All (λ b. b < 256) salt

-- a playlist within the bounds; one of an event begins at 0
pub record IsListing (l : Listing) : Type 0 where
  pub name : is_name l.name ≡ true
  pub utf8 : IsUtf8 l.name
  pub some_target : 0 < l.target
  pub target : l.target ≤ MOST_TARGET
  pub discontinuity_sequence : l.discontinuity_sequence < 2 ^ 33
  pub event : l.event ≡ true → (l.sequence ≡ 0) × (l.discontinuity_sequence ≡ 0)
  pub salt : IsSalt l.salt
  pub some : 0 < length l.entries
  pub entries : AreListed l.target l.sequence l.entries

-- its text
abbrev pub listing_text : Listing → List ℕ
listing_text l = text_of (listing_lines l)

-- the lines of some playlist begin with these
pub record AreFirst (lines : List (List ℕ)) : Type 0 where
  pub listing : Listing
  pub sound : IsListing listing
  pub more : List (List ℕ)
  pub begins : listing_lines listing ≡ lines ++ more

-- a line has no LF within
abbrev pub IsLine : List ℕ → Type 0
IsLine line = All (λ b. b ≢ 10) line

-- The lines of a text, each with its LF, and what stands behind the last LF.
pub record Splits (text : List ℕ) (lines : List (List ℕ)) (last : List ℕ) : Type 0 where
  pub whole : text ≡ text_of lines ++ last
  pub lines_end : All IsLine lines
  pub last_is_open : IsLine last

-- Line n, counted from 1, is the first that no playlist goes on with. Behind the last line that is the one that is missing
-- or has no LF: there no playlist ends.
pub record IsFirstWrong (text : List ℕ) (n : ℕ) : Type 0 where
  pub lines : List (List ℕ)
  pub last : List ℕ
  pub splits : Splits text lines last
  pub place : ℕ
  pub is_next : n ≡ place + 1
  pub before : AreFirst (take place lines)
  pub wrong : ((place < length lines) × ¬ AreFirst (take (place + 1) lines))
      ⊎ ((place ≡ length lines) × ((l : Listing) → IsListing l → text ≢ listing_text l))

-- Memory was wanted at a line: the lines before it begin those of some playlist, the head is among them, and it is none of those
-- that are always the same.
pub record MayWantMemory (text : List ℕ) : Type 0 where
  pub lines : List (List ℕ)
  pub last : List ℕ
  pub splits : Splits text lines last
  pub place : ℕ
  pub head : 5 ≤ place
  pub within : place < length lines
  pub before : AreFirst (take place lines)

-- the last of some lines is that of a duration
pub record EndsTimed (lines : List (List ℕ)) : Type 0 where
  pub front : List (List ℕ)
  pub micros : ℕ
  pub is : lines ≡ front ++ duration_line micros ∷ []

-- .. And the line is one of those that are kept: it begins as the line of a key does, and no key can stand before it, or it stands behind
-- that of a duration and ends as the line of a segment does; and either the lines up to it begin those of some playlist too, so that what it tells was to be kept, or it
-- may be the first line of a key, with a name in it that has escapes. No other text wants memory, whatever is wrong in it.
pub record WantsMemory (text : List ℕ) : Type 0 where
  pub before : List (List ℕ)
  pub line : List ℕ
  pub behind : List (List ℕ)
  pub last : List ℕ
  pub splits : Splits text (before ++ line ∷ behind) last
  pub begins : AreFirst before
  pub wants : ((begins_key line ≡ true) × (length before ≤ 7)) ⊎ (EndsTimed before × (ends_segment line ≡ true))
  pub kept : AreFirst (before ++ line ∷ []) ⊎ (HasEscapes line × (length before ≤ 7))

-- why a text isn't read
abbrev pub IsUnread : List ℕ → ListFault → Type 0
IsUnread text (NotProfile n) = IsFirstWrong text n
IsUnread text NoMemory = MayWantMemory text
