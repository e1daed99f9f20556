-- The I-frames that the lines of an I-frame playlist list (RFC 8216, 4.3.2.2 and 4.3.3.6).
use Rattle.std.specs.Prelude.{◌≡◌, ℕ, ◌==◌, ◌&&◌, ◌||◌, ◌^◌, not, Bool, true, false, nat_eq, Option, if◌then◌else◌, List, [], ◌∷◌, ◌++◌, length, drop, unwrap_or, codes, All}
use Rattle.std.specs.Fmt.{decimal}
use Rattle.std.specs.List.{before_first, starts_with}
use Rattle.playlist_text.specs.Lines.{text_of}
use Rattle.playlist_text.specs.MediaLines.{duration_line}
use Rattle.media_playlist.specs.declared.row.FrameRow.{FrameRow}
use Rattle.media_reading.specs.MediaTexts.{IsLine}
use Rattle.media_reading.specs.State.{number_in, sequence_line}

-- the number of the first I-frame, the I-frames so far, where those of each segment begin among them, the duration of the next
-- one, and whether the URI of one comes next
pub record Picks : Type 0 where
  pub first : ℕ
  pub frames : List FrameRow
  pub starts : List ℕ
  pub micros : ℕ
  pub uri_next : Bool

abbrev pub no_picks : Picks
no_picks = record { first = 0; frames = []; starts = []; micros = 0; uri_next = false }

-- numbers that lines tell, below 2^64 - 1
abbrev pub MOST : ℕ
MOST = 0xFFFF_FFFF_FFFF_FFFF

abbrev pub told : Option ℕ → ℕ
told found = unwrap_or found 0

abbrev pub len_in : List ℕ → ℕ
len_in line = told (number_in (λ n. codes "#EXT-X-BYTERANGE:" ++ decimal n) MOST (before_first (λ b. b == 64) line))

abbrev pub offset_in : List ℕ → ℕ
offset_in line = told (number_in (λ n. codes "@" ++ decimal n) MOST (drop (length (before_first (λ b. b == 64) line)) line))

abbrev pub begins : List ℕ → List ℕ → Bool
begins line front = starts_with nat_eq line front

-- a line that adds to what was picked, for which memory may be wanted: one of an I-frame's place or of a key
abbrev pub may_want : Picks → List ℕ → Bool
may_want p line =
    not p.uri_next && not (begins line (codes "#EXTINF:"))
    && (begins line (codes "#EXT-X-BYTERANGE:") || begins line (codes "#EXT-X-KEY:"))

-- one line more
unfoldable pub pick_line : Picks → List ℕ → Picks
pick_line p line =
    if p.uri_next then record p { uri_next = false }
    else if begins line (codes "#EXTINF:") then record p { micros = told (number_in duration_line (2 ^ 64) line) }
    else if begins line (codes "#EXT-X-BYTERANGE:")
    then record p { frames = p.frames ++ record { offset = offset_in line; len = len_in line; micros = p.micros } ∷ []; uri_next = true }
    else if begins line (codes "#EXT-X-KEY:") then record p { starts = p.starts ++ length p.frames ∷ [] }
    else if begins line (codes "#EXT-X-MEDIA-SEQUENCE:") then record p { first = told (number_in sequence_line MOST line) }
    else p

-- all of them
unfoldable pub pick_lines : Picks → List (List ℕ) → Picks
pick_lines p [] = p
pick_lines p (line ∷ lines) = pick_lines (pick_line p line) lines

-- memory was wanted at a line of a text: it adds to what was picked of those before it
pub record MayWantMemory (text : List ℕ) : Type 0 where
  pub before : List (List ℕ)
  pub each : All IsLine before
  pub line : List ℕ
  pub whole_line : IsLine line
  pub behind : List ℕ
  pub whole : text ≡ text_of before ++ (line ++ 10 ∷ behind)
  pub wants : may_want (pick_lines no_picks before) line ≡ true
