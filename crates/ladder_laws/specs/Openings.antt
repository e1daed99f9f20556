-- How a player opens a segment: by what the media playlist right behind it lists.
use Rattle.std.specs.Prelude.{◌≡◌, ℕ, ◌+◌, ◌<◌, Bool, false, nat_eq, codes, All, List, [], ◌∷◌, ◌++◌, length, slice_index_or, Option, Some, slice_get}
use Rattle.std.specs.List.{starts_with}
use Rattle.ghost_list.specs.Lists.{IsBeginning}
use Rattle.playlist_text.specs.Uris.{segment_uri}
use Rattle.ghost_list.specs.Bytes.{AreBytes}
use Rattle.cutter.specs.Plans.{SegmentPlan}
use Rattle.playlist_text.specs.Vectors.{salted_vector}
use Rattle.segment_job.specs.Rotation.{KeyRotation, number_of}
use Rattle.segment_job.specs.Segments.{OpensTo}
use Rattle.playlist_text.specs.Lines.{text_of}
use Rattle.playlist_text.specs.MediaLines.{Entry, Listing, key_line_under, duration_line, listing_lines}
use Rattle.item_io.specs.Items.{ItemValue, SegmentValue, PlaylistValue, MediaItem}
use Rattle.ladder_items.specs.Ladder.{Ladder, rendition_at}
use Rattle.ingest.specs.Streams.{plans_of}
use Rattle.ladder_items.specs.Items.{Part, part_at}

-- the inputs gave bytes, and the plans that each rendition has given begin those of its input
pub record AreOfStreams (ladder : Ladder) (parts : List Part) (streams : ℕ → List ℕ) : Type 0 where
  pub bytes : (r : ℕ) → r < length parts → AreBytes (streams r)
  pub plans : (r : ℕ) → r < length parts → IsBeginning (part_at parts r).plans (plans_of r ladder.cut (streams r))

-- the line of a key (RFC 8216, 4.3.2.4)
abbrev pub is_key_line : List ℕ → Bool
is_key_line line = starts_with nat_eq line (codes "#EXT-X-KEY:")

-- The key of an index applies to the segment of a number, which these lines have last: the last line of a key among them
-- is that key's, and with a salt it has the segment's vector (RFC 8216, 4.3.2.4).
pub record AppliesLast (name : List ℕ) (salt : Option (List ℕ)) (index number : ℕ) (lines : List (List ℕ)) : Type 0 where
  pub before : List (List ℕ)
  pub between : List (List ℕ)
  pub micros : ℕ
  pub lines_are : lines ≡ before ++ key_line_under name salt number index ∷ (between ++ duration_line micros ∷ segment_uri name number ∷ [])
  pub none : All (λ line. is_key_line line ≡ false) between

-- The media playlist is the text of a listing, of which the last entry is the segment's: it has the segment's number and
-- name. The key of the entry's index applies to it, and its media sequence number is its number, which gives the vector
-- where the key's line has none (RFC 8216, 5.2); with a salt the key's line has the vector of that number. Under this key
-- and vector the segment opens to the plan's head and its body.
pub record IsListed (keys : KeyRotation) (plan : SegmentPlan) (s : SegmentValue) (media : PlaylistValue) : Type 0 where
  pub listing : Listing
  pub earlier : List Entry
  pub entry : Entry
  pub text_is : media.text ≡ text_of (listing_lines listing)
  pub entries_are : listing.entries ≡ earlier ++ entry ∷ []
  pub name_is : listing.name ≡ s.name
  pub number_is : entry.number ≡ s.number
  pub applies : AppliesLast s.name listing.salt entry.key s.number (listing_lines listing)
  pub sequence_is : listing.sequence + length earlier ≡ s.number
  pub opens : OpensTo (slice_index_or keys.keys entry.key []) (salted_vector listing.salt (listing.sequence + length earlier)) s.bytes plan.tables plan.pat_counter plan.pmt_counter plan.body

-- a media playlist that lists the segment of a plan of the stream stands right behind it; its number is that of the plan's
-- place, behind the segments of earlier runs
pub record IsListedBehind (ladder : Ladder) (streams : ℕ → List ℕ) (s : SegmentValue) (behind : List ItemValue) : Type 0 where
  pub plan : SegmentPlan
  pub place : ℕ
  pub plan_is : slice_get (plans_of s.rendition ladder.cut (streams s.rendition)) place ≡ Some plan
  pub number_is : s.number ≡ number_of (rendition_at ladder s.rendition).keys place
  pub media : PlaylistValue
  pub rest : List ItemValue
  pub next : behind ≡ MediaItem media ∷ rest
  pub listed : IsListed (rendition_at ladder s.rendition).keys plan s media
