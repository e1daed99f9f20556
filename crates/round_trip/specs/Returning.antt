-- What was packed comes back, by its media playlists.
use Rattle.std.specs.Prelude.{◌≡◌, ℕ, ◌+◌, ◌-◌, ◌<◌, List, [], ◌++◌, map, length, take, drop}
use Rattle.std.specs.Str.{IsUtf8}
use Rattle.cutter.specs.Plans.{SegmentPlan}
use Rattle.segment_job.specs.Rotation.{IsRotation, number_of}
use Rattle.playlist_text.specs.MediaLines.{Entry, Listing}
use Rattle.media_playlist.specs.Lines.{entry_of}
use Rattle.item_io.specs.Items.{ItemValue, PlaylistValue, SegmentItem, MediaItem, FramesItem, MasterItem}
use Rattle.item_io.specs.FileNames.{segment_file_name, file_name}
use Rattle.ladder_items.specs.Ladder.{RenditionValue, Ladder, rendition_at}
use Rattle.ingest.specs.Streams.{plans_of}
use Rattle.ladder_laws.specs.Listings.{segments_of}
use Rattle.hls_check.specs.Unpacking.{packed, AllUnpack}
use Rattle.media_reading.specs.MediaTexts.{IsListing, IsSalt, listing_text}

-- a rendition as its type makes it: its name is text, its keys take turns, and its salt has 16 bytes
pub record IsMade (rendition : RenditionValue) : Type 0 where
  pub name : IsUtf8 rendition.name
  pub keys : IsRotation rendition.keys
  pub salt : IsSalt rendition.salt

-- each rendition of a ladder is made so
abbrev pub AreMade : Ladder → Type 0
AreMade ladder = (r : ℕ) → r < length ladder.renditions → IsMade (rendition_at ladder r)

-- the sealed bytes of a segment
abbrev pub sealed_bytes : ItemValue → List ℕ
sealed_bytes (SegmentItem s) = s.bytes
sealed_bytes (MediaItem p) = []
sealed_bytes (FramesItem p) = []
sealed_bytes (MasterItem text) = []

-- the sealed bytes of the segments of rendition r, in order
abbrev pub sealed_of : ℕ → List ItemValue → List (List ℕ)
sealed_of r items = map sealed_bytes (segments_of r items)

-- The media playlist is the text of a listing of its rendition. Of all rows that are known it lists those from a place on: the
-- earlier runs' first, where some are left, and then the run's own. The segments of its own that it lists stand before it: of all
-- those of the rendition the last ones, from the place on whose number follows on those before. Their files have the names
-- that the playlist's entries ask for, and under the rendition's keys they unpack to the bodies of the same plans of the
-- stream.
pub record ComesBack (ladder : Ladder) (streams : ℕ → List ℕ) (front : List ItemValue) (media : PlaylistValue) : Type 0 where
  pub listing : Listing
  pub sound : IsListing listing
  pub text_is : media.text ≡ listing_text listing
  pub name_is : listing.name ≡ media.name
  pub ended_is : listing.ended ≡ media.ended
  pub all_before : length (segments_of media.rendition front) ≡ media.count
  pub skipped : ℕ
  pub earlier : List Entry
  pub own : List Entry
  pub earlier_are : earlier ≡ map entry_of (drop skipped (rendition_at ladder media.rendition).earlier)
  pub entries_are : listing.entries ≡ earlier ++ own
  pub place : ℕ
  pub place_is : place ≡ skipped - length (rendition_at ladder media.rendition).earlier
  pub sequence_is : listing.sequence + length earlier ≡ number_of (rendition_at ladder media.rendition).keys place
  pub names_are : map (λ entry. segment_file_name listing.name entry.number) own ≡ map file_name (drop place (segments_of media.rendition front))
  pub plans : List SegmentPlan
  pub plans_are : plans ≡ drop place (take media.count (plans_of media.rendition ladder.cut (streams media.rendition)))
  pub unpack : AllUnpack (packed listing.salt own (drop place (sealed_of media.rendition front)) (rendition_at ladder media.rendition).keys.keys) (map (λ plan. plan.body) plans)
