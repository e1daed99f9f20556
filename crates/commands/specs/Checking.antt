-- A playlist and the segments that it lists, read from files.
use Rattle.std.specs.Prelude.{◌≡◌, ⊤, ℕ, ◌<◌, ◌⊎◌, List, [], ◌∷◌, ◌++◌, Option, map, length, take, get_or, codes}
use Rattle.std.specs.Fmt.{decimal}
use Rattle.std.specs.Io.KnownBytes.{Appends}
use Rattle.std.specs.Option.{unwrap_or}
use Rattle.std.specs.Path.{path_join, path_parent}
use Rattle.std.specs.Str.{IsUtf8}
use Rattle.playlist_text.specs.MediaLines.{Listing}
use Rattle.item_io.specs.FileNames.{segment_file_name}
use Rattle.hls_check.specs.declared.checking.Checked.{Checked}
use Rattle.hls_check.specs.declared.checking.CheckFault.TheVariants.{Text, Segments}
use Rattle.media_reading.specs.declared.list_fault.ListFault.TheVariants.{NoMemory as NoMemoryForText}
use Rattle.media_reading.specs.MediaTexts.{IsListing, listing_text, IsUnread, WantsMemory}
use Rattle.hls_check.specs.declared.fault.UnpackFault.TheVariants.{NoMemory as NoMemoryForSegments}
use Rattle.hls_check.specs.Checks.{AreUnpacked, AreWhole, IsFaulty, WantsBytes}
use Rattle.hls_check.specs.Unpacking.{HasBytes, IsTold, packed}
use Rattle.commands.specs.declared.checking.CheckingFault.{CheckingFault}
use Rattle.commands.specs.declared.checking.CheckingFault.TheVariants.{Unread, Faulty, Unwritten, NoMemory}
use Rattle.item_io.specs.Writing.{WritesBeginning}
use Rattle.commands.specs.Streams.{IsUnwritten}

-- the folder in which a file lies
abbrev pub folder_of : List ℕ → List ℕ
folder_of path = unwrap_or (path_parent path) []

-- the path of a segment of a playlist: in its folder, by its plain name
abbrev pub segment_path : List ℕ → List ℕ → ℕ → List ℕ
segment_path playlist name number = path_join (folder_of playlist) (segment_file_name name number)

-- the paths of the segments that a playlist lists, in its order
abbrev pub segment_paths : List ℕ → Listing → List (List ℕ)
segment_paths playlist listing = map (λ entry. segment_path playlist listing.name entry.number) listing.entries

-- the files at these paths gave these bytes, each its own
abbrev pub AllGive : (List ℕ → List ℕ → Type 0) → List (List ℕ) → List (List ℕ) → Type 0
AllGive gives [] [] = ⊤
AllGive gives (path ∷ paths) (bytes ∷ all) = gives path bytes × AllGive gives paths all
AllGive gives [] (bytes ∷ all) = ⊥
AllGive gives (path ∷ paths) [] = ⊥

-- the file at one of these paths was refused, and those at all paths before it gave their bytes
pub record RefusesOne (gives : List ℕ → List ℕ → Type 0) (refuses : List ℕ → Type 0) (paths : List (List ℕ)) : Type 0 where
  pub place : ℕ
  pub within : place < length paths
  pub segments : List (List ℕ)
  pub before : AllGive gives (take place paths) segments
  pub refused : refuses (get_or paths place [])

-- the file of a playlist gave the text of this listing
pub record GivesListing (gives : List ℕ → List ℕ → Type 0) (playlist text : List ℕ) (listing : Listing) : Type 0 where
  pub given : gives playlist text
  pub sound : IsListing listing
  pub is_text : text ≡ listing_text listing

-- so did it, and the files of its segments, in its folder, gave these bytes
pub record GivesAll (gives : List ℕ → List ℕ → Type 0) (playlist text : List ℕ) (segments : List (List ℕ)) : Type 0 where
  pub listing : Listing
  pub playlist_is : GivesListing gives playlist text listing
  pub given : AllGive gives (segment_paths playlist listing) segments

-- a playlist and its segments were read, and the segments unpack: so many, to so many bytes
pub record ChecksWell (gives : List ℕ → List ℕ → Type 0) (keys : List (List ℕ)) (playlist : List ℕ) (c : Checked) : Type 0 where
  pub text : List ℕ
  pub segments : List (List ℕ)
  pub read : GivesAll gives playlist text segments
  pub whole : AreWhole text segments keys c

-- the files at these paths gave the segments of a playlist, and those unpack: so many, to so many bytes
pub record UnpackWell (gives : List ℕ → List ℕ → Type 0) (keys : List (List ℕ)) (listing : Listing) (paths : List (List ℕ)) (c : Checked) : Type 0 where
  pub segments : List (List ℕ)
  pub given : AllGive gives paths segments
  pub unpacked : AreUnpacked (packed listing.salt listing.entries segments keys) c

-- why the files at these paths don't give the segments of a playlist, or those don't unpack
abbrev pub IsSegmentsFault : (List ℕ → List ℕ → Type 0) → (List ℕ → Type 0) → (List ℕ → Type 0) → List (List ℕ) → Listing → List (List ℕ) → CheckingFault → Type 0
IsSegmentsFault gives refuses wants keys listing paths Unread = RefusesOne gives refuses paths
IsSegmentsFault gives refuses wants keys listing paths (Faulty (Text why)) = ⊥
IsSegmentsFault gives refuses wants keys listing paths (Faulty (Segments why)) =
    (segments : List (List ℕ)) × AllGive gives paths segments × IsTold (packed listing.salt listing.entries segments keys) why
    × (why ≡ NoMemoryForSegments → HasBytes (packed listing.salt listing.entries segments keys))
IsSegmentsFault gives refuses wants keys listing paths Unwritten = ⊥
IsSegmentsFault gives refuses wants keys listing paths NoMemory = RefusesOne gives wants paths

-- the file of a playlist was refused, or gave what isn't UTF-8
abbrev pub IsNoText : (List ℕ → List ℕ → Type 0) → (List ℕ → Type 0) → List ℕ → Type 0
IsNoText gives refuses playlist = refuses playlist ⊎ ((bytes : List ℕ) × gives playlist bytes × ¬ IsUtf8 bytes)

-- it gave a playlist, and the file of one of its segments was refused, and of none before it
pub record LacksSegment (gives : List ℕ → List ℕ → Type 0) (refuses : List ℕ → Type 0) (playlist : List ℕ) : Type 0 where
  pub text : List ℕ
  pub listing : Listing
  pub playlist_is : GivesListing gives playlist text listing
  pub lacks : RefusesOne gives refuses (segment_paths playlist listing)

-- why a playlist wasn't checked to its end, or isn't whole. Its text wants memory only for a line that is kept, and its segments only for one
-- that opens to some bytes.
abbrev pub IsCheckFault : (List ℕ → List ℕ → Type 0) → (List ℕ → Type 0) → (List ℕ → Type 0) → List (List ℕ) → List ℕ → CheckingFault → Type 0
IsCheckFault gives refuses wants keys playlist Unread = IsNoText gives refuses playlist ⊎ LacksSegment gives refuses playlist
IsCheckFault gives refuses wants keys playlist (Faulty (Text why)) =
    (text : List ℕ) × gives playlist text × IsUnread text why × (why ≡ NoMemoryForText → WantsMemory text)
IsCheckFault gives refuses wants keys playlist (Faulty (Segments why)) =
    (text : List ℕ) × (segments : List (List ℕ)) × GivesAll gives playlist text segments × IsFaulty text segments keys (Segments why)
    × (why ≡ NoMemoryForSegments → WantsBytes text segments keys)
IsCheckFault gives refuses wants keys playlist Unwritten = ⊥
IsCheckFault gives refuses wants keys playlist NoMemory = wants playlist ⊎ ((text : List ℕ) × (listing : Listing) × GivesListing gives playlist text listing)

-- what the program prints of a playlist that is whole
abbrev pub checked_line : Checked → List ℕ
checked_line c = codes "ok " ++ decimal c.segments ++ codes " " ++ decimal c.bytes ++ codes "\n"

-- a playlist is whole, and this is the line that says so
pub record TellsWhole (gives : List ℕ → List ℕ → Type 0) (keys : List (List ℕ)) (playlist line : List ℕ) : Type 0 where
  pub checked : Checked
  pub well : ChecksWell gives keys playlist checked
  pub is : line ≡ checked_line checked

-- a playlist is whole, and the writer got the line that says so
pub record WritesChecked (gives : List ℕ → List ℕ → Type 0) (keys : List (List ℕ)) (playlist : List ℕ) (held held_then : Option (List ℕ)) : Type 0 where
  pub checked : Checked
  pub well : ChecksWell gives keys playlist checked
  pub written : Appends held held_then (checked_line checked)

-- it is whole, and the writer got a prefix of that line
pub record BeginsChecked (gives : List ℕ → List ℕ → Type 0) (keys : List (List ℕ)) (playlist : List ℕ) (held held_then : Option (List ℕ)) : Type 0 where
  pub checked : Checked
  pub well : ChecksWell gives keys playlist checked
  pub written : WritesBeginning held held_then (checked_line checked)

-- it is whole, and that line wasn't written
pub record LeavesChecked (Unflushed : Type 0) (gives : List ℕ → List ℕ → Type 0) (keys : List (List ℕ)) (playlist : List ℕ)
    (held held_then : Option (List ℕ)) : Type 0 where
  pub checked : Checked
  pub well : ChecksWell gives keys playlist checked
  pub unwritten : IsUnwritten Unflushed held held_then (checked_line checked)
