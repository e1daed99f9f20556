-- What one look at a folder finds of a ladder.
use Rattle.std.specs.Prelude.{◌≡◌, ℕ, ◌^◌, Bool, true, Any, ◌||◌, ◌++◌, codes, List, [], map, filter, filter_map, is_some, slice_index_or}
use Rattle.std.specs.Fmt.{decimal}
use Rattle.std.specs.List.{list_any}
use Rattle.std.specs.Str.{bytes_eq}
use Rattle.playlist_text.specs.Uris.{master_uri}
use Rattle.media_reading.specs.State.{number_in}
use Rattle.channel_folder.specs.Files.{part_of, UnfinishedNames, unfinished_names, segment_in}

-- for each rendition the numbers of its segments' files, and the names of unfinished files
pub record ScanValue : Type 0 where
  pub numbers : List (List ℕ)
  pub unfinished : List (List ℕ)

-- the numbers of the segments of a rendition whose files are among these, in their order
abbrev pub numbers_in : List (List ℕ) → List ℕ → List ℕ
numbers_in files name = filter_map (segment_in name) files

-- an unfinished file of a rendition: a playlist, or a segment
abbrev pub is_unfinished_by : List ℕ → UnfinishedNames → Bool
is_unfinished_by file p =
    bytes_eq file p.media || bytes_eq file p.frames || is_some (number_in (λ n. p.segment ++ decimal n ++ codes ".ts.part") (2 ^ 64) file)

-- an unfinished file of a ladder: of a rendition or the master playlist
abbrev pub is_unfinished : List (List ℕ) → List ℕ → Bool
is_unfinished names file = bytes_eq file (part_of master_uri) || list_any (is_unfinished_by file) (map unfinished_names names)

-- what is found of the renditions of these names among these files
abbrev pub scan_of : List (List ℕ) → List (List ℕ) → ScanValue
scan_of names files = record { numbers = map (numbers_in files) names; unfinished = filter (is_unfinished names) files }

-- the numbers of rendition r
abbrev pub numbers_at : ScanValue → ℕ → List ℕ
numbers_at scan r = slice_index_or scan.numbers r []

-- this was found among files that may be those of the folder
pub record IsScan (Lists : List (List ℕ) → Type 0) (names : List (List ℕ)) (scan : ScanValue) : Type 0 where
  pub files : List (List ℕ)
  pub listed : Lists files
  pub found : scan ≡ scan_of names files

-- one of the files that may be those of the folder is an unfinished one
pub record MayHoldUnfinished (Lists : List (List ℕ) → Type 0) (names : List (List ℕ)) : Type 0 where
  pub files : List (List ℕ)
  pub listed : Lists files
  pub some : Any (λ file. is_unfinished names file ≡ true) files
