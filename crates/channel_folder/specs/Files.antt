-- The files of a rendition in a channel's folder.
use Rattle.std.specs.Prelude.{ℕ, ◌^◌, Option, List, ◌++◌, codes}
use Rattle.std.specs.Fmt.{decimal}
use Rattle.item_io.specs.FileNames.{segment_file_name}
use Rattle.media_reading.specs.State.{number_in}

-- its media playlist
abbrev pub media_file : List ℕ → List ℕ
media_file name = name ++ codes ".m3u8"

-- its I-frame playlist
abbrev pub frames_file : List ℕ → List ℕ
frames_file name = name ++ codes ".iframes.m3u8"

-- the name of a file until it is whole
abbrev pub part_of : List ℕ → List ℕ
part_of file = codes "." ++ file ++ codes ".part"

-- that of a segment
abbrev pub segment_part : List ℕ → ℕ → List ℕ
segment_part name n = codes "." ++ name ++ codes "." ++ decimal n ++ codes ".ts.part"

-- what the names of its unfinished files are made of: the playlists, and the front of a segment
pub record UnfinishedNames : Type 0 where
  pub media : List ℕ
  pub frames : List ℕ
  pub segment : List ℕ

abbrev pub unfinished_names : List ℕ → UnfinishedNames
unfinished_names name = record {
  media = part_of (media_file name);
  frames = part_of (frames_file name);
  segment = codes "." ++ name ++ codes ".";
}

-- the number of the segment whose file this is
abbrev pub segment_in : List ℕ → List ℕ → Option ℕ
segment_in name file = number_in (segment_file_name name) (2 ^ 64) file
