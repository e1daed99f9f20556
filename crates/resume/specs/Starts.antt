-- Where the I-frames of each segment begin among those of all.
use Rattle.std.specs.Prelude.{ℕ, ◌+◌, List, [], ◌∷◌, length}
use Rattle.media_playlist.specs.Rows.{SegmentRow}

abbrev pub starts_from : ℕ → List SegmentRow → List ℕ
starts_from n [] = []
starts_from n (row ∷ rows) = n ∷ starts_from (n + length row.frames) rows
