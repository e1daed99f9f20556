use Rattle.std.proofs.Common.{◌≡◌, ◌<◌, ℕ, List, take, map, length}
use Rattle.std.specs.Prelude.{All}
use Rattle.media_playlist.specs.Rows.{SegmentRow}
use Rattle.media_playlist.specs.Lines.{entry_of}
use Rattle.ladder_items.specs.Shown.{AreNextRows}
use Rattle.resume.specs.Restoring.{LiesWithin}
use Rattle.resume.specs.Picked.{picks_of}
use Rattle.resume.specs.Reading.{AreRowsOf, ArePicked, MayBegin}
use Rattle.resume.proofs.reading_back.read_rows.Given as goal

abbrev pub invariant-loop-place : goal.invariant-loop-place
invariant-loop-place l = record {
  count : length l.rows.items ≡ l.place;
  entries : map entry_of l.rows.items ≡ take l.place l.listing.entries;
  sizes : map (λ row. row.size) l.rows.items ≡ take l.place l.sizes;
  follow : AreNextRows l.listing.target l.listing.sequence l.rows.items;
  lie_within : All (λ row. All (LiesWithin row.size) row.frames) l.rows.items;
  begun : 0 < l.place → MayBegin l.listing l.sizes (picks_of l.picked);
  whole : (first : ℕ) (rows : List SegmentRow) → AreRowsOf l.listing l.sizes rows → ArePicked (picks_of l.picked) first rows → l.rows.items ≡ take l.place rows;
}
