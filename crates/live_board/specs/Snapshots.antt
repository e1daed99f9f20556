-- Snapshots of a run, and who knows of them.
use Rattle.std.specs.Prelude.{ℕ, List, Bool}
use Rattle.logbook.specs.Pages.{Book}
use Rattle.live_board.specs.declared.totals.Totals.{Totals}

-- what a snapshot says: the first five by rendition, texts as their bytes
pub record SnapshotFacts : Type 0 where
  pub counts : List ℕ
  pub ended : List Bool
  pub totals : List Totals
  pub media : List (List ℕ)
  pub frames : List (List ℕ)
  pub master : List ℕ

-- the snapshots that someone knows of, the oldest first, and the board that showed them
pub record Known : Type 0 where
  pub list : List SnapshotFacts
  pub board : Book
