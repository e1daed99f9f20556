-- The history of a board.
use Rattle.std.specs.Prelude.{ℕ, ◌≡◌, ◌==◌, true, List, [], ◌∷◌, ◌++◌, length, MatchBool}
use Rattle.logbook.specs.Pages.{Cell, Step, View, Book, Named}
use Rattle.live_board.specs.Snapshots.{SnapshotFacts}

-- the first word is the length of the history; the second stays 0
pub record IsKept (cells : List Cell) (log : List SnapshotFacts) : Type 0 where
  pub words : cells ≡ (length log, true) ∷ (0, true) ∷ []

-- the first word of this board's history
abbrev pub head_of : Book → Named
head_of b = record { tracked = true; key = 0; book = b }

-- the snapshot was added to all that had been seen, or the history was longer than that
abbrev pub Adds : Step SnapshotFacts → View SnapshotFacts ℕ → ℕ → View SnapshotFacts ℕ → Type 0
Adds s v found w = MatchBool (found == s.old) (w.0 ≡ v.0 ++ s.ask ∷ []) (length w.0 ≡ found)
