-- What a board shows of a run.
use Rattle.std.specs.Prelude.{ℕ, Bool, List, [], ◌∷◌, map, length}
use Rattle.std.specs.List.{zip}
use Rattle.live_board.specs.Snapshots.{SnapshotFacts}
use Rattle.ladder_items.specs.Ladder.{RenditionValue, Ladder}
use Rattle.live_board.specs.declared.totals.Totals.{Totals}
use Rattle.media_playlist.specs.Listed.{duration}
use Rattle.ladder_items.specs.Shown.{Shown, media_text, frames_text, bytes_of}
use Rattle.ladder_items.specs.Masters.{master_of, peak_shown, average_shown}
use Rattle.ladder_items.specs.Items.{Part, shown_all}
use Rattle.ladder_items.specs.Weave.{Event, after}

-- how many segments each rendition has
abbrev pub counts_of : List Shown → List ℕ
counts_of shown = map (λ (s : Shown). length s.rows) shown

-- what the segments of a rendition are together: the time and the bytes of the run's own, and the rates of all that are known
unfoldable pub totals_of : Shown → Totals
totals_of s = record { micros = duration s.rows; bytes = bytes_of s.rows; peak = peak_shown s; average = average_shown s }

-- the snapshot of what some renditions show, which have ended or not: their counts, their totals, their playlists and the master
-- playlist
unfoldable pub facts_of : List RenditionValue → List Shown → List Bool → SnapshotFacts
facts_of renditions shown ended = record {
  counts = counts_of shown;
  ended = ended;
  totals = map totals_of shown;
  media = map (λ x. media_text x.0 x.1) (zip shown ended);
  frames = map (λ x. frames_text x.0 x.1) (zip shown ended);
  master = master_of renditions shown;
}

-- whether each rendition's end was given
abbrev pub ends_of : List Part → List Bool
ends_of parts = map (λ (part : Part). part.ended) parts

-- the snapshot of what was given
abbrev pub snapshot_of : Ladder → List Part → SnapshotFacts
snapshot_of ladder parts = facts_of ladder.renditions (shown_all ladder parts) (ends_of parts)

-- the snapshots of a run that gives these events: one behind each
unfoldable pub shown_by : Ladder → List Part → List Event → List SnapshotFacts
shown_by ladder parts [] = []
shown_by ladder parts (e ∷ events) = snapshot_of ladder (after parts e) ∷ shown_by ladder (after parts e) events
