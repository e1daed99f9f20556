-- The counts of segments in a list of snapshots.
use Rattle.std.specs.Prelude.{◌≡◌, ◌≢◌, ◌⊎◌, ℕ, ◌<◌, ◌≤◌, ◌++◌, List, [], ◌∷◌, length, slice_index, slice_index_or, Option, Some, None}
use Rattle.live_board.specs.Snapshots.{SnapshotFacts}

-- the last snapshot
abbrev pub last_of : List SnapshotFacts → Option SnapshotFacts
last_of [] = None
last_of (x ∷ []) = Some x
last_of (x ∷ y ∷ ys) = last_of (y ∷ ys)

-- the counts of the last snapshot, none where there is none
abbrev pub counts_shown : List SnapshotFacts → List ℕ
counts_shown [] = []
counts_shown (x ∷ []) = x.counts
counts_shown (x ∷ y ∷ ys) = counts_shown (y ∷ ys)

-- there are as many renditions, and no count falls
abbrev pub NoneFalls : List ℕ → List ℕ → Type 0
NoneFalls old new = (length old ≡ length new) × ((r : ℕ) → r < length old → slice_index old r ≤ slice_index new r)

-- no count falls from one snapshot to the next
abbrev pub NeverFalls : List SnapshotFacts → Type 0
NeverFalls [] = Unit {0}
NeverFalls (s ∷ []) = Unit {0}
NeverFalls (s ∷ t ∷ ts) = NoneFalls s.counts t.counts × NeverFalls (t ∷ ts)

-- the snapshot may come next: where no count fell before, none falls to it
abbrev pub MayFollow : List SnapshotFacts → SnapshotFacts → Type 0
MayFollow list s = NeverFalls list → NeverFalls (list ++ s ∷ [])

-- The least rendition whose count falls; or, where none falls and the numbers of renditions differ, the smaller of these. With the old count there, 0 where there is none.
pub record IsBackwards (old new : List ℕ) (rendition shown : ℕ) : Type 0 where
  pub count : shown ≡ slice_index_or old rendition 0
  pub least : (r : ℕ) → r < rendition → slice_index old r ≤ slice_index new r
  pub inside : (rendition ≤ length old) × (rendition ≤ length new)
  pub breaks : ((rendition < length old) × (rendition < length new) × (slice_index new rendition < slice_index old rendition))
      ⊎ ((length old ≢ length new) × ((rendition ≡ length old) ⊎ (rendition ≡ length new)))
