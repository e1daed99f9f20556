-- The numbers of a snapshot.
use Rattle.std.specs.Prelude.{◌≡◌, ◌+◌, ◌<◌, List, Some, length}
use Rattle.live_board.specs.Counts.{last_of}
use Rattle.live_board.specs.Snapshots.{SnapshotFacts}
use Rattle.metrics.specs.declared.glance.Glance.{Glance}

-- they are those of this snapshot
pub record IsCopyOf (snapshot : SnapshotFacts) (glance : Glance) : Type 0 where
  pub counts : glance.counts.items ≡ snapshot.counts
  pub ended : glance.ended.items ≡ snapshot.ended
  pub totals : glance.totals.items ≡ snapshot.totals

-- it says something of some rendition
abbrev pub SaysSome : SnapshotFacts → Type 0
SaysSome snapshot = 0 < length snapshot.counts + length snapshot.ended + length snapshot.totals

-- they are those of the last of these snapshots
pub record IsOfTheLast (list : List SnapshotFacts) (glance : Glance) : Type 0 where
  pub snapshot : SnapshotFacts
  pub last : last_of list ≡ Some snapshot
  pub copy : IsCopyOf snapshot glance
