-- How a run of `pack` ends that didn't do its work.
use Rattle.std.specs.Prelude.{ℕ, List, Option, length}
use Rattle.std.specs.Io.KnownBytes.{Appends, Keeps}
use Rattle.item_io.specs.Writing.{WritesBeginning}
use Rattle.live_board.specs.Snapshots.{SnapshotFacts}
use Rattle.live_board.specs.Counts.{counts_shown}
use Rattle.ladder_items.specs.declared.fault.PackFault.{PackFault}
use Rattle.ladder_items.specs.declared.report.Report.{Report}
use Rattle.ladder_items.specs.Ladder.{Ladder}
use Rattle.ladder_items.specs.Runs.{Run}
use Rattle.rounds.specs.Gated.{IsUnheld}
use Rattle.rounds.specs.Heralds.{IsHeardOf}
use Rattle.rounds.specs.Shown.{FaultSaysShown, Fits, IsPackedShown, IsTurnedAway}
use Rattle.packing.specs.Summaries.{IsSummaryOf}
use Rattle.commands.specs.Streams.{IsUnwritten}
use Rattle.commands.specs.declared.packing_fault.LadderPackingFault.{LadderPackingFault}
use Rattle.commands.specs.declared.packing_fault.LadderPackingFault.TheVariants.{Packing, Unwritten, NoMemory}

-- the writer got the summary
pub record WritesSummary (ladder : Ladder) (report : Report) (held held_then : Option (List ℕ)) : Type 0 where
  pub text : List ℕ
  pub is : IsSummaryOf ladder report text
  pub written : Appends held held_then text

-- the writer got a prefix of it
pub record BeginsSummary (ladder : Ladder) (report : Report) (held held_then : Option (List ℕ)) : Type 0 where
  pub text : List ℕ
  pub is : IsSummaryOf ladder report text
  pub begun : WritesBeginning held held_then text

-- it isn't all written: the writer got fewer bytes than it has, or wasn't flushed behind it
pub record LeavesSummary (Unflushed : Type 0) (ladder : Ladder) (report : Report) (held held_then : Option (List ℕ)) : Type 0 where
  pub text : List ℕ
  pub is : IsSummaryOf ladder report text
  pub unwritten : IsUnwritten Unflushed held held_then text

-- all was packed and shown, and the writer got a prefix of the summary
pub record EndsUnwritten {X Y : Type 0} (run : Run X Y) (ladder : Ladder) (workers : ℕ) (old new : List SnapshotFacts) (held held_then : Option (List ℕ)) : Type 0 where
  pub report : Report
  pub packed : IsPackedShown run ladder workers old new report
  pub begun : BeginsSummary ladder report held held_then

-- all was packed and shown, and nothing was written
pub record EndsUntold {X Y : Type 0} (run : Run X Y) (ladder : Ladder) (workers : ℕ) (old new : List SnapshotFacts) (held held_then : Option (List ℕ)) : Type 0 where
  pub report : Report
  pub packed : IsPackedShown run ladder workers old new report
  pub unwritten : Keeps held held_then

-- what each fault says of the run, and of what its writer got
abbrev pub LadderSays : {X Y : Type 0} → Run X Y → Ladder → ℕ → List SnapshotFacts → List SnapshotFacts → Option (List ℕ) → Option (List ℕ) → LadderPackingFault → Type 0
LadderSays run ladder workers old new held held_then (Packing fault) = FaultSaysShown run ladder workers old new fault × Keeps held held_then
LadderSays run ladder workers old new held held_then Unwritten = EndsUnwritten run ladder workers old new held held_then
LadderSays run ladder workers old new held held_then NoMemory = EndsUntold run ladder workers old new held held_then

-- A ladder that doesn't fit is turned away: the run tells so, and no summary is begun.
abbrev pub TurnsAway : {X Y : Type 0} → Run X Y → Ladder → ℕ → List SnapshotFacts → List SnapshotFacts → LadderPackingFault → Type 0
TurnsAway run ladder workers old new (Packing fault) = IsTurnedAway run ladder workers old new fault
TurnsAway run ladder workers old new Unwritten = Fits ladder (length run.before) workers (counts_shown old)
TurnsAway run ladder workers old new NoMemory = Fits ladder (length run.before) workers (counts_shown old)

-- No segment is told as held back: the gate of `pack` lets everything through.
abbrev pub IsNeverHeld : LadderPackingFault → Type 0
IsNeverHeld (Packing fault) = IsUnheld fault
IsNeverHeld Unwritten = Unit {0}
IsNeverHeld NoMemory = Unit {0}

-- A fault by which a rendition stopped was told by then; a summary that isn't written is no such fault.
abbrev pub IsHeard : (PackFault → Type 0) → LadderPackingFault → Type 0
IsHeard was_told (Packing fault) = IsHeardOf was_told fault
IsHeard was_told Unwritten = Unit {0}
IsHeard was_told NoMemory = Unit {0}
