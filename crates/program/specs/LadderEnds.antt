-- How a ladder ends that wasn't packed to its end.
use Rattle.std.specs.Prelude.{◌≡◌, ◌⊎◌, ℕ, Err, List, None, Option, Result, Some}
use Rattle.std.specs.Io.KnownBytes.{Keeps}
use Rattle.ladder_items.specs.Ladder.{Ladder}
use Rattle.ladder_items.specs.declared.report.Report.{Report}
use Rattle.ladder_items.specs.declared.fault.PackFault.{PackFault}
use Rattle.packing.specs.LadderPacking.{BeginsSummary, IsHeard, IsNeverHeld}
use Rattle.commands.specs.declared.packing_fault.LadderPackingFault.{LadderPackingFault}
use Rattle.commands.specs.declared.packing_fault.LadderPackingFault.TheVariants as packing
use Rattle.command_line.specs.declared.fault.Fault.{Fault}
use Rattle.command_line.specs.declared.fault.Fault.TheVariants.{LadderPacking, NoMemory, Unopened}
use Rattle.read_ahead.specs.declared.starting.InputFault.{InputFault}
use Rattle.program.specs.Faulted.{last_fault}

-- what a writer got of the summary: a prefix of it where it couldn't be written, else nothing
abbrev pub LacksSummary : Ladder → Option (List ℕ) → Option (List ℕ) → LadderPackingFault → Type 0
LacksSummary ladder held held_then (packing.Packing fault) = Keeps held held_then
LacksSummary ladder held held_then packing.Unwritten = (report : Report) × BeginsSummary ladder report held held_then
LacksSummary ladder held held_then packing.NoMemory = Keeps held held_then

-- why nothing was begun: there was no memory, or a stream can't be opened
abbrev pub IsUnbegun : Fault → Type 0
IsUnbegun fault = (fault ≡ NoMemory) ⊎ ((why : InputFault) × (fault ≡ Unopened why))

-- A ladder ends by a fault of its run.
abbrev pub FailsLadder : Ladder → Option (List ℕ) → Option (List ℕ) → Fault → Type 0
FailsLadder ladder held held_then fault =
    (why : LadderPackingFault) × (fault ≡ LadderPacking why) × IsNeverHeld why × LacksSummary ladder held held_then why

-- A ladder ends by a fault of its run. Where a rendition stopped by it, it was told by then.
abbrev pub HearsOf : (PackFault → Type 0) → Fault → Type 0
HearsOf was_told fault = (why : LadderPackingFault) × (fault ≡ LadderPacking why) × IsHeard was_told why

-- the fault of the packager by which a ladder ended, if it ended by one
abbrev pub ended_by : {V : Type 0} → Result V Fault → Option PackFault
ended_by (Err (LadderPacking why)) = last_fault (Some why)
ended_by _ = None
