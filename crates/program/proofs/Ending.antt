-- How a run ends, well and by a fault.
use Rattle.std.specs.Prelude.{◌≡◌, ℕ, List, Option, Err, IfErr, IfOk, IsErrOf, IsOk, Ok, OnOk, Result}
use Rattle.live_board.specs.Snapshots.{SnapshotFacts}
use Rattle.ladder_items.specs.Ladder.{Ladder}
use Rattle.ladder_items.specs.Runs.{Run}
use Rattle.packing.specs.LadderPacking.{IsNeverHeld, LadderSays}
use Rattle.program.specs.LadderEnds.{FailsLadder, LacksSummary}
use Rattle.commands.specs.declared.packing_fault.LadderPackingFault.TheVariants as packing
use Rattle.commands.specs.declared.packing_fault.LadderPackingFault.{LadderPackingFault}
use Rattle.command_line.specs.declared.fault.Fault.{Fault}
use Rattle.command_line.specs.declared.fault.Fault.TheVariants.{LadderPacking}

-- a run that is told as ended well has a report, of which holds what does of each
pub told-well : {T V : Type 0} (P : T → Type 0) (answer : Result T LadderPackingFault) (result : Result V Fault) → IfErr answer (λ why. IsErrOf result (LadderPacking why)) →
    IfOk answer P → OnOk result ((report : T) × P report)
told-well P (Ok report) (Ok v) faulted is = (report, is)
told-well P (Ok report) (Err fault) faulted is = tt
told-well P (Err why) (Ok v) faulted is = absurd (cc faulted)
told-well P (Err why) (Err fault) faulted is = tt

-- what a run says of its fault says what was written of the summary
pub says-lacks : {X Y : Type 0} (run : Run X Y) (ladder : Ladder) (workers : ℕ) (old new : List SnapshotFacts) (held held_then : Option (List ℕ)) (why : LadderPackingFault) →
    LadderSays run ladder workers old new held held_then why → LacksSummary ladder held held_then why
says-lacks run ladder workers old new held held_then (packing.Packing fault) says = says.1
says-lacks run ladder workers old new held held_then packing.Unwritten says = (says.report, says.begun)
says-lacks run ladder workers old new held held_then packing.NoMemory says = says.unwritten

-- a run that is told as ended by a fault has a reason, of which holds what does of each
pub told-why : {T V : Type 0} (P : LadderPackingFault → Type 0) (answer : Result T LadderPackingFault) (result : Result V Fault) → OnOk answer (IsOk result) →
    IfErr answer (λ why. IsErrOf result (LadderPacking why)) → IfErr answer P → IfErr result (λ fault. (why : LadderPackingFault) × (fault ≡ LadderPacking why) × P why)
told-why P (Ok report) (Ok v) well faulted says = tt
told-why P (Ok report) (Err fault) well faulted says = absurd (cc well)
told-why P (Err why) (Ok v) well faulted says = tt
told-why P (Err why) (Err fault) well faulted says = (why, cc faulted, says)

-- what holds of each run that ends well holds of one that is told so
pub told-on : {T V : Type 0} (P : Type 0) (answer : Result T LadderPackingFault) (result : Result V Fault) → IfErr answer (λ why. IsErrOf result (LadderPacking why)) →
    OnOk answer P → OnOk result P
told-on P (Ok report) (Ok v) faulted is = is
told-on P (Ok report) (Err fault) faulted is = tt
told-on P (Err why) (Ok v) faulted is = absurd (cc faulted)
told-on P (Err why) (Err fault) faulted is = tt

-- what is told of a run that ended by a fault
pub told-fault : {X Y T V : Type 0} (run : Run X Y) (ladder : Ladder) (workers : ℕ) (old new : List SnapshotFacts) (held held_then : Option (List ℕ))
    (answer : Result T LadderPackingFault) (result : Result V Fault) → OnOk answer (IsOk result) → IfErr answer (λ why. IsErrOf result (LadderPacking why)) → IfErr answer IsNeverHeld →
    IfErr answer (LadderSays run ladder workers old new held held_then) → IfErr result (FailsLadder ladder held held_then)
told-fault run ladder workers old new held held_then (Ok report) (Ok v) well faulted never says = tt
told-fault run ladder workers old new held held_then (Ok report) (Err fault) well faulted never says = absurd (cc well)
told-fault run ladder workers old new held held_then (Err why) (Ok v) well faulted never says = tt
told-fault run ladder workers old new held held_then (Err why) (Err fault) well faulted never says =
    (why, cc faulted, never, says-lacks run ladder workers old new held held_then why says)
