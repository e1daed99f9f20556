-- What a run of `pack` leaves of the folder that it puts its items into.
use Rattle.std.specs.Prelude.{◌≡◌, ℕ, Bool, true, List, [], Option}
use Rattle.folder.specs.Moves.{Move}
use Rattle.item_io.specs.Items.{ItemValue}
use Rattle.item_io.specs.Views.{OutletView, SourceView, outlet_view}
use Rattle.item_io.specs.FolderMoves.{FolderState, HoldsFiles, HoldsFilesUpTo, new_outlet}
use Rattle.item_io.specs.Leaving.{EachKillLeaves, EachLossOfPowerLeaves, LeaveAll, LeaveAllOnDisk}
use Rattle.ingest.specs.declared.lane.Stop.{Stop}
use Rattle.ladder_items.specs.declared.report.Report.{Report}
use Rattle.ladder_items.specs.Ladder.{IsAllowed, Ladder}
use Rattle.ladder_items.specs.Items.{Part}
use Rattle.ladder_items.specs.Weave.{Weaves}
use Rattle.ladder_items.specs.Runs.{Run, run_of}
use Rattle.ladder_items.specs.Faults.{Sayings, Says}
use Rattle.ladder_items.specs.Packed.{HasHalted, IsCutShort, IsPacked}
use Rattle.ladder_laws.specs.Playable.{StaysPlayable, StaysPlayableBehind}
use Rattle.ladder_laws.specs.Playlists.{HasNoEarlier}
use Rattle.packing.specs.declared.destination.Destination.{Destination}
use Rattle.commands.specs.declared.packing_fault.LadderPackingFault.{LadderPackingFault}
use Rattle.commands.specs.declared.packing_fault.LadderPackingFault.TheVariants.{Packing, Unwritten, NoMemory}

-- an outlet of a folder, as a run sees it
abbrev pub folder_view : {F : Type 0} → (F → List Move) → OutletView (FolderState F)
folder_view made = outlet_view (λ o. HoldsFiles o.syncs (made o.folder) o.staged o.failures) (λ o. HoldsFilesUpTo o.syncs (made o.folder)) (λ o. o.failures)

-- a run whose outlet was given no item before, and puts its items into a folder
abbrev pub folder_run : {X F : Type 0} → SourceView X → (F → List Move) → ℕ → List X → List X → Destination F → FolderState F → Run X (FolderState F)
folder_run input made most before now into outlet_now = run_of input (folder_view made) most before now (new_outlet into.syncs into.folder) outlet_now

-- Whatever stood in the folder before these moves, a kill at any moment of them leaves a prefix of a weave of the renditions; and
-- where the folder is synced, so does a loss of power.
pub record LeavesPrefix (ladder : Ladder) (syncs : Bool) (made : List Move) : Type 0 where
  pub parts : List Part
  pub items : List ItemValue
  pub weave : Weaves ladder parts items
  pub killed : EachKillLeaves made items
  pub lost : syncs ≡ true → EachLossOfPowerLeaves made items

-- So it does, and what it leaves can be played: each file that a playlist in place lists is in place too, whole. So it is where no
-- rendition lists rows of earlier runs, and in a folder in which those runs left what they put.
pub record LeavesPlayable (ladder : Ladder) (syncs : Bool) (made : List Move) : Type 0 where
  pub leaves : LeavesPrefix ladder syncs made
  pub playable : HasNoEarlier ladder → StaysPlayable made leaves.items
  pub behind : StaysPlayableBehind ladder made leaves.items

-- what is left of all items, which are in the folder
pub record AreAllThere (syncs : Bool) (made : List Move) (items : List ItemValue) : Type 0 where
  pub killed : EachKillLeaves made items
  pub there : LeaveAll made items
  pub lost : syncs ≡ true → EachLossOfPowerLeaves made items
  pub on_disk : syncs ≡ true → LeaveAllOnDisk made items

-- The run ended well, and all of its items are in the folder.
pub record IsPackedInto {X Y : Type 0} (run : Run X Y) (ladder : Ladder) (syncs : Bool) (made : List Move) (report : Report) : Type 0 where
  pub allowed : IsAllowed ladder
  pub packed : IsPacked run ladder report
  pub there : AreAllThere syncs made packed.items

-- Each rendition went to its end, rendition r to this one, and all that they gave is in the folder.
pub record IsHaltedInto {X Y : Type 0} (run : Run X Y) (ladder : Ladder) (syncs : Bool) (made : List Move) (r : ℕ) (stop : Option Stop) : Type 0 where
  pub halted : HasHalted run ladder r stop
  pub there : AreAllThere syncs made halted.items

-- The run was stopped, and a kill at any moment leaves a prefix of its items; where the folder is synced, so does a loss of power.
pub record IsCutShortInto {X Y : Type 0} (run : Run X Y) (ladder : Ladder) (syncs : Bool) (made : List Move) : Type 0 where
  pub cut : IsCutShort run ladder
  pub killed : EachKillLeaves made cut.items
  pub lost : syncs ≡ true → EachLossOfPowerLeaves made cut.items

-- what each fault says of the folder: where the settings are refused nothing was done to it
abbrev pub of_folder : {X Y : Type 0} → Run X Y → Ladder → Bool → List Move → Sayings
of_folder run ladder syncs made = record {
  refused = made ≡ [];
  halted = λ r stop. IsHaltedInto run ladder syncs made r stop;
  unput = IsCutShortInto run ladder syncs made;
  wanting = IsCutShortInto run ladder syncs made;
  held = λ r n. IsCutShortInto run ladder syncs made;
}

-- where only the summary failed, all is in the folder
abbrev pub FolderSays : {X Y : Type 0} → Run X Y → Ladder → Bool → List Move → LadderPackingFault → Type 0
FolderSays run ladder syncs made (Packing fault) = Says (of_folder run ladder syncs made) fault
FolderSays run ladder syncs made Unwritten = (report : Report) × IsPackedInto run ladder syncs made report
FolderSays run ladder syncs made NoMemory = (report : Report) × IsPackedInto run ladder syncs made report
