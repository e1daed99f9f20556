-- What a run leaves of a folder from which old segments go.
use Rattle.std.specs.Prelude.{◌≡◌, ◌<◌, ℕ, Bool, true, false, List, [], length}
use Rattle.std.specs.List.{Contains}
use Rattle.folder.specs.Moves.{Move}
use Rattle.item_io.specs.Items.{ItemValue}
use Rattle.item_io.specs.Views.{OutletView, SourceView, outlet_view}
use Rattle.item_io.specs.FolderMoves.{new_outlet}
use Rattle.ladder_items.specs.Ladder.{Ladder}
use Rattle.ladder_items.specs.Items.{Part}
use Rattle.ladder_items.specs.Weave.{Weaves}
use Rattle.ladder_items.specs.Runs.{Run, run_of}
use Rattle.keeping.specs.Clearing.{IsCleared}
use Rattle.keeping.specs.Keepings.{KeepingValue, keeping_at}
use Rattle.keeping.specs.Holding.{KeepingState, KeptBy, KeptUpTo}
use Rattle.keeping.specs.InPlace.{EachKillLeavesUnlisted, EachLossOfPowerLeavesUnlisted}
use Rattle.packing.specs.declared.destination.Destination.{Destination}

-- an outlet of a folder from which old segments go, as a run sees it
abbrev pub kept_view : {F : Type 0} → (F → List Move) → OutletView (KeepingState F)
kept_view made = outlet_view (KeptBy made) (KeptUpTo made) (λ o. o.files.failures)

-- the outlet before its first item
abbrev pub new_keeping : {F : Type 0} → Destination F → List KeepingValue → KeepingState F
new_keeping into renditions = record { files = new_outlet into.syncs into.folder; renditions = renditions; lags = false; missed = [] }

-- a run of such an outlet
abbrev pub kept_run : {X F : Type 0} → SourceView X → (F → List Move) → ℕ → List X → List X → KeepingState F → KeepingState F → Run X (KeepingState F)
kept_run input made most before now outlet outlet_now = run_of input (kept_view made) most before now outlet outlet_now

-- Whatever stood in the folder before these moves, a kill at any moment of them leaves a prefix of a weave of the renditions, but that
-- segments may be missing which went, and which no playlist in place lists; and where the folder is synced, so does a loss of power.
pub record LeavesKept (ladder : Ladder) (syncs : Bool) (made : List Move) (renditions : List KeepingValue) : Type 0 where
  pub parts : List Part
  pub items : List ItemValue
  pub weave : Weaves ladder parts items
  pub killed : EachKillLeavesUnlisted made items renditions
  pub lost : syncs ≡ true → EachLossOfPowerLeavesUnlisted made items renditions

-- Of each rendition all segments went that may go, but where one couldn't be removed.
abbrev pub AreAllCleared : Ladder → List ℕ → List KeepingValue → Type 0
AreAllCleared ladder missed renditions = (r : ℕ) → r < length ladder.renditions → r < length renditions → ¬ Contains missed r → IsCleared (keeping_at renditions r)
