-- What is left where giving what was due was stopped, and which sources were left.
use Rattle.std.specs.Prelude.{◌≡◌, ◌≢◌, ◌⊎◌, ℕ, true, false, List, [], ◌++◌, Option, None, Some, slice_get}
use Rattle.item_io.specs.Views.{OutletView, SourceView}
use Rattle.ingest.specs.declared.lane.Lane.{Lane}
use Rattle.ingest.specs.declared.lane.Stop.{Stop}
use Rattle.ingest.specs.Lanes.{is_good}
use Rattle.ingest.specs.Streams.{Taken}
use Rattle.ladder_items.specs.Ladder.{Ladder}
use Rattle.ladder_items.specs.Shown.{Shown}
use Rattle.ladder_items.specs.Items.{Part, shown_all}
use Rattle.ladder_items.specs.Weave.{End, after_all, block, blocks}
use Rattle.ladder_items.specs.Giving.{rows}
use Rattle.ladder_items.specs.Leaving.{LeavesRows, PutPart}

-- an intake whose spool was turned out
abbrev pub turned_out : Taken → Taken
turned_out intake = record intake { turned = intake.turned ++ intake.filled; filled = [] }

-- The segments closed in the spool of rendition r weren't all given: it wasn't turned out, and nothing was put; or it was, and the
-- first ones were given.
abbrev pub LeavesClosed : {Y : Type 0} → OutletView Y → Y → Y → Ladder → ℕ → List Part → Taken → Taken → List Shown → List Shown → Type 0
LeavesClosed out old new ladder r parts intake intake_now shown shown_now =
    ((new ≡ old) × (intake_now ≡ intake) × (shown_now ≡ shown))
    ⊎ ((intake_now ≡ turned_out intake) × LeavesRows out old new ladder r parts intake.filled shown_now)

-- All its segments were given, and the last playlists behind them were put in part.
pub record LeavesEnd {Y : Type 0} (out : OutletView Y) (old new : Y) (ladder : Ladder) (r : ℕ) (parts : List Part) (lane lane_now : Lane) (shown_now : List Shown) : Type 0 where
  pub good : is_good lane.stop ≡ true
  pub intake : lane_now.intake ≡ turned_out lane.intake
  pub shown : shown_now ≡ shown_all ladder (after_all parts (rows r lane.intake.filled))
  pub put : PutPart out old new (blocks ladder parts (rows r lane.intake.filled)) (block ladder (after_all parts (rows r lane.intake.filled)) (End r))

-- what was due of it wasn't all given: not all segments were, or the end wasn't
abbrev pub LeavesDue : {Y : Type 0} → OutletView Y → Y → Y → Ladder → ℕ → List Part → Lane → Lane → List Shown → List Shown → Type 0
LeavesDue out old new ladder r parts lane lane_now shown shown_now =
    LeavesClosed out old new ladder r parts lane.intake lane_now.intake shown shown_now
    ⊎ LeavesEnd out old new ladder r parts lane lane_now shown_now

-- A source is left where its rendition stopped. One whose rendition goes on wasn't read yet, or was read since it was left.
abbrev pub IsLeftAtStop : {X : Type 0} → SourceView X → Option Stop → X → X → Type 0
IsLeftAtStop input stop old new = (stop ≢ None → input.is_left new ≡ true) × (stop ≡ None → (new ≡ old) ⊎ (input.is_left new ≡ false))

-- each of these is
abbrev pub AreLeftAtStops : {X : Type 0} → SourceView X → List X → List X → List Lane → Type 0
AreLeftAtStops {X} input before now lanes =
    (k : ℕ) (a b : X) (lane : Lane) → slice_get before k ≡ Some a → slice_get now k ≡ Some b → slice_get lanes k ≡ Some lane → IsLeftAtStop input lane.stop a b
