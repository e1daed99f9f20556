-- What is left where the giving of segments was stopped.
use Rattle.std.specs.Prelude.{◌≡◌, ◌⊎◌, ℕ, true, List, ◌∷◌, ◌++◌, get_or}
use Rattle.std.proofs.Math.ListN.{set}
use Rattle.cutter.specs.Plans.{SegmentPlan}
use Rattle.item_io.specs.Items.{ItemValue}
use Rattle.item_io.specs.Outlets.{Grows}
use Rattle.item_io.specs.Views.{OutletView}
use Rattle.ladder_items.specs.Ladder.{Ladder}
use Rattle.ladder_items.specs.Shown.{Shown}
use Rattle.ladder_items.specs.Items.{Part, shown_all}
use Rattle.ladder_items.specs.Weave.{Row, after, after_all, block, blocks}
use Rattle.ladder_items.specs.Giving.{rows, no_shown}
use Rattle.ladder_items.specs.Putting.{PutAll}

-- playlists that take no more rows
abbrev pub ended_shown : Shown → Shown
ended_shown shown = record shown { ended = true }

-- The row of a segment of rendition r wasn't taken: all playlists are as they were, or those of r alone have ended.
abbrev pub TakesNoRow : ℕ → List Shown → List Shown → Type 0
TakesNoRow r old new = (new ≡ old) ⊎ (new ≡ set old r (ended_shown (get_or old r no_shown)))

-- These items were put whole, and of the next ones a prefix, but not all.
pub record PutPart {Y : Type 0} (out : OutletView Y) (old new : Y) (whole next : List ItemValue) : Type 0 where
  pub front : List ItemValue
  pub item : ItemValue
  pub rest : List ItemValue
  pub split : next ≡ front ++ item ∷ rest
  pub grows : Grows (out.holds old) (out.holds new) (whole ++ front)

-- What is left where a segment of rendition r wasn't given, behind items that were put: its row wasn't taken, and no more was put;
-- or it was taken, and its block was put in part.
abbrev pub LeavesRow : {Y : Type 0} → OutletView Y → Y → Y → List ItemValue → Ladder → ℕ → List Part → SegmentPlan → List Shown → Type 0
LeavesRow out old new whole ladder r parts plan shown =
    (PutAll out old new whole × TakesNoRow r (shown_all ladder parts) shown)
    ⊎ (PutPart out old new whole (block ladder parts (Row r plan)) × (shown ≡ shown_all ladder (after parts (Row r plan))))

-- What is left where the segments of some plans of rendition r weren't all given: the first ones were given, and the next one wasn't.
pub record LeavesRows {Y : Type 0} (out : OutletView Y) (old new : Y) (ladder : Ladder) (r : ℕ) (parts : List Part) (plans : List SegmentPlan) (shown : List Shown) : Type 0 where
  pub given : List SegmentPlan
  pub plan : SegmentPlan
  pub rest : List SegmentPlan
  pub split : plans ≡ given ++ plan ∷ rest
  pub left : LeavesRow out old new (blocks ladder parts (rows r given)) ladder r (after_all parts (rows r given)) plan shown
