-- What a keeping outlet holds.
use Rattle.std.specs.Prelude.{◌≡◌, ℕ, Bool, List}
use Rattle.folder.specs.Moves.{Move}
use Rattle.folder.specs.Puts.{Names}
use Rattle.folder.specs.Pruning.{other_moves, pruned_names, prunings}
use Rattle.item_io.specs.Items.{ItemValue}
use Rattle.item_io.specs.Outlets.{Held}
use Rattle.item_io.specs.FolderMoves.{FolderState, HoldsFiles, HoldsFilesUpTo}
use Rattle.keeping.specs.Keepings.{AreGone, AreTold, AreUnlisted, KeepingValue}
use Rattle.keeping.specs.Turns.{AreInTurn}

-- a keeping outlet, as contracts see it: the outlet of files, its renditions, whether a segment that might go couldn't be removed
-- behind the last item, and the renditions of which that was ever so, in the order in which it happened
pub record KeepingState (F : Type 0) : Type 0 where
  pub files : FolderState F
  pub renditions : List KeepingValue
  pub lags : Bool
  pub missed : List ℕ

-- The folder's moves, but for what was taken away, are those of the items held. What was taken away are segments that might go, by the
-- media playlists held, each at a moment when those that list it had all been replaced; and the last of these lists none of them.
pub record HoldsKept (syncs : Bool) (made : List Move) (staged : List Names) (failures : ℕ) (renditions : List KeepingValue) (held : Held) : Type 0 where
  pub files : HoldsFiles syncs (other_moves made) staged failures held
  pub told : failures ≡ 0 → AreTold renditions held.items
  pub gone : AreGone (pruned_names made) renditions
  pub unlisted : failures ≡ 0 → AreUnlisted renditions held.items
  pub turns : failures ≡ 0 → AreInTurn syncs (prunings made) renditions held.items

-- The same, and some of the moves of the item that was refused.
pub record HoldsKeptUpTo (syncs : Bool) (made : List Move) (renditions : List KeepingValue) (held : Held) (item : ItemValue) : Type 0 where
  pub files : HoldsFilesUpTo syncs (other_moves made) held item
  pub turns : AreInTurn syncs (prunings made) renditions held.items

-- what a keeping outlet holds
abbrev pub KeptBy : {F : Type 0} → (F → List Move) → KeepingState F → Held → Type 0
KeptBy made o = HoldsKept o.files.syncs (made o.files.folder) o.files.staged o.files.failures o.renditions

abbrev pub KeptUpTo : {F : Type 0} → (F → List Move) → KeepingState F → Held → ItemValue → Type 0
KeptUpTo made o = HoldsKeptUpTo o.files.syncs (made o.files.folder) o.renditions
