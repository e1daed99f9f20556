-- Behind which items segments went.
use Rattle.std.specs.Prelude.{◌≡◌, ℕ, ◌++◌, Bool, List, [], length}
use Rattle.std.specs.List.{Contains}
use Rattle.folder.specs.Puts.{staged_after}
use Rattle.folder.specs.Syncing.{moves_when}
use Rattle.item_io.specs.Items.{ItemValue}
use Rattle.item_io.specs.FolderMoves.{puts_of}
use Rattle.keeping.specs.Keepings.{AllBeginBehind, IsGone, IsUnlisted, KeepingValue, keeping_at}

-- A segment of this name went behind so many other moves: those of the first items, which were all in place then. The last media
-- playlist of its rendition among them doesn't list it, and neither does any behind them.
pub record IsAfter (syncs : Bool) (renditions : List KeepingValue) (items : List ItemValue) (count : ℕ) (name : List ℕ) : Type 0 where
  pub went : IsGone renditions name
  pub put : List ItemValue
  pub rest : List ItemValue
  pub all : items ≡ put ++ rest
  pub count_is : count ≡ length (moves_when syncs (puts_of put))
  pub whole : staged_after [] (puts_of put) ≡ []
  pub unlisted : IsUnlisted (keeping_at renditions went.r).name went.number put
  pub later : AllBeginBehind (keeping_at renditions went.r).name went.number rest

abbrev pub AreInTurn : Bool → List (ℕ × List ℕ) → List KeepingValue → List ItemValue → Type 0
AreInTurn syncs pruned renditions items = (count : ℕ) (name : List ℕ) → Contains pruned (count, name) → IsAfter syncs renditions items count name
