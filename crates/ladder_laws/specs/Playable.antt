-- Folders in which all that a playlist lists is in place.
use Rattle.std.specs.Prelude.{◌≡◌, ℕ, true, false, Some, None, List, ◌++◌}
use Rattle.folder.specs.Moves.{Files, Move, Shows, is_hidden, no_files}
use Rattle.folder.specs.Kills.{KillMayLeave}
use Rattle.folder.specs.Puts.{Put, after_puts}
use Rattle.folder.specs.Playing.{AreListedInTurn, IsAmong, IsPlayablePrefix}
use Rattle.item_io.specs.Items.{ItemValue}
use Rattle.item_io.specs.FolderMoves.{puts_of}
use Rattle.ladder_items.specs.Ladder.{Ladder}
use Rattle.ladder_laws.specs.Playlists.{HasEarlierFiles, lists_file}

-- no file of these names stands there
abbrev pub HasNoneOf : Files → List Put → Type 0
HasNoneOf files puts = (p : Put) → IsAmong p puts → files p.name ≡ None

-- Of the files that stand under the names of these puts, each has bytes that were put, those of some prefix of the puts; and each
-- file that one of them lists stands there too, with bytes that were put.
pub record HasPlayablePrefix (puts : List Put) (left : Files) : Type 0 where
  pub given : List Put
  pub rest : List Put
  pub all : puts ≡ given ++ rest
  pub put : (p : Put) (bytes : List ℕ) → IsAmong p puts → left p.name ≡ Some bytes → (s : Put) × IsAmong s given × (s.name ≡ p.name) × (s.bytes ≡ bytes)
  pub listed : (p : Put) (bytes other : List ℕ) → IsAmong p puts → left p.name ≡ Some bytes → lists_file p.name bytes other ≡ true →
      (s : Put) × IsAmong s given × (s.name ≡ other) × (left other ≡ Some s.bytes)

-- What a kill at any moment of these moves leaves can be played: each file that a playlist in place lists is in place too,
-- whole, with bytes of these items. In a folder that was empty nothing else is served. Where other files stood there, none of
-- them under a name of the items, it is so of the items' playlists.
pub record StaysPlayable (made : List Move) (items : List ItemValue) : Type 0 where
  pub alone : (left : Files) → KillMayLeave no_files made left → IsPlayablePrefix lists_file (puts_of items) left
  pub beside : (files left : Files) → HasNoneOf files (puts_of items) → KillMayLeave files made left → HasPlayablePrefix (puts_of items) left

-- A folder in which earlier runs left what they put, and nothing else is served: each file behind those that it lists, and among
-- them all that the rows of this ladder list.
pub record StandsBehind (ladder : Ladder) (earlier : List Put) (files : Files) : Type 0 where
  pub has : HasEarlierFiles ladder earlier
  pub in_turn : AreListedInTurn lists_file earlier
  pub served : (p : Put) → IsAmong p earlier → is_hidden p.name ≡ false
  pub shows : Shows files (after_puts no_files earlier)

-- In such a folder, what a kill at any moment of these moves leaves can be played: each file that a playlist in place lists is in
-- place too, whole, with bytes that one of the runs put.
abbrev pub StaysPlayableBehind : Ladder → List Move → List ItemValue → Type 0
StaysPlayableBehind ladder made items = (earlier : List Put) (files left : Files) → StandsBehind ladder earlier files → KillMayLeave files made left →
    IsPlayablePrefix lists_file (earlier ++ puts_of items) left
