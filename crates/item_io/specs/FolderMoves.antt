-- What a folder outlet does to its folder.
use Rattle.std.specs.Prelude.{◌≡◌, ℕ, Bool, true, false, List, [], ◌∷◌, ◌++◌, map}
use Rattle.folder.specs.Moves.{Move, Rename, Sync}
use Rattle.folder.specs.Puts.{Names, Put, put_names, staged_after, writing}
use Rattle.folder.specs.Syncing.{moves_when, placings_when}
use Rattle.folder.specs.Prefixes.{IsFailedPut}
use Rattle.item_io.specs.Items.{ItemValue, SegmentItem, MediaItem, FramesItem, MasterItem, segment_with}
use Rattle.item_io.specs.Outlets.{Held}
use Rattle.item_io.specs.FileNames.{file_name, part_name, item_bytes}

-- The last item of a block: an I-frame playlist, behind the segment and the media playlist that it goes with, or a master playlist.
abbrev pub ends_block : ItemValue → Bool
ends_block (SegmentItem s) = false
ends_block (MediaItem p) = false
ends_block (FramesItem p) = true
ends_block (MasterItem text) = true

-- an item as a file
abbrev pub put_of : ItemValue → Put
put_of item = record { name = file_name item; part = part_name item; bytes = item_bytes item; ends = ends_block item }

-- a segment as a file
abbrev pub segment_put : ℕ → List ℕ → List ℕ → Put
segment_put number name bytes = put_of (segment_with 0 number name bytes)

abbrev pub puts_of : List ItemValue → List Put
puts_of items = map put_of items

-- from its part name to its name
abbrev pub renaming : Names → Move
renaming n = Rename n.0 n.1

-- the folder is synced, where it should be
abbrev pub syncing : Bool → List Move
syncing true = Sync ∷ []
syncing false = []

-- each of these is renamed, and the folder synced before the next one is, where it should be
abbrev pub renaming_each : Bool → List Names → List Move
renaming_each syncs [] = []
renaming_each syncs (n ∷ names) = renaming n ∷ (syncing syncs ++ renaming_each syncs names)

-- a block is renamed; where it is synced, behind a sync
abbrev pub renaming_block : Bool → List Names → List Move
renaming_block syncs names = syncing syncs ++ renaming_each syncs names

-- the files that are staged, and this one: all are renamed where it is the last of its block, and none before
abbrev pub renamings : Bool → Bool → List Names → Names → List Move
renamings syncs true staged n = renaming_block syncs (staged ++ n ∷ [])
renamings syncs false staged n = []

abbrev pub names_with : Bool → List Names → Names → List Names
names_with true staged n = []
names_with false staged n = staged ++ n ∷ []

-- the moves made, and those of one more file
abbrev pub moves_with : Bool → List Move → List Names → Put → List Move
moves_with syncs made staged p = made ++ writing p ∷ renamings syncs p.ends staged (put_names p)

-- the files that are staged behind it
abbrev pub staged_behind : List Names → Put → List Names
staged_behind staged p = names_with p.ends staged (put_names p)

-- some of the moves of one more file were made
abbrev pub IsBegunPut : Bool → List Move → List Move → List Names → Put → Type 0
IsBegunPut syncs made made_then staged p =
    (more : List Move) × (made_then ≡ made ++ more) × IsFailedPut (renamings syncs p.ends staged (put_names p)) p more

-- some of these moves were made
abbrev pub IsBegun : List Move → List Move → List Move → Type 0
IsBegun made made_then moves = (front : List Move) × (rest : List Move) × (moves ≡ front ++ rest) × (made_then ≡ made ++ front)

-- a folder outlet, as clauses see it: its folder, whether it is synced, the names of the files that are staged there, and how many
-- puts failed
pub record FolderState (F : Type 0) : Type 0 where
  pub folder : F
  pub syncs : Bool
  pub staged : List Names
  pub failures : ℕ

-- an outlet that was given no item yet
abbrev pub new_outlet : {F : Type 0} → Bool → F → FolderState F
new_outlet syncs folder = record { folder = folder; syncs = syncs; staged = []; failures = 0 }

-- what an outlet of a folder holds before the first item: whether the folder is synced
abbrev pub sync_mark : Bool → List ℕ
sync_mark true = 1 ∷ []
sync_mark false = []

-- The folder's moves are those of the items held; where a put failed, some of those of one more item besides.
pub record HoldsFiles (syncs : Bool) (made : List Move) (staged : List Names) (failures : ℕ) (held : Held) : Type 0 where
  pub marked : held.before ≡ sync_mark syncs
  pub next : Put
  pub more : List Move
  pub made_are : made ≡ moves_when syncs (puts_of held.items) ++ more
  pub stopped : IsFailedPut (placings_when syncs next.ends (staged_after [] (puts_of held.items)) next) next more
  pub none : failures ≡ 0 → more ≡ []
  pub staged_are : failures ≡ 0 → staged ≡ map put_names (staged_after [] (puts_of held.items))

-- The folder's moves are those of the items held, and some of those of the item that was refused.
pub record HoldsFilesUpTo (syncs : Bool) (made : List Move) (held : Held) (item : ItemValue) : Type 0 where
  pub marked : held.before ≡ sync_mark syncs
  pub more : List Move
  pub made_are : made ≡ moves_when syncs (puts_of held.items) ++ more
  pub stopped : IsFailedPut (placings_when syncs (ends_block item) (staged_after [] (puts_of held.items)) (put_of item)) (put_of item) more
