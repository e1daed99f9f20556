-- What a loss of power leaves of the folder that a process changes.
use Rattle.std.specs.Prelude.{◌⊎◌, ℕ, ◌++◌, Bool, true, false, Some, None, List, [], ◌∷◌}
use Rattle.folder.specs.Moves.{Files, Move, Write, Rename, Remove, Looked, Sync, with_file, moved, Same}
use Rattle.folder.specs.Puts.{Put, writing, placing, staged_with}

-- a file that was written and not synced may have any bytes, or not be there
abbrev pub IsTorn : List ℕ → Files → Files → Type 0
IsTorn name files left = ((bytes : List ℕ) × Same left (with_file files name (Some bytes))) ⊎ Same left (with_file files name None)

-- What may be on the disk behind a move, where `now` is what processes saw before it, and `disk` what may have been on the disk. Until
-- it is synced a move is done, or not done, or its file is torn; behind a sync the disk has what processes see (POSIX fsync(2)).
abbrev pub disk_behind : Files → (Files → Type 0) → Move → Files → Type 0
disk_behind now disk (Write name bytes) left =
    (d : Files) × disk d × (Same left d ⊎ Same left (moved d (Write name bytes)) ⊎ IsTorn name d left)
disk_behind now disk (Rename old new) left = (d : Files) × disk d × (Same left d ⊎ Same left (moved d (Rename old new)))
disk_behind now disk (Remove name) left = (d : Files) × disk d × (Same left d ⊎ Same left (moved d (Remove name)))
disk_behind now disk (Looked name there) left = disk left
disk_behind now disk Sync left = Same now left

-- What a loss of power at any moment of these moves leaves.
abbrev pub PowerLossMayLeave : Files → (Files → Type 0) → List Move → Files → Type 0
PowerLossMayLeave now disk [] left = disk left
PowerLossMayLeave now disk (m ∷ moves) left = disk left ⊎ PowerLossMayLeave (moved now m) (disk_behind now disk m) moves left

-- What may be on the disk behind all of these moves.
abbrev pub disk_after : Files → (Files → Type 0) → List Move → Files → Type 0
disk_after now disk [] left = disk left
disk_after now disk (m ∷ moves) left = disk_after (moved now m) (disk_behind now disk m) moves left

-- each file is placed, and synced before the next one is
abbrev pub synced_each : List Put → List Move
synced_each [] = []
synced_each (p ∷ puts) = placing p ∷ Sync ∷ synced_each puts

-- the last file of a block syncs the block, and then places it
abbrev pub synced_placings : Bool → List Put → Put → List Move
synced_placings true staged p = Sync ∷ synced_each (staged ++ p ∷ [])
synced_placings false staged p = []

abbrev pub synced_moves_behind : List Put → List Put → List Move
synced_moves_behind staged [] = []
synced_moves_behind staged (p ∷ puts) = writing p ∷ (synced_placings p.ends staged p ++ synced_moves_behind (staged_with p.ends staged p) puts)

-- the moves of files that are put one behind another, and synced
abbrev pub synced_moves_of : List Put → List Move
synced_moves_of puts = synced_moves_behind [] puts
