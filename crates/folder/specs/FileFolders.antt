-- A folder of the file system.
use Rattle.std.specs.Prelude.{ℕ, Bool, List}
use Rattle.std.specs.String.{string_bytes}
use Rattle.folder.specs.declared.file_folder.FileFolder.{FileFolder}
use Rattle.folder.specs.Moves.{Move}
use Rattle.folder.specs.GhostMoves.{ghost_moves}

-- all that was done to it
abbrev pub file_moves : {R : Type 0} → FileFolder R → List Move
file_moves f = ghost_moves f.made.items

-- its path
abbrev pub folder_path : {R : Type 0} → FileFolder R → List ℕ
folder_path f = string_bytes f.path

-- whether each file was synced as it was written, so that it can be synced as a whole
abbrev pub may_sync : {R : Type 0} → FileFolder R → Bool
may_sync f = f.syncs
