-- Moves that only proofs read.
use Rattle.std.specs.Prelude.{List, map}
use Rattle.folder.specs.declared.ghost_move.GhostMove.{GhostMove}
use Rattle.folder.specs.declared.ghost_move.GhostMove.TheVariants.{Written, Renamed, Removed, Seen, Synced}
use Rattle.folder.specs.Moves.{Move, Write, Rename, Remove, Looked, Sync}

abbrev pub ghost_move : GhostMove → Move
ghost_move (Written name bytes) = Write name.items bytes.items
ghost_move (Renamed old new) = Rename old.items new.items
ghost_move (Removed name) = Remove name.items
ghost_move (Seen name there) = Looked name.items there
ghost_move Synced = Sync

abbrev pub ghost_moves : List GhostMove → List Move
ghost_moves moves = map ghost_move moves
