-- Moves of a folder in memory.
use Rattle.std.specs.Prelude.{List, map}
use Rattle.std.specs.String.{string_bytes}
use Rattle.folder.specs.declared.memory_move.MemoryMove.{MemoryMove}
use Rattle.folder.specs.declared.memory_move.MemoryMove.TheVariants.{Written, Renamed, Removed, Seen, Synced}
use Rattle.folder.specs.Moves.{Move, Write, Rename, Remove, Looked, Sync}

abbrev pub memory_move : MemoryMove → Move
memory_move (Written name bytes) = Write (string_bytes name) bytes.items
memory_move (Renamed old new) = Rename (string_bytes old) (string_bytes new)
memory_move (Removed name) = Remove (string_bytes name)
memory_move (Seen name there) = Looked (string_bytes name) there
memory_move Synced = Sync

abbrev pub memory_moves : List MemoryMove → List Move
memory_moves moves = map memory_move moves
