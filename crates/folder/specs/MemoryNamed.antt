-- The names that files in memory are given.
use Rattle.std.specs.Prelude.{ℕ, Option, Some, None, List}
use Rattle.std.specs.String.{string_bytes}
use Rattle.folder.specs.declared.memory_move.MemoryMove.{MemoryMove}
use Rattle.folder.specs.declared.memory_move.MemoryMove.TheVariants.{Written, Renamed, Removed, Seen, Synced}

-- the name that a file has behind a move that writes or renames it
abbrev pub named : MemoryMove → Option (List ℕ)
named (Written name bytes) = Some (string_bytes name)
named (Renamed old new) = Some (string_bytes new)
named (Removed name) = None
named (Seen name there) = None
named Synced = None
