-- A folder in memory.
use Rattle.std.specs.Prelude.{ℕ, List}
use Rattle.folder.specs.declared.memory_folder.MemoryFolder.{MemoryFolder}
use Rattle.folder.specs.Moves.{Move}
use Rattle.folder.specs.MemoryMoves.{memory_moves}

-- all that was done to it
abbrev pub moves_in_memory : MemoryFolder → List Move
moves_in_memory f = memory_moves f.moves.items

-- which of the next moves fails, counted from 1: none for 0
abbrev pub fails_at : MemoryFolder → ℕ
fails_at f = f.until
