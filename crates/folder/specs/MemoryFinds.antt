-- What a move of a folder in memory says of the file of a name.
use Rattle.std.specs.Prelude.{ℕ, List, Option, Some, None}
use Rattle.folder.specs.declared.memory_find.Said.{Said}
use Rattle.folder.specs.declared.memory_find.Said.TheVariants.{Is, Gone, Was}
use Rattle.folder.specs.Moves.{Files}

-- the file behind the move, where these files stood before it
abbrev pub said_of : Files → Said → Option (List ℕ)
said_of files (Is bytes) = Some bytes.now
said_of files Gone = None
said_of files (Was name) = files name.now
