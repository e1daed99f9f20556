use Rattle.std.proofs.Common.{◌≡◌, map, take, []}
use Rattle.std.specs.String.{string_bytes}
use Rattle.folder.specs.MemoryFolders.{moves_in_memory}
use Rattle.folder.specs.Moves.{no_files, standing}
use Rattle.folder.proofs.Naming.{names_after}
use Rattle.folder.proofs.memory_reader.names_in.Given as goal

abbrev pub invariant-loop-made : goal.invariant-loop-made
invariant-loop-made l = map string_bytes l.names.items ≡ names_after (standing no_files (moves_in_memory l.folder)) [] (take l.made-index l.moves)
