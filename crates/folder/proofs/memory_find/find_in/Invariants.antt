use Rattle.std.proofs.Common.{◌≡◌, ◌-◌, length, take}
use Rattle.folder.specs.MemoryMoves.{memory_moves}
use Rattle.folder.specs.Moves.{no_files, standing}
use Rattle.folder.proofs.memory_find.find_in.Given as goal

abbrev pub invariant-loop-done : goal.invariant-loop-done
invariant-loop-done l = standing no_files (memory_moves l.moves) l.name ≡ standing no_files (memory_moves (take (length l.moves - l.done) l.moves)) l.wanted
