use Rattle.std.proofs.Common.{◌≡◌, map, take, false}
use Rattle.std.specs.String.{string_bytes}
use Rattle.folder.specs.MemoryNames.{has_name}
use Rattle.folder.proofs.memory_reader.has.Given as goal

abbrev pub invariant-loop-one : goal.invariant-loop-one
invariant-loop-one l = has_name (map string_bytes (take l.one-index l.names)) l.name ≡ false
