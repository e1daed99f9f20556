use Rattle.std.proofs.Common.{◌≡◌, length, map, take}
use Rattle.std.specs.Path.{path_buf_bytes}
use Rattle.commands.specs.Checking.{segment_paths}
use Rattle.commands.proofs.checking.segment_room.Given as goal

abbrev pub invariant-loop-entry : goal.invariant-loop-entry
invariant-loop-entry l = record {
  paths : map path_buf_bytes l.paths.items ≡ take l.entry-index (segment_paths l.playlist l.listing);
  places : length l.segments.items ≡ length l.paths.items;
}
