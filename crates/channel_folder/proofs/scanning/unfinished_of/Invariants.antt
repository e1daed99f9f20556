use Rattle.std.proofs.Common.{◌≡◌, take, map}
use Rattle.std.specs.Prelude.{filter}
use Rattle.std.specs.String.{string_bytes}
use Rattle.channel_folder.specs.Scans.{is_unfinished}
use Rattle.channel_folder.proofs.scanning.unfinished_of.Given as goal

abbrev pub invariant-loop-file : goal.invariant-loop-file
invariant-loop-file l = map string_bytes l.unfinished.items ≡ filter (is_unfinished (map (λ n. n.now) l.names)) (map string_bytes (take l.file-index l.files))
