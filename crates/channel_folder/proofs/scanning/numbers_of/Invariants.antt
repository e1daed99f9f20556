use Rattle.std.proofs.Common.{◌≡◌, take, map}
use Rattle.std.specs.String.{string_bytes}
use Rattle.channel_folder.specs.Scans.{numbers_in}
use Rattle.channel_folder.proofs.scanning.numbers_of.Given as goal

abbrev pub invariant-loop-file : goal.invariant-loop-file
invariant-loop-file l = l.numbers.items ≡ numbers_in (map string_bytes (take l.file-index l.files)) l.name
