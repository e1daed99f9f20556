use Rattle.std.proofs.Common.{◌≡◌, take, map}
use Rattle.channel_folder.specs.Files.{unfinished_names}
use Rattle.channel_folder.proofs.scanning.parts_of_each.Given as goal

abbrev pub invariant-loop-name : goal.invariant-loop-name
invariant-loop-name l = l.each.items ≡ map unfinished_names (map (λ n. n.now) (take l.name-index l.names))
