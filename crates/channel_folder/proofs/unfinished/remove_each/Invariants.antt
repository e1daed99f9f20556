use Rattle.std.proofs.Common.{◌≡◌, ◌++◌, take, map}
use Rattle.std.specs.String.{string_bytes}
use Rattle.channel_folder.specs.LetGo.{removing}
use Rattle.channel_folder.proofs.unfinished.remove_each.Given as goal

abbrev pub invariant-loop-name : goal.invariant-loop-name
invariant-loop-name g l = (g.F.Folder.made l.folder ≡ g.F.Folder.made l.initial.folder ++ removing (map string_bytes (take l.name-index l.names)))
    × (g.F.Folder.pruned l.folder ≡ g.F.Folder.pruned l.initial.folder)
