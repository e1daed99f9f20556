use Rattle.std.proofs.Common.{◌≡◌, take}
use Rattle.folder.specs.Rolling.{IsRolled}
use Rattle.folder.specs.StagedFiles.{staged_names}
use Rattle.folder.proofs.roll.roll_forward.Given as goal

abbrev pub invariant-loop-file : goal.invariant-loop-file
invariant-loop-file g l = IsRolled (g.F.Folder.made l.initial.folder) (g.F.Folder.made l.folder) (staged_names (take l.file-index l.block))
    × (g.F.Folder.pruned l.folder ≡ g.F.Folder.pruned l.initial.folder)
