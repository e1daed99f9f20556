use Rattle.std.proofs.Common.{◌≡◌, ◌++◌, take}
use Rattle.folder.specs.StagedFiles.{staged_names}
use Rattle.item_io.specs.FolderMoves.{renaming_each}
use Rattle.item_io.proofs.folder_put.place_each.Given as goal

abbrev pub invariant-loop-file : goal.invariant-loop-file
invariant-loop-file g l = (g.F.Folder.made l.folder ≡ g.F.Folder.made l.initial.folder ++ renaming_each l.syncs (staged_names (take l.file-index l.staged)))
    × (g.F.Folder.pruned l.folder ≡ g.F.Folder.pruned l.initial.folder)
