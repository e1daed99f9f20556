use Rattle.std.proofs.Common.{take}
use Rattle.channel_folder.specs.Reopened.{AreSizes}
use Rattle.channel_folder.proofs.reading_back.sizes_of.Given as goal

abbrev pub invariant-loop-entry : goal.invariant-loop-entry
invariant-loop-entry g l = AreSizes (g.F.FolderReader.gives l.folder) l.name (take l.entry-index l.entries) l.sizes.items
