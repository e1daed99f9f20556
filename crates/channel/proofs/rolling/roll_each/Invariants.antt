use Rattle.std.proofs.Common.{◌≡◌, take}
use Rattle.channel.specs.Reading.{names_of}
use Rattle.channel.specs.Rolling.{RollsEach}
use Rattle.channel.specs.Views.{view_by_name}
use Rattle.channel.proofs.rolling.roll_each.Given as goal

abbrev pub invariant-loop-rendition : goal.invariant-loop-rendition
invariant-loop-rendition g l = record {
  rolls : RollsEach (view_by_name g.F.FolderReader.lists g.F.FolderReader.gives g.F.FolderReader.lacks g.F.FolderReader.refuses g.F.FilesByName.shuts g.F.Folder.made)
      (names_of (take l.rendition-index l.settings.renditions)) l.initial.folder l.folder;
  pruned : g.F.Folder.pruned l.folder ≡ g.F.Folder.pruned l.initial.folder;
}
