use Rattle.std.proofs.Common.{◌≡◌, length}
use Rattle.channel_folder.specs.Reopened.{StandTo}
use Rattle.channel_folder.proofs.finding.find_each.Given as goal

abbrev pub invariant-loop-r : goal.invariant-loop-r
invariant-loop-r g l = (length l.found.items ≡ l.r) × StandTo (g.F.FolderReader.gives l.folder) (g.F.FolderReader.lacks l.folder) l.scan l.asked l.found.items l.r
