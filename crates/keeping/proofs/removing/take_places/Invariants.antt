use Rattle.std.proofs.Common.{◌-◌, ◌≡◌}
use Rattle.folder.specs.Pruning.{other_moves}
use Rattle.keeping.specs.OneByOne.{HaveGone}
use Rattle.keeping.proofs.removing.take_places.Given as goal

abbrev pub invariant-loop-gone : goal.invariant-loop-gone
invariant-loop-gone g l =
    HaveGone l.name l.base l.initial.gone l.gone l.until (g.F.Folder.made l.initial.files.folder) (g.F.Folder.made l.files.folder)
    × (other_moves (g.F.Folder.made l.files.folder) ≡ other_moves (g.F.Folder.made l.initial.files.folder))
    × (l.files ≡ record l.initial.files { folder = l.files.folder })

abbrev pub decreases-loop-gone : goal.decreases-loop-gone
decreases-loop-gone g l = l.until - l.gone
