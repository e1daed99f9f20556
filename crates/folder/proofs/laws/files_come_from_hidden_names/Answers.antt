use Rattle.std.proofs.Common.{subst, sym}
use Rattle.folder.specs.Pruning.{AreFromHidden}
use Rattle.folder.proofs.FromHidden.{from-others, when-from-hidden}
use Rattle.folder.proofs.laws.files_come_from_hidden_names.Goals as goal

pub returns : goal.returns
returns c = λ syncs puts moves fit is. from-others moves (subst AreFromHidden (sym is) (when-from-hidden syncs puts fit))
