use Rattle.std.proofs.Common.{ap, refl, sym}
use Rattle.folder.specs.Moves.{Looked}
use Rattle.folder.specs.Pruning.{prunings}
use Rattle.folder.proofs.Results.{IfOk-map, IfOk-or}
use Rattle.folder.proofs.OtherMoves.{another, none-by}
use Rattle.folder.proofs.pruning_folder.PruningFolderFolder.has.Goals as goal

pub returns-clause-made : goal.returns-clause-made
returns-clause-made g c = rw (sym c.self.view_is) (IfOk-map c.has.result (λ there. another (Looked c.args.name.now there) _ _ refl) c.has.ensures.made)

pub returns-clause-pruned : goal.returns-clause-pruned
returns-clause-pruned g c = rw (sym c.self.view_is)
    (IfOk-or c.has.result (λ there. none-by (Looked c.args.name.now there) _ _ (λ count. refl)) (ap prunings) c.has.ensures.made c.has.ensures.kept)
