use Rattle.std.proofs.Common.{ap, refl, sym}
use Rattle.folder.specs.Moves.{Write}
use Rattle.folder.specs.Pruning.{prunings}
use Rattle.folder.proofs.Results.{by-answer}
use Rattle.folder.proofs.OtherMoves.{another, none-by}
use Rattle.folder.proofs.pruning_folder.PruningFolderFolder.take.Goals as goal

pub returns-clause-made : goal.returns-clause-made
returns-clause-made g c = rw (sym c.self.view_is) (λ taken. another (Write c.args.name.now c.args.file.bytes) _ _ refl (c.take.ensures.made taken))

pub returns-clause-pruned : goal.returns-clause-pruned
returns-clause-pruned g c = rw (sym c.self.view_is)
    (by-answer c.take.result
    (λ taken. none-by (Write c.args.name.now c.args.file.bytes) _ _ (λ count. refl) (c.take.ensures.made taken))
    (λ left. ap prunings (c.take.ensures.kept left)))
