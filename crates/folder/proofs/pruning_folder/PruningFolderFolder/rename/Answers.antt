use Rattle.std.proofs.Common.{ap, refl, sym}
use Rattle.folder.specs.Moves.{Rename}
use Rattle.folder.specs.Pruning.{other_moves, prunings}
use Rattle.folder.proofs.Results.{OnErr-map, OnOk-map, either-way}
use Rattle.folder.proofs.OtherMoves.{another, none-by}
use Rattle.folder.proofs.pruning_folder.PruningFolderFolder.rename.Goals as goal

pub returns-clause-made : goal.returns-clause-made
returns-clause-made g c = rw (sym c.self.view_is) (OnOk-map c.rename.result (another (Rename c.args.old.now c.args.new.now) _ _ refl) c.rename.ensures.made)

pub returns-clause-kept : goal.returns-clause-kept
returns-clause-kept g c = rw (sym c.self.view_is) (OnErr-map c.rename.result (ap other_moves) c.rename.ensures.kept)

pub returns-clause-pruned : goal.returns-clause-pruned
returns-clause-pruned g c = rw (sym c.self.view_is)
    (either-way c.rename.result
    (OnOk-map c.rename.result (none-by (Rename c.args.old.now c.args.new.now) _ _ (λ count. refl)) c.rename.ensures.made)
    (OnErr-map c.rename.result (ap prunings) c.rename.ensures.kept))
