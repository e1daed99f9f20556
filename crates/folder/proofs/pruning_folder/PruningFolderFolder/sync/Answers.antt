use Rattle.std.proofs.Common.{ap, refl, sym}
use Rattle.folder.specs.Moves.{Sync}
use Rattle.folder.specs.Pruning.{other_moves, prunings}
use Rattle.folder.proofs.Results.{OnErr-map, OnOk-map, either-way}
use Rattle.folder.proofs.OtherMoves.{another, none-by}
use Rattle.folder.proofs.pruning_folder.PruningFolderFolder.sync.Goals as goal

pub returns-clause-made : goal.returns-clause-made
returns-clause-made g c = rw (sym c.self.view_is) (OnOk-map c.sync.result (another Sync _ _ refl) c.sync.ensures.made)

pub returns-clause-kept : goal.returns-clause-kept
returns-clause-kept g c = rw (sym c.self.view_is) (OnErr-map c.sync.result (ap other_moves) c.sync.ensures.kept)

pub returns-clause-pruned : goal.returns-clause-pruned
returns-clause-pruned g c = rw (sym c.self.view_is)
    (either-way c.sync.result
    (OnOk-map c.sync.result (none-by Sync _ _ (λ count. refl)) c.sync.ensures.made)
    (OnErr-map c.sync.result (ap prunings) c.sync.ensures.kept))
