use Rattle.std.specs.Prelude.{not}
use Rattle.std.proofs.Common.{◌∙◌, ap, sym}
use Rattle.folder.specs.Moves.{Remove}
use Rattle.folder.specs.Pruning.{prunings}
use Rattle.folder.proofs.Results.{OnErr-map, OnOk-map, either-way}
use Rattle.folder.proofs.OtherMoves.{another, removed-pruned}
use Rattle.folder.proofs.pruning_folder.PruningFolderFolder.remove.Goals as goal

pub returns-clause-made : goal.returns-clause-made
returns-clause-made g c = rw (sym c.self.view_is)
    (OnOk-map c.remove.result (another (Remove c.args.name.now) _ _ (ap not (sym c.is_hidden.ensures ∙ c.if-not-is_hidden.false))) c.remove.ensures.made)

pub returns-clause-pruned : goal.returns-clause-pruned
returns-clause-pruned g c = rw (sym c.self.view_is)
    (either-way c.remove.result
    (OnOk-map c.remove.result (removed-pruned c.args.name.now _ _ (sym c.is_hidden.ensures ∙ c.if-not-is_hidden.false)) c.remove.ensures.made)
    (OnErr-map c.remove.result (ap prunings) c.remove.ensures.kept))
