use Rattle.std.specs.Prelude.{not}
use Rattle.std.proofs.Common.{◌∙◌, ap, sym}
use Rattle.folder.specs.Moves.{Remove}
use Rattle.folder.specs.Pruning.{other_moves}
use Rattle.folder.proofs.Results.{OnErr-map, OnOk-map, either-way}
use Rattle.folder.proofs.OtherMoves.{no-other}
use Rattle.folder.proofs.pruning_folder.PruningFolder.prune.Goals as goal

pub returns-clause-others : goal.returns-clause-others
returns-clause-others g c = rw (sym c.self.view_is)
    (either-way c.remove.result
    (OnOk-map c.remove.result (no-other (Remove c.args.name.now) _ _ (ap not (sym c.is_hidden.ensures ∙ c.if-is_hidden.false))) c.remove.ensures.made)
    (OnErr-map c.remove.result (ap other_moves) c.remove.ensures.kept))
