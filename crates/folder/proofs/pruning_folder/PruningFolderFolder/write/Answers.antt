use Rattle.std.proofs.Common.{◌≡◌, ◌∙◌, true, refl, sym}
use Rattle.folder.specs.Moves.{Write, is_hidden}
use Rattle.folder.proofs.Results.{OnErr-map, OnOk-map, either-way}
use Rattle.folder.proofs.OtherMoves.{another, cut-off, failed-pruned, none-by}
use Rattle.folder.proofs.pruning_folder.PruningFolderFolder.write.Goals as goal

pub returns-clause-made : goal.returns-clause-made
returns-clause-made g c = rw (sym c.self.view_is) (OnOk-map c.write.result (another (Write c.args.name.now c.args.bytes.now) _ _ refl) c.write.ensures.made)

pub returns-clause-cut_off : goal.returns-clause-cut_off
returns-clause-cut_off g c = rw (sym c.self.view_is) (OnErr-map c.write.result (cut-off c.args.name.now c.args.bytes.now _ _) c.write.ensures.cut_off)

pub returns-clause-pruned : goal.returns-clause-pruned
returns-clause-pruned g c =
    let hidden : is_hidden c.args.name.now ≡ true = sym c.is_hidden-is_part.ensures ∙ c.if-not-is_part.false in
    rw (sym c.self.view_is)
    (either-way c.write.result
    (OnOk-map c.write.result (none-by (Write c.args.name.now c.args.bytes.now) _ _ (λ count. refl)) c.write.ensures.made)
    (OnErr-map c.write.result (failed-pruned c.args.name.now c.args.bytes.now _ _ hidden) c.write.ensures.cut_off))
