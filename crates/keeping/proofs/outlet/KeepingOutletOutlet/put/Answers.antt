use Rattle.std.proofs.Common.{rules, ℕ, List, [], ◌∷◌, ◌++◌, sym, subst}
use Rattle.item_io.specs.FolderMoves.{FolderState}
use Rattle.item_io.specs.Outlets.{Grows}
use Rattle.item_io.specs.Items.{item_value}
use Rattle.keeping.specs.Clearing.{AreCleared}
use Rattle.keeping.specs.Holding.{KeepingState, KeptBy}
use Rattle.keeping.proofs.Telling.{noted-all-same, same-all, stay-behind}
use Rattle.keeping.proofs.Clearing.{cleared-more}
use Rattle.keeping.proofs.Putting.{put-broke, put-failed, put-well, refused, refused-by}
use Rattle.keeping.proofs.outlet.KeepingOutletOutlet.put.Goals as goal

pub returns-then-is_err-clause-kept : goal.returns-then-is_err-clause-kept
returns-then-is_err-clause-kept g c = rw (sym c.self.view_is)
    (let before : KeepingState _ = record { files = c.self.inside.files; renditions = c.self.inside.renditions.items; lags = c.self.inside.lags; missed = c.self.inside.missed.items } in
    subst (λ (f : FolderState _). Grows (KeptBy g.F.Folder.made before) (KeptBy g.F.Folder.made (record { files = f; renditions = c.note.new.renditions.items; lags = c.self.inside.lags; missed = c.self.inside.missed.items })) [])
    (sym c.refuse.ensures) (refused g.F.Folder.made before c.note.new.renditions.items (search rules)))

pub returns-then-is_err-clause-refused : goal.returns-then-is_err-clause-refused
returns-then-is_err-clause-refused g c = rw (sym c.self.view_is)
    (λ well. refused-by g.F.Folder.made (record { files = c.self.inside.files; renditions = c.self.inside.renditions.items; lags = c.self.inside.lags; missed = c.self.inside.missed.items }) c.refuse.new.self c.note.new.renditions.items (item_value c.args.item.now) c.refuse.ensures (search rules) well)

pub returns-in-Err-clause-kept : goal.returns-in-Err-clause-kept
returns-in-Err-clause-kept g c = rw (sym c.self.view_is)
    (put-failed g.F.Folder.made (record { files = c.self.inside.files; renditions = c.self.inside.renditions.items; lags = c.self.inside.lags; missed = c.self.inside.missed.items }) (record { files = c.put.new.self; renditions = c.note.new.renditions.items; lags = c.self.inside.lags; missed = c.self.inside.missed.items })
    (item_value c.args.item.now) (search rules) c.in-Err.ensures.kept c.in-Err.ensures.failed c.put.ensures.pruned)

pub returns-in-Err-clause-refused : goal.returns-in-Err-clause-refused
returns-in-Err-clause-refused g c = rw (sym c.self.view_is)
    (λ well. put-broke g.F.Folder.made (record { files = c.self.inside.files; renditions = c.self.inside.renditions.items; lags = c.self.inside.lags; missed = c.self.inside.missed.items }) (record { files = c.put.new.self; renditions = c.note.new.renditions.items; lags = c.self.inside.lags; missed = c.self.inside.missed.items })
    (item_value c.args.item.now) (search rules) (c.in-Err.ensures.refused well) c.put.ensures.syncs c.put.ensures.pruned well)

pub returns-clause-grown : goal.returns-clause-grown
returns-clause-grown g c = rw (sym c.self.view_is)
    (put-well g.F.Folder.made (record { files = c.self.inside.files; renditions = c.self.inside.renditions.items; lags = c.self.inside.lags; missed = c.self.inside.missed.items }) (record { files = c.put.new.self; renditions = c.note.new.renditions.items; lags = c.self.inside.lags; missed = c.self.inside.missed.items })
    (record { files = c.let_go.new.files; renditions = c.let_go.new.renditions.items; lags = c.is_err-self-inside.result; missed = c.note_missed.new.missed.items })
    (item_value c.args.item.now) (search rules) (search rules) c.in_default.ensures.named c.in_default.ensures.grown c.in_default.ensures.ok c.put.ensures.syncs c.put.ensures.pruned c.let_go.ensures.gone c.let_go.ensures.others c.let_go.ensures.same)

pub returns-then-is_err-clause-stay : goal.returns-then-is_err-clause-stay
returns-then-is_err-clause-stay g c = rw (sym c.self.view_is) (same-all c.self.inside.renditions.items c.note.new.renditions.items (search rules))

pub returns-in-Err-clause-stay : goal.returns-in-Err-clause-stay
returns-in-Err-clause-stay g c = rw (sym c.self.view_is)
    (noted-all-same (item_value c.args.item.now) c.self.inside.renditions.items c.note.new.renditions.items (search rules))

pub returns-clause-stay : goal.returns-clause-stay
returns-clause-stay g c = rw (sym c.self.view_is)
    (stay-behind (item_value c.args.item.now) c.self.inside.renditions.items c.note.new.renditions.items c.let_go.new.renditions.items
    (g.F.Folder.made c.put.new.self.folder) (g.F.Folder.made c.let_go.new.files.folder) (search rules) c.let_go.ensures.gone)

pub returns-clause-cleared : goal.returns-clause-cleared
returns-clause-cleared g c = rw (sym c.self.view_is)
    (λ items cleared. subst (λ (missed : List ℕ). AreCleared missed c.let_go.new.renditions.items (items ++ item_value c.args.item.now ∷ [])) (sym c.note_missed.ensures)
    (cleared-more (item_value c.args.item.now) items c.self.inside.renditions.items c.note.new.renditions.items c.let_go.new.renditions.items c.self.inside.missed.items c.is_err-self-inside.result
    (g.F.Folder.made c.put.new.self.folder) (g.F.Folder.made c.let_go.new.files.folder) (search rules) c.let_go.ensures.gone (search rules) (search rules) cleared))
