use Rattle.std.proofs.Common.{rules, ◌≡◌, [], ◌∷◌, ◌++◌, ap, sym, subst}
use Rattle.folder.specs.Puts.{put_names, writing}
use Rattle.folder.specs.StagedFiles.{staged_names}
use Rattle.item_io.specs.Items.{segment_with}
use Rattle.item_io.specs.Outlets.{Grows}
use Rattle.item_io.specs.FolderMoves.{HoldsFiles, put_of}
use Rattle.item_io.proofs.Filing.{files-grow}
use Rattle.item_io.proofs.folder_outlet.FolderOutletOutlet.take.Goals as goal

pub returns-clause-taken : goal.returns-clause-taken
returns-clause-taken g c took =
    let item = segment_with c.args._rendition c.args.number c.args.name.now c.args.file.bytes in
    let well : c.args.self.now.failures ≡ 0 = search rules in
    let syncs_is : c.self.inside.syncs ≡ c.args.self.now.syncs = ap (λ v. v.syncs) c.self.view_is in
    let moves : g.F.Folder.made c.take_file.new.folder ≡ g.F.Folder.made c.args.self.now.folder ++ writing (put_of item) ∷ [] = search rules in
    let names : staged_names c.take_file.new.staged.items ≡ c.args.self.now.staged ++ put_names (put_of item) ∷ [] = search rules in
    subst (λ b. Grows (HoldsFiles c.args.self.now.syncs (g.F.Folder.made c.args.self.now.folder) c.args.self.now.staged c.args.self.now.failures)
    (HoldsFiles b (g.F.Folder.made c.take_file.new.folder) (staged_names c.take_file.new.staged.items) c.self.inside.failures) (item ∷ []))
    (sym syncs_is)
    (files-grow c.args.self.now.syncs (g.F.Folder.made c.args.self.now.folder) (g.F.Folder.made c.take_file.new.folder) c.args.self.now.staged (staged_names c.take_file.new.staged.items) c.args.self.now.failures c.self.inside.failures item well moves names)
