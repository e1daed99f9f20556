use Rattle.std.proofs.Common.{rules, ◌≡◌, ◌+◌, [], ◌∷◌, ◌++◌, ◌∙◌, sym, ap, subst}
use Rattle.folder.specs.Puts.{put_names, writing}
use Rattle.folder.specs.Prefixes.{IsFailedPut}
use Rattle.folder.specs.StagedFiles.{staged_names}
use Rattle.item_io.specs.Items.{item_value}
use Rattle.item_io.specs.Outlets.{BreaksOff, Grows}
use Rattle.item_io.specs.FolderMoves.{HoldsFiles, HoldsFilesUpTo, IsBegunPut, ends_block, names_with, put_of, renamings}
use Rattle.item_io.proofs.Filing.{files-grow, files-stop, files-break}
use Rattle.item_io.proofs.folder_outlet.FolderOutletOutlet.put.Goals as goal

pub returns-in-Ok-clause-grown : goal.returns-in-Ok-clause-grown
returns-in-Ok-clause-grown g c =
    let item = item_value c.args.item.now in
    let well : c.args.self.now.failures ≡ 0 = search rules in
    let syncs_is : c.self.inside.syncs ≡ c.args.self.now.syncs = ap (λ v. v.syncs) c.self.view_is in
    let moves : g.F.Folder.made c.put_file.new.folder ≡ g.F.Folder.made c.args.self.now.folder ++ writing (put_of item) ∷ renamings c.args.self.now.syncs (ends_block item) c.args.self.now.staged (put_names (put_of item)) = search rules in
    let names : staged_names c.put_file.new.staged.items ≡ names_with (ends_block item) c.args.self.now.staged (put_names (put_of item)) = search rules in
    subst (λ b. Grows (HoldsFiles c.args.self.now.syncs (g.F.Folder.made c.args.self.now.folder) c.args.self.now.staged c.args.self.now.failures)
    (HoldsFiles b (g.F.Folder.made c.put_file.new.folder) (staged_names c.put_file.new.staged.items) c.self.inside.failures) (item ∷ []))
    (sym syncs_is)
    (files-grow c.args.self.now.syncs (g.F.Folder.made c.args.self.now.folder) (g.F.Folder.made c.put_file.new.folder) c.args.self.now.staged (staged_names c.put_file.new.staged.items) c.args.self.now.failures c.self.inside.failures item well moves names)

pub returns-in-Err-clause-kept : goal.returns-in-Err-clause-kept
returns-in-Err-clause-kept g c =
    let item = item_value c.args.item.now in
    let well : c.args.self.now.failures ≡ 0 = search rules in
    let one_more : c.self.inside.failures + 1 ≡ c.args.self.now.failures + 1 = search rules in
    let folder_is : c.self.inside.folder ≡ c.args.self.now.folder = ap (λ v. v.folder) c.self.view_is in
    let staged_is : staged_names c.self.inside.staged.items ≡ c.args.self.now.staged = ap (λ v. v.staged) c.self.view_is in
    let syncs_is : c.self.inside.syncs ≡ c.args.self.now.syncs = ap (λ v. v.syncs) c.self.view_is in
    let s = subst (λ b. IsBegunPut b (g.F.Folder.made c.self.inside.folder) (g.F.Folder.made c.put_file.new.folder) (staged_names c.self.inside.staged.items) (put_of item)) syncs_is c.in-Err.ensures.stopped in
    let moves : g.F.Folder.made c.put_file.new.folder ≡ g.F.Folder.made c.args.self.now.folder ++ s.0 = s.1 ∙ ap (λ f. g.F.Folder.made f ++ s.0) folder_is in
    let stopped = subst (λ l. IsFailedPut (renamings c.args.self.now.syncs (ends_block item) l (put_names (put_of item))) (put_of item) s.0) staged_is s.2 in
    subst (λ b. Grows (HoldsFiles c.args.self.now.syncs (g.F.Folder.made c.args.self.now.folder) c.args.self.now.staged c.args.self.now.failures)
    (HoldsFiles b (g.F.Folder.made c.put_file.new.folder) (staged_names c.put_file.new.staged.items) (c.self.inside.failures + 1)) [])
    (sym syncs_is)
    (files-stop c.args.self.now.syncs (g.F.Folder.made c.args.self.now.folder) (g.F.Folder.made c.put_file.new.folder) s.0 c.args.self.now.staged (staged_names c.put_file.new.staged.items) c.args.self.now.failures (c.self.inside.failures + 1) item well one_more moves stopped)

pub returns-in-Err-clause-refused : goal.returns-in-Err-clause-refused
returns-in-Err-clause-refused g c well =
    let item = item_value c.args.item.now in
    let folder_is : c.self.inside.folder ≡ c.args.self.now.folder = ap (λ v. v.folder) c.self.view_is in
    let staged_is : staged_names c.self.inside.staged.items ≡ c.args.self.now.staged = ap (λ v. v.staged) c.self.view_is in
    let syncs_is : c.self.inside.syncs ≡ c.args.self.now.syncs = ap (λ v. v.syncs) c.self.view_is in
    let s = subst (λ b. IsBegunPut b (g.F.Folder.made c.self.inside.folder) (g.F.Folder.made c.put_file.new.folder) (staged_names c.self.inside.staged.items) (put_of item)) syncs_is c.in-Err.ensures.stopped in
    let moves : g.F.Folder.made c.put_file.new.folder ≡ g.F.Folder.made c.args.self.now.folder ++ s.0 = s.1 ∙ ap (λ f. g.F.Folder.made f ++ s.0) folder_is in
    let stopped = subst (λ l. IsFailedPut (renamings c.args.self.now.syncs (ends_block item) l (put_names (put_of item))) (put_of item) s.0) staged_is s.2 in
    subst (λ b. BreaksOff (HoldsFiles c.args.self.now.syncs (g.F.Folder.made c.args.self.now.folder) c.args.self.now.staged c.args.self.now.failures)
    (HoldsFilesUpTo b (g.F.Folder.made c.put_file.new.folder)) [] item)
    (sym syncs_is)
    (files-break c.args.self.now.syncs (g.F.Folder.made c.args.self.now.folder) (g.F.Folder.made c.put_file.new.folder) s.0 c.args.self.now.staged c.args.self.now.failures item well moves stopped)
