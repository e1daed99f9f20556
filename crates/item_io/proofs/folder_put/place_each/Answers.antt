use Rattle.std.proofs.Common.{rules, ◌≡◌, ◌<◌, ◌∷◌, ◌++◌, length, take, drop, get_or, suc, sym, ap, ◌∙◌, ◌+◌, arith, subst, append_assoc}
use Rattle.folder.specs.StagedFiles.{staged_file_names, staged_names}
use Rattle.item_io.specs.FolderMoves.{IsBegun, renaming, renaming_each, syncing}
use Rattle.item_io.proofs.Filing.{begun-more, renamed-next, renamed-split}
use Rattle.item_io.proofs.folder_put.place_each.Goals as goal

pub returns-then-is_err-clause-err : goal.returns-then-is_err-clause-err
returns-then-is_err-clause-err g c =
    let n = c.loop-file.file-index in
    let staged = c.args.staged.now in
    let within : n < length staged = search rules in
    let err : IsBegun (g.F.Folder.made c.loop-file.folder) (g.F.Folder.made c.place.new.folder) (renaming (staged_file_names c.file-item.result) ∷ syncing c.args.syncs) = search rules in
    let here = subst (λ f. IsBegun (g.F.Folder.made c.loop-file.folder) (g.F.Folder.made c.place.new.folder) (renaming (staged_file_names f) ∷ syncing c.args.syncs)) c.file-item.is err in
    begun-more _ _ _ _ _ (renaming_each c.args.syncs (staged_names (drop (suc n) staged))) _ c.loop-file.invariant.0 (renamed-split c.args.syncs n staged c.file-item.result within) here

pub loop-file-preserved : goal.loop-file-preserved
loop-file-preserved g c =
    let n = c.loop-file.file-index in
    let staged = c.args.staged.now in
    let within : n < length staged = search rules in
    let one : suc n ≡ n + 1 = omega arith in
    let ok : g.F.Folder.made c.place.new.folder ≡ g.F.Folder.made c.loop-file.folder ++ renaming (staged_file_names c.file-item.result) ∷ syncing c.args.syncs = search rules in (
      ok
          ∙ ap (λ f. g.F.Folder.made c.loop-file.folder ++ renaming (staged_file_names f) ∷ syncing c.args.syncs) c.file-item.is
          ∙ ap (λ l. l ++ renaming (staged_file_names (get_or staged n c.file-item.result)) ∷ syncing c.args.syncs) c.loop-file.invariant.0
          ∙ append_assoc (g.F.Folder.made c.args.folder.now) (renaming_each c.args.syncs (staged_names (take n staged))) (renaming (staged_file_names (get_or staged n c.file-item.result)) ∷ syncing c.args.syncs)
          ∙ ap (λ l. g.F.Folder.made c.args.folder.now ++ l) (sym (renamed-next c.args.syncs n staged c.file-item.result within))
          ∙ ap (λ k. g.F.Folder.made c.args.folder.now ++ renaming_each c.args.syncs (staged_names (take k staged))) one,
      c.place.ensures.pruned ∙ c.loop-file.invariant.1,
    )
