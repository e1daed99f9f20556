use Rattle.std.proofs.Common.{rules, ◌≡◌, ◌+◌, ◌++◌, ◌∷◌, [], List, take, subst, sym, ◌∙◌}
use Rattle.std.proofs.lemmas.List.{take_more}
use Rattle.folder.specs.declared.staged_file.StagedFile.{StagedFile}
use Rattle.folder.specs.Rolling.{IsRolled}
use Rattle.folder.specs.StagedFiles.{staged_names}
use Rattle.folder.proofs.Rolling.{rolled-in-part, rolled-more}
use Rattle.folder.proofs.roll.roll_forward.Goals as goal

-- one file more
pub loop-file-preserved : goal.loop-file-preserved
loop-file-preserved g c =
    let n = c.loop-file.file-index in
    let so_far = take n c.args.block.now in
    let made = g.F.Folder.made c.args.folder.now in
    let now = g.F.Folder.made c.roll_one.new.folder in
    let next : take (n + 1) c.args.block.now ≡ so_far ++ c.file-item.result ∷ [] = search (rules, take_more) in (
      subst (λ (l : List StagedFile). IsRolled made now (staged_names l)) (sym next)
          (rolled-more made (g.F.Folder.made c.loop-file.folder) now so_far c.file-item.result c.in-Ok._placed c.loop-file.invariant.0 c.in-Ok.ensures.rolled),
      c.in-Ok.ensures.pruned ∙ c.loop-file.invariant.1,
    )

-- those before it, and a look
pub returns-in_default-clause-stopped : goal.returns-in_default-clause-stopped
returns-in_default-clause-stopped g c =
    let n = c.loop-file.file-index in
    let next : take (n + 1) c.args.block.now ≡ take n c.args.block.now ++ c.file-item.result ∷ [] = search (rules, take_more) in
    let did = c.in_default.ensures.stopped in
    rolled-in-part (g.F.Folder.made c.args.folder.now) (g.F.Folder.made c.loop-file.folder) (g.F.Folder.made c.roll_one.new.folder) n c.args.block.now c.file-item.result
    next c.loop-file.invariant.0 did.0 did.1 did.2
