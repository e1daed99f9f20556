use Rattle.std.proofs.Common.{refl, ap, Err, Some, None}
use Rattle.std.proofs.lemmas.Result.{err_from_is_err_and}
use Rattle.folder.specs.Rolling.{IsRolled, IsRolledInPart}
use Rattle.folder.specs.StagedFiles.{staged_names}
use Rattle.channel_folder.specs.CutOff.{IsCutOff}
use Rattle.channel.specs.Views.{view_by_name}
use Rattle.channel.proofs.Unread.{not-outlet, not-read}
use Rattle.channel.proofs.rolling.roll_one.Goals as goal

pub returns-in_err-block-clause-err : goal.returns-in_err-block-clause-err
returns-in_err-block-clause-err g c =
    let told = err_from_is_err_and c.from_residual.result c.from_residual.ensures.1 in
    rw (told.1, told.2)
    (not-read (view_by_name g.F.FolderReader.lists g.F.FolderReader.gives g.F.FolderReader.lacks g.F.FolderReader.refuses g.F.FilesByName.shuts g.F.Folder.made) c.args.name.now c.args.folder.now c.in_err-block.field-0.0
    (λ e. c.in_err-block.ensures.unread (ap Err e)))

pub returns-in_default-clause-ok : goal.returns-in_default-clause-ok
returns-in_default-clause-ok g c =
    let cut : IsCutOff (g.F.FolderReader.gives c.args.folder.now) (g.F.FolderReader.lacks c.args.folder.now) c.args.name.now None = rw c.in_default.is at c.in_ok-block.ensures.ok in
    record { due = None; is = cut; rolls = refl }

pub returns-in_default-roll_forward-clause-err : goal.returns-in_default-roll_forward-clause-err
returns-in_default-roll_forward-clause-err g c =
    let cut : IsCutOff (g.F.FolderReader.gives c.args.folder.now) (g.F.FolderReader.lacks c.args.folder.now) c.args.name.now (Some (staged_names c.in-Some.block.items)) =
    rw c.in-Some.is at c.in_ok-block.ensures.ok in
    let stopped : IsRolledInPart (g.F.Folder.made c.args.folder.now) (g.F.Folder.made c.roll_forward.new.folder) (staged_names c.in-Some.block.items) =
    rw c.deref.ensures.value at c.in_default-roll_forward.ensures.stopped in
    rw c.into.ensures (record { due = staged_names c.in-Some.block.items; is = cut; rolls = stopped })

pub returns-clause-ok : goal.returns-clause-ok
returns-clause-ok g c =
    let cut : IsCutOff (g.F.FolderReader.gives c.args.folder.now) (g.F.FolderReader.lacks c.args.folder.now) c.args.name.now (Some (staged_names c.in-Some.block.items)) =
    rw c.in-Some.is at c.in_ok-block.ensures.ok in
    let rolled : IsRolled (g.F.Folder.made c.args.folder.now) (g.F.Folder.made c.roll_forward.new.folder) (staged_names c.in-Some.block.items) =
    rw c.deref.ensures.value at c.in-Ok.ensures.rolled in
    record { due = Some (staged_names c.in-Some.block.items); is = cut; rolls = rolled }

pub returns-in_err-block-clause-failed : goal.returns-in_err-block-clause-failed
returns-in_err-block-clause-failed g c =
    let told = err_from_is_err_and c.from_residual.result c.from_residual.ensures.1 in
    rw told.1 (λ is. absurd (not-outlet c.in_err-block.field-0.0 (cc (is, told.2))))
