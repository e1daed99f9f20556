use Rattle.std.proofs.lemmas.Result.{err_from_is_err_and}
use Rattle.channel_folder.specs.Shut.{CannotRead}
use Rattle.channel_folder.proofs.Stopping.{not-read}
use Rattle.channel_folder.proofs.standing.read_one.Goals as goal

pub returns-in_err-texts-clause-err : goal.returns-in_err-texts-clause-err
returns-in_err-texts-clause-err g c =
    let folder = c.args.folder.now in
    let told = err_from_is_err_and c.from_residual.result c.from_residual.ensures.1 in
    rw (told.1, told.2)
    (not-read (CannotRead (g.F.FolderReader.refuses folder) (g.F.FilesByName.shuts folder)) (g.F.FolderReader.gives folder) (g.F.FolderReader.lacks folder)
    c.args.asked.now c.in_err-texts.field-0.0.fault c.in_err-texts.ensures.shut)
