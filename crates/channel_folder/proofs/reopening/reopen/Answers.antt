use Rattle.std.proofs.Common.{inr, refl}
use Rattle.std.proofs.lemmas.Result.{err_from_is_err_and}
use Rattle.channel_folder.specs.Shut.{CannotRead}
use Rattle.channel_folder.proofs.Stopping.{not-by-one}
use Rattle.channel_folder.proofs.reopening.reopen.Goals as goal

pub returns-in_err-found-clause-err : goal.returns-in_err-found-clause-err
returns-in_err-found-clause-err g c =
    let p = err_from_is_err_and c.from_residual.result c.from_residual.ensures.1 in
    rw (p.1, p.2)
    (not-by-one (CannotRead (g.F.FolderReader.refuses c.args.folder.now) (g.F.FilesByName.shuts c.args.folder.now)) (g.F.FolderReader.gives c.args.folder.now) (g.F.FolderReader.lacks c.args.folder.now) c.args.scan.now c.args.kind c.args.asked.now _ c.in_err-found.ensures.err)

pub returns-in_err-evened-clause-err : goal.returns-in_err-evened-clause-err
returns-in_err-evened-clause-err g c =
    let p = err_from_is_err_and c.from_residual-in_err-evened.result c.from_residual-in_err-evened.ensures.1 in
    let uneven = c.in_err-evened.ensures.uneven in
    rw (p.1, p.2, uneven.1) (inr (refl, record { found = c.in_ok-found.found.items; all = c.in_ok-found.ensures.ok; uneven = uneven.2 }))
